use Prim.Native.Nat.{ℕ, ◌-◌, max}
use mathlib.Core.Path.{◌≡◌, refl, ap, ◌∙◌}
use native.Mathlib.Omega.{arith}
use Rattle.words.specs.Search.{most_below}
use Rattle.fonts.specs.declared.Body.{Body}
use Rattle.fonts.specs.Strike.{start_from, body_of, extent_of}
use Rattle.fonts.proofs.Walking.{next_start, add-one}
use Rattle.fonts.proofs.Extents.{none-more-rows, more_rows}
use Rattle.fonts.proofs.rows_in_all.Invariants.{others}
use Rattle.fonts.proofs.rows_in_all.Goals as goal
use Rattle.fonts.proofs.rows_in_all.Goals.{After-of-body, At-loop-k}

body_is : (found : After-of-body) → found.of-body.result ≡ others found.first_at-at.result found.args.font.now found.loop-k.k
body_is found =
    found.of-body.ensures
    ∙ ap (body_of found.args.font.now)
    (next_start found.first_at-at.result found.args.font.now found.loop-k.k found.loop-k.at _ found.loop-k.invariant.1 found.word_at.ensures
    ∙ ap (start_from found.first_at-at.result found.args.font.now) (add-one found.loop-k.k))

pub loop-k-init : goal.loop-k-init
unfolding start_from
loop-k-init c = (omega arith, refl, none-more-rows _ _, none-more-rows _ _)

pub loop-k-preserved : goal.loop-k-preserved
loop-k-preserved c =
    let k = c.loop-k.k in
    let body = body_is (goal.at.loop-k-preserved c).After-of-body in
    let next = next_start c.first_at-at.result c.args.font.now k c.loop-k.at _ c.loop-k.invariant.1 c.word_at.ensures in (
      omega arith,
      next,
      more_rows _ c.loop-k.above _ _ k (λ (j : ℕ). (others c.first_at-at.result c.args.font.now j).ascent) c.loop-k.invariant.2
          (ap (λ (d : Body). d.ascent) body) c.max-above.ensures,
      more_rows _ c.loop-k.below _ _ k (λ (j : ℕ). (others c.first_at-at.result c.args.font.now j).descent) c.loop-k.invariant.3
          (ap (λ (d : Body). d.descent) body) c.max-below.ensures,
    )

pub returns : goal.returns
unfolding extent_of
returns c =
    let v = c.args.v in
    let e : c.loop-k.k ≡ v.header.bodies - 1 = omega arith in
    let from = c.first_at-at.ensures.value in
    let above = rw e at c.loop-k.invariant.2 in
    let below = rw e at c.loop-k.invariant.3 in
    (λ i. record {
      above = (above
          ∙ ap (λ (n : ℕ). max v.body.ascent (most_below (v.header.bodies - 1) (λ (j : ℕ). (others n c.args.font.now j).ascent))) from) i;
      below = (below
          ∙ ap (λ (n : ℕ). max v.body.descent (most_below (v.header.bodies - 1) (λ (j : ℕ). (others n c.args.font.now j).descent))) from) i;
    })
