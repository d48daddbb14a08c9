use Prim.Native.Nat.{ℕ, min}
use mathlib.Core.Path.{◌≡◌, refl, ap, ◌∙◌}
use native.Mathlib.Omega.{arith}
use Rattle.words.specs.Word.{table, over}
use Rattle.words.proofs.Over.{over-step}
use Rattle.fonts.specs.declared.Body.{Body}
use Rattle.fonts.specs.Strike.{body_of, start_from, pointer_count}
use Rattle.fonts.specs.Reading.{pairs_of}
use Rattle.fonts.proofs.Walking.{next_start}
use Rattle.fonts.proofs.pairs.Goals as goal
use Rattle.fonts.proofs.pairs.Goals.{At-loop-k}

pub loop-k-init : goal.loop-k-init
unfolding start_from over
loop-k-init g c = (omega arith, refl, refl)

pub loop-k-preserved : goal.loop-k-preserved
unfolding body_of
loop-k-preserved g c =
    let k = c.loop-k.k in (
      omega arith,
      next_start c.first_at-at.result (g.F.Words.as_words c.args.font) k c.loop-k.at _ c.loop-k.invariant.1
          (ap (λ (body : Body). body.words) c.of-body.ensures),
      over-step k _ (λ (k : ℕ). pointer_count (body_of (g.F.Words.as_words c.args.font)
          (start_from c.first_at-at.result (g.F.Words.as_words c.args.font) k))) c.loop-k.table
          _ c.loop-k.invariant.2
          (c.pointers.ensures ∙ ap pointer_count (c.of-body.ensures ∙ ap (body_of (g.F.Words.as_words c.args.font)) c.loop-k.invariant.1)),
    )

pub returns : goal.returns
unfolding pairs_of table
returns g c =
    let size = c.min-k-end.ensures in
    let e : c.loop-k.k ≡ min 128 c.args.h.bodies = omega (arith, size) in
    rw e at c.loop-k.invariant.2
    ∙ ap (λ (n : ℕ). over (min 128 c.args.h.bodies)
    (λ (k : ℕ). pointer_count (body_of (g.F.Words.as_words c.args.font) (start_from n (g.F.Words.as_words c.args.font) k)))
    (table 128 (λ k. 0)))
    c.first_at-at.ensures.value
