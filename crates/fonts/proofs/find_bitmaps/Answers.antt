use Prim.Native.Nat.{ℕ, ◌+◌, min}
use mathlib.Core.Path.{◌≡◌, refl, ap, ◌∙◌}
use native.Mathlib.Omega.{arith}
use lib.ListN.{length}
use Rattle.words.specs.Word.{over}
use Rattle.words.proofs.Over.{over-step}
use Rattle.fonts.specs.Strike.{start_from}
use Rattle.fonts.proofs.Walking.{next_start}
use Rattle.fonts.proofs.find_bitmaps.Goals as goal

pub loop-k-init : goal.loop-k-init
unfolding start_from over
loop-k-init g c = (omega arith, refl, refl)

pub loop-k-preserved : goal.loop-k-preserved
loop-k-preserved g c =
    let k = c.loop-k.k in (
      omega arith,
      next_start c.first_at-at.result (g.F.Words.as_words c.args.font) k c.loop-k.at _ c.loop-k.invariant.1 c.word.ensures,
      over-step k _ (λ (k : ℕ). start_from c.first_at-at.result (g.F.Words.as_words c.args.font) k + 5)
          c.loop-k.table _ c.loop-k.invariant.2
          (ap (λ (n : ℕ). n + 5) c.loop-k.invariant.1),
    )

pub returns : goal.returns
returns g c =
    let lent = c.args.table.now in
    let size = c.min-k-end.ensures in
    let e : c.loop-k.k ≡ min (length lent) c.args.h.bodies = omega (arith, size) in
    rw e at c.loop-k.invariant.2
    ∙ ap (λ (n : ℕ). over (min (length lent) c.args.h.bodies) (λ (k : ℕ). start_from n (g.F.Words.as_words c.args.font) k + 5) lent)
    c.first_at-at.ensures.value
