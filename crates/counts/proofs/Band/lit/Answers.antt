use Prim.Native.Nat.{ℕ}
use mathlib.Core.Path.{◌≡◌, sym, ap, ◌∙◌}
use native.Mathlib.Omega.{arith}
use Rattle.counts.specs.Band.{lit_in_words}
use Rattle.counts.proofs.Counting.{no_words, one_word_more}
use Rattle.counts.proofs.Band.lit.Goals as goal
use Rattle.counts.proofs.Band.lit.Goals.{then-self-ge3, else-self-ge3}

pub loop-w-init : goal.loop-w-init
loop-w-init g c =
    let counted : ℕ → ℕ = lit_in_words c.args.self (g.D.Dots.words c.args.dots) in
    let none : 0 ≡ counted 0 = no_words c.args.self _ in
    elim c.if-self-ge3.branch [
      | then-self-ge3 w ↦
          let four : w.lit_in_four-sum.result ≡ counted 4 = omega (arith, none, w.lit_in_four-sum.ensures.w_value) in
          (w.sum-is ∙ four ∙ ap counted (sym w.first-is), omega (arith, w.lit_in_four-sum.ensures.near, w.sum-is, w.first-is))
      | else-self-ge3 w ↦ (w.sum-is ∙ none ∙ ap counted (sym w.first-is), omega (arith, w.sum-is, w.first-is))
    ]

pub loop-w-preserved : goal.loop-w-preserved
loop-w-preserved g c =
    let inv = c.loop-w.invariant in
    let one = c.lit_in_one-sum.ensures in
    (one_word_more c.args.self _ c.loop-w.w _ _ inv.0 one.value, omega (arith, inv.1, one.near))
