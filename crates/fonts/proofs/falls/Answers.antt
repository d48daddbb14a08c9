use Prim.Native.Nat.{ℕ, ◌+◌, ◌-◌}
use mathlib.Core.Path.{◌≡◌, sym, ap, ◌∙◌}
use mathlib.Core.Bool.{◌||◌}
use native.Mathlib.Omega.{arith}
use lib.Dec.{ltb}
use lib.ListN.{drop}
use Rattle.words.specs.Word.{word}
use Rattle.fonts.specs.Reading.{falls_from}
use Rattle.fonts.proofs.Falling.{falls-first, falls-more, falls-all}
use Rattle.fonts.proofs.falls.Goals as goal
use Rattle.fonts.proofs.falls.Goals.{then-READ_AGAIN, else-READ_AGAIN}

pub loop-i-init : goal.loop-i-init
loop-i-init g c =
    let pointers = g.F.Words.as_words c.args.pointers in
    let first = c.word-before.ensures in
    (omega arith, first, falls-first pointers ∙ ap (λ (before : ℕ). falls_from before (drop 1 pointers)) (sym first))

pub loop-i-preserved : goal.loop-i-preserved
loop-i-preserved g c =
    let pointers = g.F.Words.as_words c.args.pointers in
    let i = c.loop-i.i in
    let again : c.if-READ_AGAIN.before ≡ word pointers (i - 1) = elim c.if-READ_AGAIN.branch [
      | then-READ_AGAIN w ↦ w.before-is ∙ w.word-before-then-READ_AGAIN.ensures
      | else-READ_AGAIN w ↦ w.before-is ∙ c.loop-i.invariant.1
    ] in
    let same = again ∙ sym c.loop-i.invariant.1 in
    let here : i ≡ i + 1 - 1 = omega arith in (
      omega arith,
      c.word-pointer.ensures ∙ ap (word pointers) here,
      falls-more pointers i c.loop-i.before c.loop-i.fallen c.loop-i.invariant.2 _ _
          (omega (arith, c.loop-i-test.true, c.count-i-end.ensures)) c.word-pointer.ensures
          (c.fallen_with-fallen.ensures ∙ ap (λ (before : ℕ). ltb c.word-pointer.result before || c.loop-i.fallen) same),
    )

pub returns : goal.returns
returns g c =
    falls-all (g.F.Words.as_words c.args.pointers) c.loop-i.i c.loop-i.before c.loop-i.fallen c.loop-i.invariant.2
    (omega (arith, c.loop-i-test.false, c.count-i-end.ensures))
