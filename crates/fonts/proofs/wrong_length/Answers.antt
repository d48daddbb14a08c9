-- `fonts::wrong_length` meets its contract, by the test that it makes.
-- Assumes nothing.
use Prim.Native.Nat.{ℕ, ◌+◌}
use mathlib.Core.Path.{sym, ap, ap₂, ◌∙◌}
use mathlib.Core.Bool.{not}
use lib.Dec.{eqb, ltb}
use Rattle.fonts.specs.Strike.{index}
use Rattle.fonts.specs.Reading.{wrong_length}
use Rattle.words.proofs.Chain.{on-true, on-false}
use Rattle.fonts.proofs.wrong_length.Goals as goal

pub returns-then-index : goal.returns-then-index
unfolding wrong_length
returns-then-index c =
    let a = c.args in
    on-true _ _ _ (index a.h) (sym c.index.ensures ∙ c.if-index.true)
    (ap (λ (w : ℕ). ltb a.b.words (w + 7)) c.bitmap_words-two.ensures.value)

pub returns : goal.returns
unfolding wrong_length
returns c =
    let a = c.args in
    on-false _ _ _ (index a.h) (sym c.index.ensures ∙ c.if-index.false)
    (ap₂ (λ (w n : ℕ). not (eqb a.b.words (w + 7 + n))) c.bitmap_words-two.ensures.value
    c.codes.ensures)
