-- `fonts::name_at` meets its contract, by its one test.
-- Assumes nothing.
use mathlib.Core.Path.{refl, sym, ap, ◌∙◌}
use Prim.Native.Nat.{ℕ}
use mathlib.Core.List.{List}
use Rattle.words.specs.Word.{word}
use Rattle.fonts.specs.Strike.{index}
use Rattle.fonts.specs.Entry.{name_of, name_in}
use Rattle.words.proofs.Chain.{on-true, on-false}
use Rattle.fonts.proofs.name_at.Goals as goal

pub returns-then-index : goal.returns-then-index
unfolding name_in
returns-then-index g c =
    let a = c.args in
    on-true _ _ _ (index a.h) (sym c.index.ensures ∙ c.if-index.true)
    (c.of.ensures.value ∙ ap name_of (c.word.ensures ∙ ap (λ (map : List ℕ). word map a.k) c.map.ensures.words))

pub returns : goal.returns
unfolding name_in
returns g c =
    let a = c.args in
    on-false _ _ _ (index a.h) (sym c.index.ensures ∙ c.if-index.false) refl
