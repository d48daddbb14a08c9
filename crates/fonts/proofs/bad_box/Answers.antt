-- `fonts::bad_box` meets its contract, by the tests that it makes.
-- Assumes nothing.
use mathlib.Core.Path.{ap, ◌∙◌}
use Rattle.words.specs.Refusal.{not_within}
use Rattle.fonts.specs.Reading.{bad_box}
use Rattle.words.proofs.Chain.{chain, as-chain}
use Rattle.fonts.proofs.bad_box.Goals as goal

pub returns-then-kerned : goal.returns-then-kerned
unfolding bad_box
returns-then-kerned c =
    let outside = c.not_within.ensures ∙ ap (not_within 1793 2303) c.place_of_word.ensures in
    as-chain (search chain depth 20)

pub returns : goal.returns
unfolding bad_box
returns c = as-chain (search chain depth 20)
