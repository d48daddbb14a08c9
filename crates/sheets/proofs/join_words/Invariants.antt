-- `sheets::join_words` meets its contract: each turn joins the next effect of the second sheet onto the first's, which no turn before has
-- touched.
-- Assumes nothing.
use mathlib.Core.Path.{◌≡◌}
use Rattle.words.specs.Effect.{join_of}
use Rattle.words.specs.Word.{over}
use Rattle.paint.specs.Sheet.{sheet_of, effect_at}
use Rattle.sheets.proofs.join_words.Given as goal

abbrev pub invariant-loop-i : goal.invariant-loop-i
invariant-loop-i l =
    (l.keep ≡ over l.i (λ j. (join_of (effect_at (sheet_of l.initial.keep l.initial.flip) j)
    (effect_at (sheet_of l.keep2 l.flip2) j)).keep) l.initial.keep)
    × (l.flip ≡ over l.i (λ j. (join_of (effect_at (sheet_of l.initial.keep l.initial.flip) j)
    (effect_at (sheet_of l.keep2 l.flip2) j)).flip) l.initial.flip)
