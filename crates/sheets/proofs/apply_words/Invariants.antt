-- `sheets::apply_words` meets its contract: each turn alters the next word, which no turn before has touched, by the sheet's effect on it.
-- Assumes nothing.
use mathlib.Core.Path.{◌≡◌}
use Rattle.words.specs.Effect.{altered}
use Rattle.paint.specs.Sheet.{sheet_of, effect_at}
use Rattle.sheets.proofs.apply_words.Given as goal

abbrev pub invariant-loop-i : goal.invariant-loop-i
invariant-loop-i l = l.panel ≡ altered 0 l.i (effect_at (sheet_of l.keep l.flip)) l.initial.panel
