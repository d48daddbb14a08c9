-- `fonts::Glyph::dots` meets its contract: the loop makes the word bit by bit, as the definition does.
-- Assumes nothing.
use Prim.Native.Nat.{◌-◌, ◌≤◌}
use mathlib.Core.Path.{◌≡◌}
use Rattle.words.specs.Word.{word_to}
use Rattle.fonts.proofs.Dots.{dots_from}
use Rattle.fonts.proofs.Glyph.dots.Given as goal

abbrev pub invariant-loop-i : goal.invariant-loop-i
invariant-loop-i l = (l.i ≤ 16) × (l.word ≡ word_to (dots_from l.font l.self l.row l.from) l.i)

abbrev pub decreases-loop-i : goal.decreases-loop-i
decreases-loop-i l = 16 - l.i
