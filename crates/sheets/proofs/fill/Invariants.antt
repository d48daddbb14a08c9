-- `sheets::fill` meets its contract: each turn writes the next word, so after n turns the first n are written and no other.
-- Assumes nothing.
use mathlib.Core.Path.{◌≡◌}
use Rattle.words.specs.Word.{over}
use Rattle.sheets.proofs.fill.Given as goal

abbrev pub invariant-loop-i : goal.invariant-loop-i
invariant-loop-i l = l.list ≡ over l.i (λ k. l.word) l.initial.list
