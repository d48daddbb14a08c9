-- `paint::mark_narrow` meets its contract. The invariant: the rows so far are drawn, on flip, and on keep by Erase where they settle.
-- Assumes nothing.
use mathlib.Core.Path.{◌≡◌}
use mathlib.Core.Bool.{cond}
use Rattle.words.specs.declared.Mode.TheVariants.{Erase}
use Rattle.paint.specs.Reach.{rows_drawn}
use Rattle.paint.proofs.mark_narrow.Given as goal

abbrev pub invariant-loop-row : goal.invariant-loop-row
invariant-loop-row g l =
    (l.keep ≡ cond g.M.Marking.settles (rows_drawn l.font l.r Erase l.row l.initial.keep) l.initial.keep)
    × (l.flip ≡ rows_drawn l.font l.r g.M.Marking.mode l.row l.initial.flip)
