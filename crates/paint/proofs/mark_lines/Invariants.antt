-- `paint::mark_lines` meets its contract. The invariant: the rows so far are drawn, on flip, and on keep by Erase where they settle; and
-- the next one begins so many rows further.
-- Assumes nothing.
use mathlib.Core.Path.{◌≡◌}
use mathlib.Core.Bool.{cond}
use Rattle.words.specs.declared.Mode.TheVariants.{Erase}
use Rattle.paint.specs.Reach.{rows_drawn}
use Rattle.paint.proofs.Drawing.{AtRow}
use Rattle.paint.proofs.mark_lines.Given as goal

abbrev pub invariant-loop-row : goal.invariant-loop-row
invariant-loop-row g l =
    AtRow l.r l._row l.from l.at
    × (l.keep ≡ cond g.M.Marking.settles (rows_drawn l.font l.r Erase l._row l.initial.keep) l.initial.keep)
    × (l.flip ≡ rows_drawn l.font l.r g.M.Marking.mode l._row l.initial.flip)
