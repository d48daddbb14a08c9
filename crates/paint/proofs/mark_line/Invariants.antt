-- `paint::mark_line` meets its contract. The invariant: the words so far have their marks, and the mask is that of the next word, but for
-- the last columns.
-- Assumes nothing.
use mathlib.Core.Path.{◌≡◌}
use mathlib.Core.Bool.{cond}
use lib.Dec.{eqb}
use Rattle.words.specs.declared.Mode.TheVariants.{Erase}
use Rattle.paint.specs.Reach.{row_drawn}
use Rattle.paint.proofs.mark_line.Given as goal

abbrev pub invariant-loop-w : goal.invariant-loop-w
invariant-loop-w g l =
    (l.mask ≡ cond (eqb l.w 0) l.r.head 0xFFFF)
    × (l.keep ≡ cond g.M.Marking.settles (row_drawn l.font l.r Erase l.from l.at l.w l.initial.keep) l.initial.keep)
    × (l.flip ≡ row_drawn l.font l.r g.M.Marking.mode l.from l.at l.w l.initial.flip)
