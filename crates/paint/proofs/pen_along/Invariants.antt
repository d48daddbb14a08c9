-- `paint::pen_along` meets its contract. The invariant: the pen after the whole text is the pen after what is left of it, from this pen.
-- Assumes nothing.
use mathlib.Core.Path.{◌≡◌}
use lib.ListN.{drop}
use Rattle.paint.specs.Pen.{pen_along, steps_in}
use Rattle.paint.proofs.Along.{Gone}
use Rattle.paint.proofs.pen_along.Given as goal

abbrev pub invariant-loop-byte : goal.invariant-loop-byte
invariant-loop-byte g l =
    (pen_along (steps_in l.h (g.F.Words.as_words l.pointers) (g.F.Words.as_words l.widths) l.dummy) l.initial.pen l.text
    ≡ pen_along (steps_in l.h (g.F.Words.as_words l.pointers) (g.F.Words.as_words l.widths) l.dummy) l.pen
    (drop l.byte-index l.text))
    × Gone l.initial.pen l.pen l.byte-index
