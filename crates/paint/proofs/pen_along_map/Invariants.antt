-- `paint::pen_along_map` meets its contract. The invariant: the pen after the whole text is the pen after what is left of it, from this
-- pen.
-- Assumes nothing.
use mathlib.Core.Path.{◌≡◌}
use lib.ListN.{drop}
use Rattle.fonts.specs.Face.{face_from}
use Rattle.paint.specs.Pen.{pen_along, steps_of}
use Rattle.paint.proofs.Along.{Gone}
use Rattle.paint.proofs.pen_along_map.Given as goal

abbrev pub invariant-loop-byte : goal.invariant-loop-byte
invariant-loop-byte g l =
    (pen_along (steps_of (face_from l.v (g.F.Words.as_words l.font))) l.initial.pen l.text
    ≡ pen_along (steps_of (face_from l.v (g.F.Words.as_words l.font))) l.pen (drop l.byte-index l.text))
    × Gone l.initial.pen l.pen l.byte-index
