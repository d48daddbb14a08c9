-- `paint::mark_text` meets its contract. The invariant: what is marked, with the whole text on it, is what stands there now with the
-- rest of the text on it, from this pen.
-- Assumes nothing.
use Rattle.fonts.specs.Face.{face_from}
use Rattle.paint.proofs.Texts.{So}
use Rattle.paint.proofs.mark_text.Given as goal

abbrev pub invariant-loop-byte : goal.invariant-loop-byte
invariant-loop-byte g l =
    So g.M.Marking.settles (face_from l.v l.font) l.k l.text l.initial.pen l.initial.keep l.initial.flip l.pen l.byte-index l.keep l.flip
