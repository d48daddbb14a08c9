-- `fonts::Glyph::with` meets its contract, field by field.
-- Assumes nothing.
use Rattle.fonts.specs.Face.{picture_of}
use Rattle.fonts.proofs.Glyph.with.Goals as goal

pub returns : goal.returns
unfolding picture_of
returns c = cc
