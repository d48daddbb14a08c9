-- `fonts::Glyph::at` meets its contract, field by field: it asks the tables at the code's own place, and at the dummy's where the dummy is
-- drawn.
-- Assumes nothing.
use Rattle.fonts.specs.Face.{picture_of}
use Rattle.fonts.specs.Kinds.{glyph_over}
use Rattle.fonts.proofs.Glyph.at.Goals as goal

pub returns : goal.returns
unfolding glyph_over picture_of
returns c = cc
