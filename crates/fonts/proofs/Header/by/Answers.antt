-- `fonts::Header::by` meets its contract, field by field.
-- Assumes nothing.
use Rattle.fonts.specs.Strike.{header_by}
use Rattle.fonts.proofs.Header.by.Goals as goal

pub returns : goal.returns
unfolding header_by
returns c = cc
