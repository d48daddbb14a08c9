-- `fonts::Header::of` meets its contract, word by word.
-- Assumes nothing.
use Rattle.fonts.specs.Strike.{header_of}
use Rattle.fonts.proofs.Header.of.Goals as goal

pub returns : goal.returns
unfolding header_of
returns g c = cc
