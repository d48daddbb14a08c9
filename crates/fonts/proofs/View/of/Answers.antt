-- `fonts::View::of` meets its contract: the first body begins where the header says.
-- Assumes nothing.
use Rattle.fonts.specs.Strike.{view_of}
use Rattle.fonts.proofs.View.of.Goals as goal

pub returns : goal.returns
unfolding view_of
returns g c = cc
