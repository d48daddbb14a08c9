-- `fonts::map_cut` meets its contract: it is the test of the definition.
-- Assumes nothing.
use mathlib.Core.Path.{ap}
use lib.Dec.{ltb}
use Rattle.fonts.proofs.map_cut.Goals as goal

pub returns : goal.returns
returns c = ap (ltb c.args.count) c.first_at.ensures.value
