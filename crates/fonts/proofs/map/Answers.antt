-- `fonts::map` meets its contract: the part begins and ends where the definition says.
-- Assumes nothing.
use Rattle.fonts.specs.Strike.{map_of}
use Rattle.fonts.proofs.map.Goals as goal

pub returns : goal.returns
unfolding map_of
returns g c =
    let from = c.map_at.ensures.value in
    let entries = c.codes.ensures in
    record { words = rw (← from, ← entries) c.part.ensures.words; held = rw (← from, ← entries) c.part.ensures.held }
