-- `fonts::pointers` meets its contract: the part begins and ends where the definition says.
-- Assumes nothing.
use Rattle.fonts.specs.Strike.{pointers_of}
use Rattle.fonts.proofs.pointers.Goals as goal

pub returns : goal.returns
unfolding pointers_of
returns g c =
    let from = c.pointers_at.ensures.value in
    let count = c.pointers.ensures in
    record { words = rw (← from, ← count) c.part.ensures.words; held = rw (← from, ← count) c.part.ensures.held }
