-- `counts::Band::mask` meets its contract: what both let through.
-- Assumes nothing.
use mathlib.Core.Path.{ap₂}
use lib.Bits.{bit_and}
use Rattle.counts.specs.Band.{mask_of}
use Rattle.counts.proofs.Band.mask.Goals as goal

pub returns : goal.returns
unfolding mask_of
returns c = ap₂ bit_and c.only_at.ensures c.only_at-2.ensures
