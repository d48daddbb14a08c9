-- `fonts::Header::map_at` meets its contract, by the test that it makes.
-- Assumes nothing.
use native.Mathlib.Omega.{arith}
use Rattle.fonts.specs.Strike.{map_at}
use Rattle.words.proofs.Chain.{chain, chain-of-replies}
use Rattle.fonts.proofs.Header.map_at.Goals as goal

pub returns-then-kerned : goal.returns-then-kerned
unfolding map_at
returns-then-kerned c = record { value = search chain-of-replies; small = omega arith }

pub returns : goal.returns
unfolding map_at
returns c = record { value = search chain; small = omega arith }
