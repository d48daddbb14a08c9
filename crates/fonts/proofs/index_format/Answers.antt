-- `fonts::index_format` meets its contract: it is the test of the definition.
-- Assumes nothing.
use Prim.Native.Nat.{ℕ}
use mathlib.Core.Path.{ap}
use lib.Dec.{eqb}
use Rattle.fonts.specs.Strike.{index_format}
use Rattle.fonts.proofs.index_format.Goals as goal

pub returns : goal.returns
unfolding index_format
returns c = ap (λ (b : ℕ). eqb b 1) c.bit.ensures
