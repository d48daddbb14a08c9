-- `fonts::Name::of` meets its contract, field by field.
-- Assumes nothing.
use Prim.Native.Nat.{◌/◌, ◌%◌}
use lib.Dec.{eqb}
use native.Mathlib.Omega.{arith}
use Rattle.fonts.specs.Entry.{name_of}
use Rattle.fonts.proofs.Name.of.Goals as goal

pub returns : goal.returns
unfolding name_of
returns c = let entry = c.args.entry in
    record {
      value = (λ i. record { missing = eqb (c.bit.ensures i) 1; body = entry / 256 % 128; code = entry % 256 });
      small =
          (omega arith, omega arith);
    }
