-- `words::place_of` meets its contract: between the two tests x + 2048 is from 1024 to 3071, so nothing wraps.
-- Assumes nothing.
use Prim.Native.Nat.{ℕ, ◌≤◌}
use mathlib.Core.Path.{◌≡◌, ap, ◌∙◌}
use native.Mathlib.Omega.{arith}
use lib.IntN.{ℤ, pos, ◌+ℤ◌, nat_abs}
use mir.Syntax.{w32}
use mir.Val.{to_z, of_z, SFits}
use mir.Facts.{to_z-of_z}
use Rattle.words.specs.Place.{place_of}
use Rattle.words.proofs.Signs.{below, above, inside}
use Rattle.words.proofs.place_of.Goals as goal
use Rattle.words.proofs.place_of.Goals.{Else-x-gt1023}

pub returns-then-x-ltminus1024 : goal.returns-then-x-ltminus1024
returns-then-x-ltminus1024 c = (below c.args.x (rw (to_z-of_z c.ranges.x) at c.if-x-ltminus1024.true)).1

pub returns-then-x-gt1023 : goal.returns-then-x-gt1023
returns-then-x-gt1023 c = (above c.args.x (rw (to_z-of_z c.ranges.x) at c.if-x-gt1023.true)).1

within : (c : Else-x-gt1023) → (c.args.x +ℤ pos 2048 ≡ pos (place_of c.args.x)) × (place_of c.args.x ≤ 3071)
within c =
    let e = to_z-of_z c.ranges.x in
    inside c.args.x (rw e at c.if-x-ltminus1024.false) (rw e at c.if-x-gt1023.false)

small : (n : ℕ) → n ≤ 3071 → SFits w32 (pos n)
small n h = record { sfits = omega arith }

-- the sum, as the machine has it
sum : (c : Else-x-gt1023) → to_z w32 (of_z w32 c.args.x) +ℤ pos 2048 ≡ pos (place_of c.args.x)
sum c = ap (λ (z : ℤ). z +ℤ pos 2048) (to_z-of_z c.ranges.x) ∙ (within c).0

read_back : (c : Else-x-gt1023) → to_z w32 (of_z w32 (to_z w32 (of_z w32 c.args.x) +ℤ pos 2048)) ≡ pos (place_of c.args.x)
read_back c = rw (sum c) (to_z-of_z (small (place_of c.args.x) (within c).1))

pub overflow_add-result : goal.overflow_add-result
overflow_add-result c = rw (sum (goal.at.overflow_add-result c).Else-x-gt1023)
    (small (place_of c.args.x) (within (goal.at.overflow_add-result c).Else-x-gt1023).1)

pub overflow_cast-result : goal.overflow_cast-result
overflow_cast-result c = rw (read_back (goal.at.overflow_cast-result c).Else-x-gt1023)
    (tt, omega (arith, (within (goal.at.overflow_cast-result c).Else-x-gt1023).1))

pub returns : goal.returns
returns c = ap nat_abs (read_back (goal.at.returns c).Else-x-gt1023)
