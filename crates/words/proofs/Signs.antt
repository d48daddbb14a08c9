-- The door for signed numbers: x from -1024 to 1023 becomes the place x + 2048, and nothing else passes.
use Prim.Native.Nat.{ℕ, suc, ◌+◌, ◌-◌, ◌≤◌, ◌<◌}
use mathlib.Core.Path.{◌≡◌, refl, sym, ap}
use mathlib.Core.Bool.{Bool, true, false, cond, false≢true}
use native.Mathlib.Omega.{arith}
use native.Mathlib.Nat.{add_comm}
use lib.Dec.{ltb}
use lib.IntN.{ℤ, pos, negsuc, ◌+ℤ◌, sub_ℕ}
use lib.Signed.{lt_z}
use mir.Syntax.{w32}
use mir.Val.{SFits}
use borrow.Author.Tests.{ltb-false, le-ltb}
use Rattle.words.specs.Place.{outside, place_of}

pub below : (x : ℤ) → lt_z x (negsuc 1023) ≡ true → (true ≡ outside x) × (0 ≡ place_of x)
unfolding outside place_of
below (pos n) h = absurd (false≢true h)
below (negsuc n) h = (sym h, rw h)

pub above : (x : ℤ) → lt_z (pos 1023) x ≡ true → (true ≡ outside x) × (0 ≡ place_of x)
unfolding outside place_of
above (pos n) h = (sym h, rw h)
above (negsuc n) h = absurd (false≢true h)

-- what is not below is outside exactly when it is above
pub not-below : (x : ℤ) → lt_z x (negsuc 1023) ≡ false → lt_z (pos 1023) x ≡ outside x
unfolding outside
not-below (pos n) h = refl
not-below (negsuc n) h = sym h

pub inside : (x : ℤ) → lt_z x (negsuc 1023) ≡ false → lt_z (pos 1023) x ≡ false → (x +ℤ pos 2048 ≡ pos (place_of x)) × (place_of x ≤ 3071)
unfolding place_of
inside (pos n) h k = let le : n ≤ 1023 = ltb-false 1023 n k in (rw k (ap pos (add_comm n 2048)), rw k (omega arith))
inside (negsuc n) h k =
    let le : n ≤ 1023 = ltb-false 1023 n h in
    let e : 2048 - suc n ≡ 2047 - n = omega arith in
    (rw (h, le-ltb 2048 (suc n) (omega arith)) (ap pos e), rw h (omega arith))

-- ---- the door out

choice-fits : (t : Bool) (a b : ℕ) → a < 2147483648 → b < 2147483648 → SFits w32 (cond t (negsuc a) (pos b))
choice-fits true a b ha hb = record { sfits = ha }
choice-fits false a b ha hb = record { sfits = hb }

pub number_fits : (place : ℕ) → place ≤ 2147483647 → SFits w32 (sub_ℕ place 2048)
number_fits place h = choice-fits (ltb place 2048) (2048 - suc place) (place - 2048) (omega arith) (omega arith)

-- every place of x or y is small
choice-le : (n m : ℕ) (t : Bool) → ltb 1023 n ≡ t → (n ≤ 1023 → m ≤ 3071) → cond t 0 m ≤ 3071
choice-le n m true e h = omega arith
choice-le n m false e h = h (ltb-false 1023 n e)

pub place-le : (x : ℤ) → place_of x ≤ 3071
unfolding place_of
place-le (pos n) = choice-le n (2048 + n) (ltb 1023 n) refl (λ h. omega arith)
place-le (negsuc n) = choice-le n (2047 - n) (ltb 1023 n) refl (λ h. omega arith)
