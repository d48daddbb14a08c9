-- Whole numbers with a sign, for `omega`, which reads none: a number is `up` less `down`, and each operation is one equation of these.
use Prim.Native.Nat.{ℕ, zero, suc, ◌+◌, ◌-◌, ◌≤◌, ◌<◌}
use mathlib.Core.Path.{◌≡◌, refl, ap}
use mathlib.Core.Bool.{Bool, true, false, cond, ◌&&◌}
use native.Mathlib.Omega.{arith}
use lib.Dec.{leb, ltb}
use lib.IntN.{ℤ, pos, negsuc, neg_ℤ, sub_ℕ, ◌+ℤ◌, ◌-ℤ◌}
use borrow.Author.Tests.{leb-true, leb-false, ltb-true, ltb-false}
use Rattle.words.specs.Place.{outside, place_of, number_at, dot_at}

unfoldable pub up : ℤ → ℕ
up (pos n) = n
up (negsuc n) = 0

unfoldable pub down : ℤ → ℕ
down (pos n) = 0
down (negsuc n) = suc n

-- two numbers are equal where their differences are
pub same_number : (a b : ℤ) → up a + down b ≡ up b + down a → a ≡ b
unfolding up down
same_number (pos a) (pos b) e = let same : a ≡ b = omega arith in ap pos same
same_number (pos a) (negsuc b) e = absurd (omega arith)
same_number (negsuc a) (pos b) e = absurd (omega arith)
same_number (negsuc a) (negsuc b) e = let same : a ≡ b = omega arith in ap negsuc same

-- so a number that is not below zero is a plain one, and one that is, is not
pub plain-number : (a : ℤ) (n : ℕ) → up a ≡ n + down a → a ≡ pos n
unfolding up down
plain-number a n e = same_number a (pos n) (omega arith)

pub below-zero : (a : ℤ) (n : ℕ) → up a + suc n ≡ down a → a ≡ negsuc n
unfolding up down
below-zero a n e = same_number a (negsuc n) (omega arith)

pub pos-is : (n : ℕ) → up (pos n) ≡ n + down (pos n)
unfolding up down
pos-is n = omega arith

pub sub_is : (a b : ℕ) → up (sub_ℕ a b) + b ≡ down (sub_ℕ a b) + a
unfolding up down
sub_is a b = by_order (ltb a b) refl
  where
    by_order : (t : Bool) → ltb a b ≡ t
        → up (cond t (negsuc (b - suc a)) (pos (a - b))) + b ≡ down (cond t (negsuc (b - suc a)) (pos (a - b))) + a
    by_order true e = let less : a < b = ltb-true a b e in omega arith
    by_order false e = let less : b ≤ a = ltb-false a b e in omega arith

pub sum_is : (a b : ℤ) → up (a +ℤ b) + (down a + down b) ≡ down (a +ℤ b) + (up a + up b)
unfolding up down
sum_is (pos a) (pos b) = omega arith
sum_is (pos a) (negsuc b) = let e = sub_is a (suc b) in omega arith
sum_is (negsuc a) (pos b) = let e = sub_is b (suc a) in omega arith
sum_is (negsuc a) (negsuc b) = omega arith

pub neg_is : (a : ℤ) → up (neg_ℤ a) + up a ≡ down (neg_ℤ a) + down a
unfolding up down
neg_is (pos zero) = refl
neg_is (pos (suc n)) = omega arith
neg_is (negsuc n) = omega arith

pub less-is : (a b : ℤ) → up (a -ℤ b) + (down a + up b) ≡ down (a -ℤ b) + (up a + down b)
less-is a b = let s = sum_is a (neg_ℤ b) in let n = neg_is b in omega arith

-- ---- places

-- a number that 10 does not refuse, by its place
pub place_is : (x : ℤ) → outside x ≡ false → up x + 2048 ≡ place_of x + down x
unfolding up down outside place_of
place_is (pos n) h = rw h (omega arith)
place_is (negsuc n) h = let le : n ≤ 1023 = ltb-false 1023 n h in rw h (omega arith)

pub number-at : (place : ℕ) → up (number_at place) + 2048 ≡ down (number_at place) + place
number-at place = sub_is place 2048

-- the number that the place of an accepted x stands for is x
pub place-number : (x : ℤ) → outside x ≡ false → number_at (place_of x) ≡ x
place-number x inside =
    same_number (number_at (place_of x)) x (let p = place_is x inside in let n = number-at (place_of x) in omega arith)

-- ---- dots

row_before : (dot : ℕ → ℕ → ℕ) (i j : ℤ) (n : ℕ) → i ≡ negsuc n → dot_at dot i j ≡ 0
unfolding dot_at
row_before dot i j n e = rw e

column-before : (dot : ℕ → ℕ → ℕ) (i j : ℤ) (m n : ℕ) → i ≡ pos m → j ≡ negsuc n → dot_at dot i j ≡ 0
unfolding dot_at
column-before dot i j m n e f = rw (e, f)

pub dot-there : (dot : ℕ → ℕ → ℕ) (i j : ℤ) (m n : ℕ) → i ≡ pos m → j ≡ pos n → dot_at dot i j ≡ dot m n
unfolding dot_at
dot-there dot i j m n e f = rw (e, f)

-- the dot in row a less b and column c less d
pub dot-at : (dot : ℕ → ℕ → ℕ) (i j : ℤ) (a b c d : ℕ) → up i + b ≡ down i + a → up j + d ≡ down j + c
    → dot_at dot i j ≡ cond (leb b a && leb d c) (dot (a - b) (c - d)) 0
dot-at dot i j a b c d row column = by_tests (leb b a) (leb d c) refl refl
  where
    by_tests : (s t : Bool) → leb b a ≡ s → leb d c ≡ t → dot_at dot i j ≡ cond (s && t) (dot (a - b) (c - d)) 0
    by_tests true true e f =
        let down-ok : b ≤ a = leb-true b a e in
        let right-ok : d ≤ c = leb-true d c f in
        dot-there dot i j (a - b) (c - d) (plain-number i (a - b) (omega arith)) (plain-number j (c - d) (omega arith))
    by_tests true false e f =
        let down-ok : b ≤ a = leb-true b a e in
        let left : c < d = leb-false d c f in
        column-before dot i j (a - b) (d - suc c) (plain-number i (a - b) (omega arith)) (below-zero j (d - suc c) (omega arith))
    by_tests false t e f =
        let above : a < b = leb-false b a e in
        row_before dot i j (b - suc a) (below-zero i (b - suc a) (omega arith))

-- where there is a dot, neither its row nor its column is below zero
pub dot-hit : (dot : ℕ → ℕ → ℕ) (i j : ℤ) → dot_at dot i j ≡ 1 → (down i ≡ 0) × (down j ≡ 0) × (dot (up i) (up j) ≡ 1)
unfolding dot_at up down
dot-hit dot (pos i) (pos j) e = (refl, refl, e)
dot-hit dot (pos i) (negsuc j) e = absurd (omega arith)
dot-hit dot (negsuc i) j e = absurd (omega arith)

pub at-bit : (dot : ℕ → ℕ → ℕ) (i j : ℤ) → ((r c : ℕ) → dot r c < 2) → dot_at dot i j < 2
unfolding dot_at
at-bit dot (pos i) (pos j) bits = bits i j
at-bit dot (pos i) (negsuc j) bits = omega arith
at-bit dot (negsuc i) j bits = omega arith
