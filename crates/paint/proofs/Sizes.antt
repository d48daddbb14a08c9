-- The sizes of a panel, by the tests that the code makes. 32W over 16R is W over half of R; with R at most 128 that says W over 64 too, and
-- where W is 1 or more R under 1.
use Prim.Native.Nat.{ℕ, ◌*◌, ◌/◌, ◌<◌, ◌≤◌}
use mathlib.Core.Path.{◌≡◌, refl}
use mathlib.Core.Bool.{Bool, true, false, ◌||◌}
use native.Mathlib.Omega.{arith}
use lib.Dec.{ltb}
use borrow.Author.Tests.{ltb-true, lt-ltb, le-ltb}
use Rattle.words.specs.Refusal.{not_within}
use Rattle.words.proofs.Passed.{within}
use Rattle.paint.specs.declared.Shape.{Shape}
use Rattle.paint.specs.Panel.{bad_sides, bad_shape}

or-true : (a : Bool) → (a || true) ≡ true
or-true true = refl
or-true false = refl

only : (a : Bool) → a ≡ (a || false || false)
only true = refl
only false = refl

is_within : (least most n : ℕ) → least ≤ n → n ≤ most → not_within least most n ≡ false
unfolding not_within
is_within least most n from upto = rw (le-ltb n least from, le-ltb most n upto)

module _ (s : Shape) where
  pub too_wide : 128 < s.rowwords → bad_shape s ≡ true
  unfolding bad_shape bad_sides not_within
  too_wide h = rw (lt-ltb 128 s.rowwords h, or-true (ltb s.rowwords 1))

  pub bad-width : not_within 1 (s.rowwords / 2) s.width ≡ true → bad_shape s ≡ true
  unfolding bad_shape bad_sides not_within
  bad-width bad = none-or-many (ltb s.width 1) refl bad
    where
      none-or-many : (t : Bool) → ltb s.width 1 ≡ t → (t || ltb (s.rowwords / 2) s.width) ≡ true → bad_shape s ≡ true
      none-or-many true none bad = rw (none, or-true (not_within 1 128 s.rowwords || not_within 1 256 s.rows))
      none-or-many false some bad =
          let over = ltb-true (s.rowwords / 2) s.width bad in
          rw (lt-ltb (16 * s.rowwords) (32 * s.width) (omega arith)) (or-true (bad_sides s))

  pub by_rows : s.rowwords ≤ 128 → not_within 1 (s.rowwords / 2) s.width ≡ false → not_within 1 256 s.rows ≡ bad_shape s
  unfolding bad_shape bad_sides
  by_rows narrow good =
      let width = within 1 (s.rowwords / 2) s.width good in
      let from = width.0 in
      let upto = width.1 in
      let row = is_within 1 128 s.rowwords (omega arith) narrow in
      let strip = is_within 1 64 s.width from (omega arith) in
      rw (row, strip, le-ltb (16 * s.rowwords) (32 * s.width) (omega arith)) (only (not_within 1 256 s.rows))
