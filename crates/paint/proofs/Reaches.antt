-- What a picture reaches, by the columns that it shares with its strip; and that this lies within the panel.
use Prim.Native.Nat.{ℕ, zero, suc, ◌+◌, ◌-◌, ◌*◌, ◌<◌, ◌≤◌}
use mathlib.Core.Path.{◌≡◌, refl, sym, ap, ap₂, ◌∙◌}
use mathlib.Core.Bool.{Bool, true, false, cond}
use native.Mathlib.Nat.{mul-le-mul, mul-le-mul_right, mul_comm, add-mul}
use native.Mathlib.Omega.{arith}
use lib.Dec.{ltb}
use borrow.Author.Tests.{lt-ltb, le-ltb, ltb-true, ltb-false}
use Rattle.fonts.specs.declared.Glyph.{Glyph}
use Rattle.paint.specs.declared.Strip.{Strip}
use Rattle.paint.specs.declared.Stroke.{Stroke}
use Rattle.paint.specs.declared.Pen.{Pen}
use Rattle.paint.specs.declared.Reach.{Reach}
use Rattle.paint.specs.Pen.{Drawable}
use Rattle.paint.specs.Reach.{first_row, end_row, left_at, shared, reach_over, nothing, reach_of, Nearby, Within}

module _ (g : Glyph) (k : Stroke) (pen : Pen) (columns : Strip) (same : columns ≡ shared g k (left_at g k pen)) where
  by-columns : (test : Bool) → ltb columns.from columns.upto ≡ test
      → cond test (reach_over g k (left_at g k pen) columns) nothing ≡ reach_of g k pen
  unfolding reach_of
  by-columns test e =
      ap (λ (t : Bool). cond t (reach_over g k (left_at g k pen) columns) nothing) (sym e)
      ∙ ap (λ (s : Strip). cond (ltb s.from s.upto) (reach_over g k (left_at g k pen) s) nothing) same

  pub reaches_some : columns.from < columns.upto → reach_over g k (left_at g k pen) columns ≡ reach_of g k pen
  reaches_some less = by-columns _ (lt-ltb columns.from columns.upto less)

  pub reaches-none : columns.upto ≤ columns.from → nothing ≡ reach_of g k pen
  reaches-none past = by-columns _ (le-ltb columns.from columns.upto past)

-- ---- it lies within the panel

some_of : (n : ℕ) → (n ≡ 0 → ⊥) → 1 ≤ n
some_of zero other = absurd (other refl)
some_of (suc n) other = omega arith

module _ (g : Glyph) (k : Stroke) (pen : Pen) (room : ℕ) (drawable : Drawable k room) where
  -- the words of the rows that are reached, and of those before them
  rows_fit : first_row g k * k.rowwords + (end_row g k - first_row g k) * k.rowwords ≤ room
  rows_fit =
      let whole : first_row g k + (end_row g k - first_row g k) ≡ end_row g k = omega arith in
      let rows : end_row g k * k.rowwords ≤ k.rows * k.rowwords = mul-le-mul_right k.rowwords (omega arith) in
      let sum = add-mul (first_row g k) (end_row g k - first_row g k) k.rowwords in
      let all = ap (λ (n : ℕ). n * k.rowwords) whole in
      let words = mul_comm k.rows k.rowwords in
      omega (arith, drawable.6)

  rows_before : first_row g k * k.rowwords ≤ 32768
  rows_before = mul-le-mul {n₂ = 256} {m₂ = 128} (omega (arith, drawable.2)) drawable.1

  inside-over : (r : Reach) → r ≡ reach_over g k (left_at g k pen) (shared g k (left_at g k pen))
      → (shared g k (left_at g k pen)).from < (shared g k (left_at g k pen)).upto → (r.rows ≡ 0 → ⊥) → Nearby r → Within r room
  unfolding shared reach_over
  inside-over r is some reached near =
      let rows : r.rows ≡ end_row g k - first_row g k = ap (λ (x : Reach). x.rows) is in
      let rowwords : r.rowwords ≡ k.rowwords = ap (λ (x : Reach). x.rowwords) is in
      let words : r.rows * r.rowwords ≡ (end_row g k - first_row g k) * k.rowwords = ap₂ ◌*◌ rows rowwords in
      let last = ap (λ (x : Reach). x.last) is in
      let at = ap (λ (x : Reach). x.at) is in
      let fit = rows_fit in
      let before = rows_before in
      let narrow = drawable.1 in
      let low = drawable.2 in
      let right = drawable.4 in
      let some-row : 1 ≤ r.rows = some_of r.rows reached in (
        some-row,
        omega (arith, rows),
        omega (arith, last),
        omega (arith, at, words, rowwords, last),
        omega (arith, rowwords),
        near.0,
        near.1,
        near.2,
        omega (arith, at),
      )

  pub within : (r : Reach) → r ≡ reach_of g k pen → (r.rows ≡ 0 → ⊥) → Nearby r → Within r room
  within r is reached near = by-test (ltb (shared g k (left_at g k pen)).from (shared g k (left_at g k pen)).upto) refl
    where
      by-test : (t : Bool) → ltb (shared g k (left_at g k pen)).from (shared g k (left_at g k pen)).upto ≡ t → Within r room
      by-test true e =
          let some = ltb-true (shared g k (left_at g k pen)).from (shared g k (left_at g k pen)).upto e in
          inside-over r (is ∙ sym (reaches_some g k pen (shared g k (left_at g k pen)) refl some)) some reached near
      by-test false e =
          let none = ltb-false (shared g k (left_at g k pen)).from (shared g k (left_at g k pen)).upto e in
          absurd (reached (ap (λ (x : Reach). x.rows) (is ∙ sym (reaches-none g k pen (shared g k (left_at g k pen)) refl none))))
