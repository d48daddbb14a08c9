-- Where a column of the strike belongs, and so which dot stands there.
use Prim.Native.Nat.{ℕ, ◌+◌, ◌-◌, ◌*◌, ◌<◌, ◌≤◌}
use mathlib.Core.Path.{◌≡◌, ap, ◌∙◌}
use mathlib.Core.Bool.{Bool, true, false, cond}
use native.Mathlib.Nat.{add-sub_cancel_left}
use native.Mathlib.Omega.{arith}
use lib.Dec.{ltb}
use borrow.Author.Tests.{lt-ltb, le-ltb}
use Rattle.words.specs.Search.{some_below}
use Rattle.words.proofs.Search.{none_passes, first-here, first-none, sum_more, sum-rises}
use Rattle.convert.specs.Writing.{Drawing, min_code, code_count, columns_of, pointer_at, all_columns, raster_of, owner, strike_dot}

module _ (d : Drawing) where
  -- a picture's columns end where the next picture's begin, and no pointer falls
  pub pointer-next : (k : ℕ) → pointer_at d (k + 1) ≡ pointer_at d k + columns_of d (min_code d + k)
  unfolding pointer_at
  pointer-next k = sum_more (λ i. columns_of d (min_code d + i)) k

  pub pointer-rises : (m n : ℕ) → m ≤ n → pointer_at d m ≤ pointer_at d n
  unfolding pointer_at
  pointer-rises m n h = sum-rises (λ i. columns_of d (min_code d + i)) m n h

  -- "Raster is the least that holds all columns"
  pub raster-holds : all_columns d ≤ 16 * raster_of d
  unfolding raster_of
  raster-holds = omega arith

  abbrev ends_after : ℕ → ℕ → Bool
  ends_after column k = ltb column (pointer_at d (k + 1))

  -- the pictures before the k-th have no column from its first on
  none_before : (k column : ℕ) → pointer_at d k ≤ column → some_below k (ends_after column) ≡ false
  none_before k column from =
      none_passes (ends_after column) k
      (λ i h. let upto = pointer-rises (i + 1) k (omega arith) in le-ltb column (pointer_at d (i + 1)) (omega arith))

  pub owner_at : (k j : ℕ) → k < code_count d → j < columns_of d (min_code d + k) → owner d (pointer_at d k + j) ≡ k
  unfolding owner
  owner_at k j h here =
      let column = pointer_at d k + j in
      let next = pointer-next k in
      first-here (ends_after column) (code_count d) k h (none_before k column (omega arith))
      (lt-ltb column (pointer_at d (k + 1)) (omega arith))

  pub owner-dummy : (column : ℕ) → pointer_at d (code_count d) ≤ column → owner d column ≡ code_count d
  unfolding owner
  owner-dummy column from = first-none (ends_after column) (code_count d) (none_before (code_count d) column from)

  -- "all are packed without gaps in code order"
  pub strike-picture : (row k j : ℕ) → k < code_count d → j < columns_of d (min_code d + k)
      → strike_dot d row (pointer_at d k + j) ≡ d.dot (min_code d + k) row j
  unfolding strike_dot
  strike-picture row k j h here =
      rw (owner_at k j h here, lt-ltb k (code_count d) h) (ap (d.dot (min_code d + k) row) (add-sub_cancel_left (pointer_at d k) j))

  behind-pictures : (row column : ℕ) → pointer_at d (code_count d) ≤ column
      → strike_dot d row column ≡ cond (ltb column (all_columns d)) 1 0
  unfolding strike_dot
  behind-pictures row column from = rw (owner-dummy column from, le-ltb (code_count d) (code_count d) (omega arith))

  -- "the dummy is .. every dot set"
  pub strike-dummy : (row column : ℕ) → pointer_at d (code_count d) ≤ column → column < all_columns d → strike_dot d row column ≡ 1
  strike-dummy row column from h = behind-pictures row column from ∙ rw (lt-ltb column (all_columns d) h)

  -- "unused bits are 0"
  pub strike-unused : (row column : ℕ) → all_columns d ≤ column → strike_dot d row column ≡ 0
  unfolding all_columns
  strike-unused row column h = behind-pictures row column (omega arith) ∙ rw (le-ltb column (all_columns d) h)

  -- and no dot of the strike is more than 1 where none of the drawing is
  choice-bit : (s t : Bool) (dot : ℕ) → dot < 2 → cond s dot (cond t 1 0) < 2
  choice-bit true t dot h = h
  choice-bit false true dot h = omega arith
  choice-bit false false dot h = omega arith

  pub strike-bit : ((c r j : ℕ) → d.dot c r j < 2) → (row column : ℕ) → strike_dot d row column < 2
  unfolding strike_dot
  strike-bit bits row column =
      let k = owner d column in
      choice-bit (ltb k (code_count d)) (ltb column (all_columns d)) _ (bits (min_code d + k) row (column - pointer_at d k))
