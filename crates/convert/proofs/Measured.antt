-- What a CU file of good size measures: its rows and columns are few, so every one of them is.
use Prim.Native.Nat.{ℕ, ◌≤◌}
use mathlib.Core.Path.{◌≡◌}
use mathlib.Core.Bool.{false, ◌||◌}
use mathlib.Core.List.{List}
use native.Mathlib.Nat.{le_trans}
use native.Mathlib.Omega.{arith}
use lib.Dec.{ltb}
use lib.ListN.{length}
use Rattle.words.specs.Refusal.{not_within}
use Rattle.words.proofs.Passed.{neither, within}
use Rattle.words.proofs.Search.{first-le, last-le}
use Rattle.convert.specs.Cu.{rows, row_words, width, bad_size, lowest_of, first_in_row, leftmost, rightmost, top, bottom}

module _ (ws : List ℕ) (good : bad_size ws ≡ false) where
  rows_few : rows ws ≤ 128
  unfolding bad_size
  rows_few =
      let long-rows = (neither (ltb (length ws) 2 || not_within 1 128 (rows ws)) (not_within 1 16 (row_words ws)) good).0 in
      (within 1 128 (rows ws) (neither (ltb (length ws) 2) (not_within 1 128 (rows ws)) long-rows).1).1

  width_few : width ws ≤ 256
  unfolding bad_size width
  width_few =
      let words = (within 1 16 (row_words ws) (neither (ltb (length ws) 2 || not_within 1 128 (rows ws)) (not_within 1 16 (row_words ws))
      good).1).1 in
      omega arith

  pub lowest-few : (place : ℕ) → lowest_of ws place ≤ 128
  unfolding lowest_of
  lowest-few place = le_trans (last-le _ (rows ws)) (omega (arith, rows_few))

  pub first-few : (place i : ℕ) → first_in_row ws place i ≤ 256
  unfolding first_in_row
  first-few place i = le_trans (first-le _ (width ws)) width_few

  pub leftmost-few : leftmost ws ≤ 256
  unfolding leftmost
  leftmost-few = le_trans (first-le _ (width ws)) width_few

  pub rightmost-few : rightmost ws ≤ 256
  unfolding rightmost
  rightmost-few = le_trans (last-le _ (width ws)) (omega (arith, width_few))

  pub top-few : top ws ≤ 128
  unfolding top
  top-few = le_trans (first-le _ (rows ws)) rows_few

  pub bottom-few : bottom ws ≤ 128
  unfolding bottom
  bottom-few = le_trans (last-le _ (rows ws)) (omega (arith, rows_few))
