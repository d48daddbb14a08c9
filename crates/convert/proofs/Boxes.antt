-- The boxes of a CU file cover its dots: each character's own, and the one round all characters together.
use Prim.Native.Nat.{ℕ, ◌<◌, ◌≤◌}
use mathlib.Core.Path.{◌≡◌, refl, sym, ◌∙◌}
use mathlib.Core.Bool.{Bool, true, false, true≢false}
use mathlib.Core.List.{List}
use native.Mathlib.Omega.{arith}
use lib.Dec.{eqb}
use borrow.Author.Tests.{eq-eqb, eqb-true, eqb-false}
use Rattle.words.proofs.Digits.{bit-digit}
use Rattle.words.proofs.Search.{some-here, first-lt, first_passes, first-least, last-passes, last-greatest}
use Rattle.convert.specs.Cu.{rows, chars, char_at, raster_dot, width, dot_in_row, dot_in_column, has_dot, lowest_of, first_in_row, left_of}
use Rattle.convert.specs.Cu.{right_of, column_used, row_used, leftmost, rightmost, top, bottom}
use Rattle.convert.proofs.Codes.{Character}

-- ---- one character

module _ (ws : List ℕ) (place : ℕ) where
  pub raster-bit : (i j : ℕ) → raster_dot ws place i j < 2
  unfolding raster_dot
  raster-bit i j = bit-digit _ _

  -- a dot within the raster, where the searches look for one
  pub record Dot (i j : ℕ) : Type 0 where
    pub down : i < rows ws
    pub across : j < width ws
    pub set : raster_dot ws place i j ≡ 1

  module _ (i j : ℕ) (d : Dot i j) where
    in_row : dot_in_row ws place i ≡ true
    unfolding dot_in_row
    in_row = some-here (λ k. eqb (raster_dot ws place i k) 1) (width ws) j d.across (eq-eqb _ 1 d.set)

    in-column : dot_in_column ws place j ≡ true
    unfolding dot_in_column
    in-column = some-here (λ k. eqb (raster_dot ws place k j) 1) (rows ws) i d.down (eq-eqb _ 1 d.set)

    pub has-dot : has_dot ws place ≡ true
    unfolding has_dot
    has-dot = some-here (dot_in_row ws place) (rows ws) i d.down in_row

    -- its character's box covers it
    pub left-upto : left_of ws place ≤ j
    unfolding left_of
    left-upto = first-least (dot_in_column ws place) (width ws) j in-column

    pub right-from : j ≤ right_of ws place
    unfolding right_of
    right-from = last-greatest (dot_in_column ws place) (width ws) j d.across in-column

  -- "An empty character": one that has no dot within the raster
  pub empty-dot : has_dot ws place ≡ false → (i j : ℕ) → i < rows ws → j < width ws → raster_dot ws place i j ≡ 0
  empty-dot none i j down across = by-dot (eqb (raster_dot ws place i j) 1) refl
    where
      by-dot : (t : Bool) → eqb (raster_dot ws place i j) 1 ≡ t → raster_dot ws place i j ≡ 0
      by-dot true q =
          let dot : Dot i j = record { down = down; across = across; set = eqb-true _ 1 q } in
          absurd (true≢false (sym (has-dot i j dot) ∙ none))
      by-dot false q = let other = eqb-false (raster_dot ws place i j) 1 q in omega (arith, raster-bit i j, other)

  -- a character that has a dot
  module _ (dotted : has_dot ws place ≡ true) where
    -- "the lowest row with a dot and the leftmost dot in that row"
    pub origin-dot : Dot (lowest_of ws place) (first_in_row ws place (lowest_of ws place))
    unfolding has_dot lowest_of dot_in_row first_in_row
    origin-dot =
        let a = lowest_of ws place in
        let lowest = last-passes (dot_in_row ws place) (rows ws) dotted in
        let first = first-lt (λ j. eqb (raster_dot ws place a j) 1) (width ws) lowest.1 in
        record {
          down = lowest.0;
          across = first;
          set = eqb-true _ 1 (first_passes (λ j. eqb (raster_dot ws place a j) 1) (width ws) first);
        }

    abbrev b : ℕ
    b = first_in_row ws place (lowest_of ws place)

    pub left-right : left_of ws place ≤ right_of ws place
    left-right =
        let left = left-upto _ b origin-dot in
        let right = right-from _ b origin-dot in
        omega arith

    right-found : (right_of ws place < width ws) × (dot_in_column ws place (right_of ws place) ≡ true)
    unfolding right_of
    right-found =
        last-passes (dot_in_column ws place) (width ws)
        (some-here (dot_in_column ws place) (width ws) b origin-dot.across (in-column _ b origin-dot))

    pub right-inside : right_of ws place < width ws
    right-inside = right-found.0

    left-column : dot_in_column ws place (left_of ws place) ≡ true
    unfolding left_of
    left-column =
        let left = left-right in
        let right = right-inside in
        first_passes (dot_in_column ws place) (width ws) (omega arith)

-- ---- all characters together

module _ (ws : List ℕ) (c place : ℕ) (f : Character ws c place) where
  column-used : (j : ℕ) → dot_in_column ws place j ≡ true → column_used ws j ≡ true
  unfolding column_used
  column-used j h = some-here (λ k. dot_in_column ws (char_at ws k) j) (chars ws) f.k f.counted (rw f.here at h)

  row-used : (i : ℕ) → dot_in_row ws place i ≡ true → row_used ws i ≡ true
  unfolding row_used
  row-used i h = some-here (λ k. dot_in_row ws (char_at ws k) i) (chars ws) f.k f.counted (rw f.here at h)

  -- "the box words cover the dots of all characters together"
  module _ (dotted : has_dot ws place ≡ true) where
    pub leftmost-upto : leftmost ws ≤ left_of ws place
    unfolding leftmost
    leftmost-upto = first-least (column_used ws) (width ws) (left_of ws place) (column-used _ (left-column ws place dotted))

    pub rightmost-from : right_of ws place ≤ rightmost ws
    unfolding rightmost
    rightmost-from =
        last-greatest (column_used ws) (width ws) (right_of ws place) (right-inside ws place dotted)
        (column-used _ (right-found ws place dotted).1)

  module _ (i j : ℕ) (d : Dot ws place i j) where
    pub top-upto : top ws ≤ i
    unfolding top
    top-upto = first-least (row_used ws) (rows ws) i (row-used i (in_row ws place i j d))

    pub bottom-from : i ≤ bottom ws
    unfolding bottom
    bottom-from = last-greatest (row_used ws) (rows ws) i d.down (row-used i (in_row ws place i j d))
