-- The bitmap as far as its first columns are written: pictures that are put one behind the other make the strike.
use Prim.Native.Nat.{ℕ, ◌+◌, ◌-◌, ◌*◌, ◌/◌, ◌%◌, ◌<◌, ◌≤◌}
use mathlib.Core.Path.{◌≡◌, refl, sym, ap, ◌∙◌}
use mathlib.Core.Bool.{Bool, true, false, cond, ◌&&◌}
use mathlib.Core.List.{List}
use native.Mathlib.Nat.{mod-lt, add-sub_of_le}
use native.Mathlib.Omega.{arith}
use lib.Dec.{leb, ltb}
use lib.ListN.{length}
use borrow.Author.Tests.{ltb-true, ltb-false, le-leb, lt-leb, lt-ltb, le-ltb}
use Rattle.words.specs.Word.{word, bit_of, word_of, over}
use Rattle.words.proofs.Digits.{bit-digit}
use Rattle.words.proofs.Bits.{bit-word-of, word-of-same, ext-bits, word-of-lt}
use Rattle.words.proofs.Over.{over-at, over-over, over-same}
use Rattle.convert.specs.declared.Picture.{Picture}
use Rattle.convert.specs.Writing.{Drawing, raster_of, strike_dot, bitmap_word}
use Rattle.convert.specs.Bitmap.{picture_dot, picture_bit, picture_word}
use Rattle.convert.proofs.Columns.{strike-bit}

module _ (d : Drawing) (bits : (c r j : ℕ) → d.dot c r j < 2) (raster : ℕ) (lent : List ℕ) where
  -- dot j of word i: of the strike in its first `upto` columns, and as it was lent in the others
  unfoldable pub dot_upto : ℕ → ℕ → ℕ → ℕ
  dot_upto upto i j =
      let column = 16 * (i % raster) + j in
      cond (ltb column upto) (strike_dot d (i / raster) column) (bit_of (word lent i) j)

  unfoldable pub word_upto : ℕ → ℕ → ℕ
  word_upto upto i = word_of (dot_upto upto i)

  upto-digit : (upto i j : ℕ) → dot_upto upto i j < 2
  unfolding dot_upto
  upto-digit upto i j = either (ltb (16 * (i % raster) + j) upto)
    where
      either : (t : Bool) → cond t (strike_dot d (i / raster) (16 * (i % raster) + j)) (bit_of (word lent i) j) < 2
      either true = strike-bit d bits _ _
      either false = bit-digit _ _

  -- no column is written
  pub upto-none : (i : ℕ) → word lent i < 65536 → word_upto 0 i ≡ word lent i
  unfolding word_upto dot_upto
  upto-none i small =
      ext-bits (word_of (dot_upto 0 i)) (word lent i) (word-of-lt (dot_upto 0 i) (upto-digit 0 i)) small
      (λ j less. bit-word-of (dot_upto 0 i) (upto-digit 0 i) j less ∙ rw (le-ltb (16 * (i % raster) + j) 0 (omega arith)))

  -- a picture behind the columns written: its own columns, those before it, and those behind it
  behind : (upto columns column picture strike old : ℕ) → (upto ≤ column → column < upto + columns → picture ≡ strike)
      → cond (leb upto column && ltb column (upto + columns)) picture (cond (ltb column upto) strike old)
      ≡ cond (ltb column (upto + columns)) strike old
  behind upto columns column picture strike old same = before-or-not (ltb column upto) refl (ltb column (upto + columns)) refl
    where
      before-or-not : (s : Bool) → ltb column upto ≡ s → (t : Bool) → ltb column (upto + columns) ≡ t
          → cond (leb upto column && t) picture (cond s strike old) ≡ cond t strike old
      before-or-not true q t e =
          let less = ltb-true column upto q in
          rw (lt-leb upto column less) (ap (λ (r : Bool). cond r strike old) (sym (lt-ltb column (upto + columns) (omega arith)) ∙ e))
      before-or-not false q true e =
          let from = ltb-false column upto q in
          rw (le-leb upto column from) (same from (ltb-true column (upto + columns) e))
      before-or-not false q false e = let from = ltb-false column upto q in rw (le-leb upto column from) refl

  module _ (ws : List ℕ) (picture : Picture) (upto columns : ℕ)
      (same : (row j : ℕ) → j < columns → strike_dot d row (upto + j) ≡ picture_dot ws picture row j) where
    one_word : (q : List ℕ) (i : ℕ) → word q i ≡ word_upto upto i
        → picture_word ws picture columns upto raster q i ≡ word_upto (upto + columns) i
    unfolding picture_word picture_bit word_upto dot_upto
    one_word q i e =
        word-of-same _ _
        (λ j less.
        let column = 16 * (i % raster) + j in
        ap (cond (leb upto column && ltb column (upto + columns)) (picture_dot ws picture (i / raster) (column - upto)))
        (ap (λ (w : ℕ). bit_of w j) e ∙ bit-word-of (dot_upto upto i) (upto-digit upto i) j less)
        ∙ behind upto columns column _ (strike_dot d (i / raster) column) (bit_of (word lent i) j)
        (λ from until. sym (ap (strike_dot d (i / raster)) (sym (add-sub_of_le from)) ∙ same (i / raster) (column - upto) (omega arith))))

    pub strike-on : (n : ℕ) → n ≤ length lent
        → over n (picture_word ws picture columns upto raster (over n (word_upto upto) lent)) (over n (word_upto upto) lent)
        ≡ over n (word_upto (upto + columns)) lent
    strike-on n fits =
        over-over n _ _ lent fits
        ∙ over-same n _ _ lent (λ i less. one_word (over n (word_upto upto) lent) i (over-at n (word_upto upto) lent i less fits))

-- all columns are written
pub upto_all : (d : Drawing) (bits : (c r j : ℕ) → d.dot c r j < 2) (lent : List ℕ) (i : ℕ) → 0 < raster_of d
    → word_upto d bits (raster_of d) lent (16 * raster_of d) i ≡ bitmap_word d i
unfolding word_upto dot_upto bitmap_word
upto_all d bits lent i some =
    word-of-same _ _
    (λ j less.
    let inside : i % raster_of d < raster_of d = mod-lt i some in
    rw (lt-ltb (16 * (i % raster_of d) + j) (16 * raster_of d) (omega arith)))
