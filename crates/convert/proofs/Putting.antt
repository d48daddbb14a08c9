-- How the bitmap comes to be: a column of a picture changes one word of each row, and the columns of a picture come one after the other.
use Prim.Native.Nat.{ℕ, ◌+◌, ◌-◌, ◌*◌, ◌/◌, ◌%◌, ◌<◌, ◌≤◌}
use mathlib.Core.Path.{◌≡◌, refl, sym, ap, ap₂, ◌∙◌}
use mathlib.Core.Bool.{Bool, true, false, cond, ◌&&◌, true≢false}
use mathlib.Core.List.{List}
use native.Mathlib.Nat.{mod-eq_of_lt, add-mul, one-mul}
use native.Mathlib.Omega.{arith}
use lib.Dec.{leb, ltb, eqb}
use lib.ListN.{length, set}
use borrow.Author.Tests.{leb-true, ltb-true, ltb-false, le-leb, lt-ltb, le-ltb, eq-eqb, ne_eqb, eqb-true, eqb-false}
use Rattle.words.specs.Word.{word, bit_of, word_of, put_bit, over}
use Rattle.words.proofs.Digits.{bit-digit}
use Rattle.words.proofs.Bits.{bit-word-of, word-of-same, ext-bits, word-of-lt}
use Rattle.words.proofs.Passed.{both}
use Rattle.words.proofs.Over.{over-at, over-one, over-over, over-same}
use Rattle.words.proofs.Rows.{row_of, word-of-row}
use Rattle.convert.specs.declared.Picture.{Picture}
use Rattle.convert.specs.declared.Picture.TheVariants.{Raster, Block, Blank}
use Rattle.convert.specs.Cu.{raster_dot, columns_across, columns_at}
use Rattle.convert.specs.Bitmap.{picture_dot, column_word, picture_bit, picture_word}

pub dot-digit : (ws : List ℕ) (picture : Picture) (row column : ℕ) → picture_dot ws picture row column < 2
unfolding picture_dot raster_dot
dot-digit ws (Raster place top left) row column = bit-digit _ _
dot-digit ws Block row column = omega arith
dot-digit ws Blank row column = omega arith

-- ---- one column, row by row

module _ (ws : List ℕ) (picture : Picture) (column at raster : ℕ) (inside : at < 16 * raster) (bitmap : List ℕ) where
  abbrev put : ℕ → ℕ
  put = column_word ws picture column at raster bitmap

  -- the word of a row that has the column, and the others
  here : (row : ℕ) → put (row * raster + at / 16)
      ≡ put_bit (word bitmap (row * raster + at / 16)) (at % 16) (picture_dot ws picture row column)
  unfolding column_word
  here row =
      let less : at / 16 < raster = omega arith in
      rw (word-of-row row raster (at / 16) less, row_of row raster (at / 16) less, eq-eqb (at / 16) (at / 16) refl)

  elsewhere : (row w : ℕ) → w < raster → (w ≡ at / 16 → ⊥) → put (row * raster + w) ≡ word bitmap (row * raster + w)
  unfolding column_word
  elsewhere row w less other = rw (word-of-row row raster w less, ne_eqb w (at / 16) other)

  -- what a turn of the loop over the rows does
  pub column-row : (row : ℕ) → over ((row + 1) * raster) put bitmap
      ≡ set (over (row * raster) put bitmap) (row * raster + at / 16)
      (put_bit (word bitmap (row * raster + at / 16)) (at % 16) (picture_dot ws picture row column))
  column-row row =
      let n = row * raster in
      let a = at / 16 in
      let b = raster - a - 1 in
      let less : a < raster = omega arith in
      let next : (row + 1) * raster ≡ n + a + 1 + b = add-mul row 1 raster ∙ ap (λ (k : ℕ). n + k) (one-mul raster) ∙ omega arith in
      ap (λ (k : ℕ). over k put bitmap) next
      ∙ over-one n a b put bitmap
      (λ j before. elsewhere row j (omega arith) (λ same. absurd (omega arith)))
      (λ j after.
      let far : n + a + 1 + j ≡ n + (a + 1 + j) = omega arith in
      rw far (elsewhere row (a + 1 + j) (omega arith) (λ same. absurd (omega arith))))
      ∙ ap (set (over n put bitmap) (n + a)) (here row)

-- ---- a picture, column by column

-- no column lies from `at` up to `at`
no-column : (at column dot old : ℕ) → cond (leb at column && ltb column (at + 0)) dot old ≡ old
no-column at column dot old = either (leb at column) refl
  where
    either : (t : Bool) → leb at column ≡ t → cond (t && ltb column (at + 0)) dot old ≡ old
    either true q = let from = leb-true at column q in rw (le-ltb column (at + 0) (omega arith))
    either false q = refl

-- c + 1 columns from `at` on are c columns and one more
one-column : (at c column : ℕ) (dot : ℕ → ℕ) (old : ℕ) (same : Bool) → (same ≡ true → column ≡ at + c) → (column ≡ at + c → same ≡ true)
    → cond (leb at column && ltb column (at + (c + 1))) (dot (column - at)) old
    ≡ cond same (dot c) (cond (leb at column && ltb column (at + c)) (dot (column - at)) old)
one-column at c column dot old true here back =
    let e = here refl in
    rw (le-leb at column (omega arith), lt-ltb column (at + (c + 1)) (omega arith)) (ap dot (omega arith))
one-column at c column dot old false here back =
    ap (λ (t : Bool). cond (leb at column && t) (dot (column - at)) old) (before-or-behind (ltb column (at + c)) refl)
  where
    before-or-behind : (t : Bool) → ltb column (at + c) ≡ t → ltb column (at + (c + 1)) ≡ ltb column (at + c)
    before-or-behind true q =
        let less = ltb-true column (at + c) q in
        lt-ltb column (at + (c + 1)) (omega arith) ∙ sym q
    before-or-behind false q =
        let from = ltb-false column (at + c) q in
        le-ltb column (at + (c + 1)) (not-here (eqb column (at + c)) refl from) ∙ sym q
      where
        not-here : (t : Bool) → eqb column (at + c) ≡ t → at + c ≤ column → at + (c + 1) ≤ column
        not-here true e from = absurd (true≢false (sym (back (eqb-true column (at + c) e))))
        not-here false e from = let other = eqb-false column (at + c) e in omega (arith, other)

module _ (ws : List ℕ) (picture : Picture) (at raster : ℕ) (bitmap : List ℕ) where
  pub picture-digit : (columns i j : ℕ) → picture_bit ws picture columns at raster bitmap i j < 2
  unfolding picture_bit
  picture-digit columns i j = either (leb at (16 * (i % raster) + j) && ltb (16 * (i % raster) + j) (at + columns))
    where
      either : (t : Bool) → cond t (picture_dot ws picture (i / raster) (16 * (i % raster) + j - at)) (bit_of (word bitmap i) j) < 2
      either true = dot-digit ws picture _ _
      either false = bit-digit _ _

  -- before the first column the words are as they were lent
  pub picture-none : (i : ℕ) → word bitmap i < 65536 → picture_word ws picture 0 at raster bitmap i ≡ word bitmap i
  unfolding picture_word picture_bit
  picture-none i small =
      let bits = picture_bit ws picture 0 at raster bitmap i in
      ext-bits (word_of bits) (word bitmap i) (word-of-lt bits (picture-digit 0 i)) small
      (λ j less. bit-word-of bits (picture-digit 0 i) j less ∙ no-column at (16 * (i % raster) + j) _ _)

  -- the dot that column c of the picture adds
  more : (c i j : ℕ) → j < 16 → picture_bit ws picture (c + 1) at raster bitmap i j
      ≡ cond (eqb (i % raster) ((at + c) / 16) && eqb j ((at + c) % 16))
      (picture_dot ws picture (i / raster) c)
      (picture_bit ws picture c at raster bitmap i j)
  unfolding picture_bit
  more c i j less =
      one-column at c (16 * (i % raster) + j) (picture_dot ws picture (i / raster)) _ _
      (λ t. let same = both (eqb (i % raster) ((at + c) / 16)) (eqb j ((at + c) % 16)) t in
      let w = eqb-true (i % raster) ((at + c) / 16) same.0 in
      let k = eqb-true j ((at + c) % 16) same.1 in
      omega arith)
      (λ e. ap₂ (λ (s t : Bool). s && t)
      (eq-eqb (i % raster) ((at + c) / 16) (omega arith))
      (eq-eqb j ((at + c) % 16) (omega arith)))

  -- column c is put behind the columns before it
  one_more : (c i w : ℕ) → w ≡ picture_word ws picture c at raster bitmap i
      → cond (eqb (i % raster) ((at + c) / 16)) (put_bit w ((at + c) % 16) (picture_dot ws picture (i / raster) c)) w
      ≡ picture_word ws picture (c + 1) at raster bitmap i
  unfolding picture_word put_bit
  one_more c i w e = in-word (eqb (i % raster) ((at + c) / 16)) refl
    where
      bits : ℕ → ℕ
      bits = picture_bit ws picture c at raster bitmap i

      in-word : (t : Bool) → eqb (i % raster) ((at + c) / 16) ≡ t
          → cond t (put_bit w ((at + c) % 16) (picture_dot ws picture (i / raster) c)) w
          ≡ word_of (picture_bit ws picture (c + 1) at raster bitmap i)
      in-word true q =
          word-of-same _ _
          (λ j less.
          sym (more c i j less
          ∙ ap (λ (t : Bool). cond (t && eqb j ((at + c) % 16)) (picture_dot ws picture (i / raster) c) (bits j)) q
          ∙ ap₂ (cond (eqb j ((at + c) % 16))) (sym (mod-eq_of_lt (dot-digit ws picture (i / raster) c)))
          (sym (ap (λ (v : ℕ). bit_of v j) e ∙ bit-word-of bits (picture-digit c i) j less))))
      in-word false q =
          e ∙ word-of-same _ _
          (λ j less. sym (more c i j less ∙ ap (λ (t : Bool). cond (t && eqb j ((at + c) % 16)) (picture_dot ws picture (i / raster) c)
          (bits j)) q))

  -- what a turn of the loop over the columns does
  pub picture-column : (c n : ℕ) → n ≤ length bitmap
      → over n (column_word ws picture c (at + c) raster (over n (picture_word ws picture c at raster bitmap) bitmap))
      (over n (picture_word ws picture c at raster bitmap) bitmap)
      ≡ over n (picture_word ws picture (c + 1) at raster bitmap) bitmap
  unfolding column_word
  picture-column c n fits =
      over-over n _ _ bitmap fits
      ∙ over-same n _ _ bitmap (λ i less. one_more c i _ (over-at n (picture_word ws picture c at raster bitmap) bitmap i less fits))

-- no character, no columns
pub columns-none : (ws : List ℕ) (place : ℕ) → place ≡ 0 → columns_at ws place ≡ 0
unfolding columns_at
columns-none ws place e = rw e refl

pub columns-there : (ws : List ℕ) (place : ℕ) → 0 < place → columns_at ws place ≡ columns_across ws place
unfolding columns_at
columns-there ws place h = rw (lt-ltb 0 place h)
