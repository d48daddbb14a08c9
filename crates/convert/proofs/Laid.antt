-- The numbers that a file is laid out by, and the drawing that is measured from a CU file.
use Prim.Native.Nat.{ℕ, ◌+◌, ◌-◌, ◌*◌, ◌<◌, ◌≤◌}
use mathlib.Core.Path.{◌≡◌, refl, sym, ap, ◌∙◌}
use mathlib.Core.Bool.{Bool, true, false, cond, ◌&&◌, ◌||◌}
use mathlib.Core.List.{List, ◌++◌, append_assoc}
use native.Mathlib.Omega.{arith}
use lib.Dec.{ltb}
use lib.ListN.{length, drop}
use lib.Seq.{drop-drop}
use borrow.Author.Tests.{ltb-true, ltb-false, lt-ltb, le-ltb, eq-eqb, ne_eqb}
use Rattle.words.specs.Word.{word, table}
use Rattle.words.proofs.Digits.{bit-digit}
use Rattle.words.proofs.Lists.{past_end}
use Rattle.words.proofs.Passed.{neither}
use Rattle.words.proofs.Search.{none_below}
use Rattle.convert.specs.declared.cu.Frame.{Frame}
use Rattle.convert.specs.declared.Layout.{Layout}
use Rattle.convert.specs.Writing.{Drawing, min_code, max_code, code_count, columns_of, pointer_at, all_columns, raster_of, fbbdy}
use Rattle.convert.specs.Writing.{strike_dot, pointer_word, width_entry, max_width, bad_spacing, bad_offset, too_large, length_word}
use Rattle.convert.specs.Writing.{header_words, bitmap_word, file_of, file_words, layout_of}
use Rattle.convert.specs.Cu.{raster_dot, columns_at, left_from, drawing_from}
use Rattle.convert.specs.Bitmap.{picture_dot, raster_at}
use Rattle.convert.proofs.Columns.{pointer-next, pointer-rises, raster-holds, strike-picture}

pub record Laid (d : Drawing) (l : Layout) : Type 0 where
  pub least : l.min ≡ min_code d
  pub greatest : l.max ≡ max_code d
  pub count : l.codes ≡ code_count d
  pub across : l.columns ≡ all_columns d
  pub wide : l.raster ≡ raster_of d
  pub high : l.rows ≡ fbbdy d

pub laid : (d : Drawing) (l : Layout) → l ≡ layout_of d → Laid d l
unfolding layout_of
laid d l e =
    record {
      least = ap (λ (m : Layout). m.min) e;
      greatest = ap (λ (m : Layout). m.max) e;
      count = ap (λ (m : Layout). m.codes) e;
      across = ap (λ (m : Layout). m.columns) e;
      wide = ap (λ (m : Layout). m.raster) e;
      high = ap (λ (m : Layout). m.rows) e;
    }

-- "Raster is the least that holds all columns"
pub raster-least : (d : Drawing) → 16 * raster_of d ≤ all_columns d + 15
unfolding raster_of
raster-least d = omega arith

-- what the layout says of the file's size
pub large-by : (d : Drawing) (l : Layout) → l ≡ layout_of d
    → (ltb 65535 l.columns || ltb 65535 (l.raster * l.rows + l.codes + 7)) ≡ too_large d
unfolding too_large length_word layout_of
large-by d l e = ap (λ (l : Layout). ltb 65535 l.columns || ltb 65535 (l.raster * l.rows + l.codes + 7)) e

pub words-by : (d : Drawing) (l : Layout) → l ≡ layout_of d → l.raster * l.rows + 2 * l.codes + 16 ≡ file_words d
unfolding file_words layout_of
words-by d l e = ap (λ (l : Layout). l.raster * l.rows + 2 * l.codes + 16) e

pub length-by : (d : Drawing) (l : Layout) → l ≡ layout_of d → l.raster * l.rows + l.codes + 7 ≡ length_word d
unfolding length_word layout_of
length-by d l e = ap (λ (l : Layout). l.raster * l.rows + l.codes + 7) e

-- a file that is not too large has few columns, and its length fits a word
pub fits_by : (d : Drawing) (l : Layout) → l ≡ layout_of d → too_large d ≡ false
    → (l.columns ≤ 65535) × ((l.raster ≤ 4096) × (l.raster * l.rows + l.codes + 7 ≤ 65535))
fits_by d l e fits =
    let both = neither (ltb 65535 l.columns) _ (large-by d l e ∙ fits) in
    let few = ltb-false 65535 l.columns both.0 in
    let known = laid d l e in
    let least = raster-least d in
    let across = known.across in
    let wide = known.wide in
    (few, (omega arith, ltb-false 65535 _ both.1))

-- the pictures up to one of them, and the dummy behind them all, have their columns in the raster
pub picture-inside : (d : Drawing) (k : ℕ) → k < code_count d → pointer_at d k + columns_of d (min_code d + k) ≤ 16 * raster_of d
unfolding all_columns
picture-inside d k less =
    let next = pointer-next d k in
    let upto = pointer-rises d (k + 1) (code_count d) (omega arith) in
    let all = raster-holds d in
    omega arith

pub pointer-inside : (d : Drawing) (k : ℕ) → k ≤ code_count d → pointer_at d k ≤ all_columns d
unfolding all_columns
pointer-inside d k le = let upto = pointer-rises d k (code_count d) le in omega arith

pub width-dummy : (d : Drawing) → width_entry d (code_count d) ≡ max_width d
unfolding width_entry
width-dummy d = rw (eq-eqb (code_count d) (code_count d) refl)

-- the words of the pointer table
pub pointer-word : (d : Drawing) (k : ℕ) → k ≤ code_count d → pointer_word d k ≡ pointer_at d k
unfolding pointer_word
pointer-word d k le = rw (le-ltb (code_count d) k le)

pub pointer-last : (d : Drawing) → pointer_word d (code_count d + 1) ≡ all_columns d
unfolding pointer_word
pointer-last d = rw (lt-ltb (code_count d) (code_count d + 1) (omega arith))

pub dummy-inside : (d : Drawing) → (pointer_at d (code_count d) + d.fbbdx ≡ all_columns d) × (all_columns d ≤ 16 * raster_of d)
unfolding all_columns
dummy-inside d = (refl, raster-holds d)

-- the file, part behind part, and what is left of the slice that it was written over
file-parts : (d : Drawing) (out : List ℕ)
    → header_words d
    ++ (table (raster_of d * fbbdy d) (bitmap_word d)
    ++ (table (code_count d + 2) (pointer_word d)
    ++ (table (code_count d + 1) (width_entry d) ++ drop (code_count d + 1)
    (drop (code_count d + 2) (drop (raster_of d * fbbdy d) (drop 13 out))))))
    ≡ file_of d ++ drop (file_words d) out
unfolding file_of file_words
file-parts d out =
    let header = header_words d in
    let bitmap = table (raster_of d * fbbdy d) (bitmap_word d) in
    let pointers = table (code_count d + 2) (pointer_word d) in
    let widths = table (code_count d + 1) (width_entry d) in
    let sum : 13 + raster_of d * fbbdy d + (code_count d + 2) + (code_count d + 1) ≡ raster_of d * fbbdy d + 2 * code_count d + 16 =
    omega arith in
    let dropped : drop (code_count d + 1) (drop (code_count d + 2) (drop (raster_of d * fbbdy d) (drop 13 out)))
    ≡ drop (raster_of d * fbbdy d + 2 * code_count d + 16) out =
    ap (λ (q : List ℕ). drop (code_count d + 1) (drop (code_count d + 2) q)) (drop-drop (raster_of d * fbbdy d) 13 out)
    ∙ ap (drop (code_count d + 1)) (drop-drop (code_count d + 2) (13 + raster_of d * fbbdy d) out)
    ∙ drop-drop (code_count d + 1) (13 + raster_of d * fbbdy d + (code_count d + 2)) out
    ∙ ap (λ (n : ℕ). drop n out) sum in
    let left = drop (raster_of d * fbbdy d + 2 * code_count d + 16) out in
    ap (λ (q : List ℕ). header ++ (bitmap ++ (pointers ++ (widths ++ q)))) dropped
    ∙ sym (append_assoc header bitmap (pointers ++ (widths ++ left)))
    ∙ sym (append_assoc (header ++ bitmap) pointers (widths ++ left))
    ∙ sym (append_assoc (header ++ bitmap ++ pointers) widths left)

pub file-by : (d : Drawing) (l : Layout) → l ≡ layout_of d → (out : List ℕ)
    → header_words d
    ++ (table (l.raster * l.rows) (bitmap_word d)
    ++ (table (l.codes + 2) (pointer_word d)
    ++ (table (l.codes + 1) (width_entry d) ++ drop (l.codes + 1) (drop (l.codes + 2) (drop (l.raster * l.rows) (drop 13 out))))))
    ≡ file_of d ++ drop (file_words d) out
unfolding layout_of
file-by d l e out =
    ap (λ (l : Layout). header_words d
    ++ (table (l.raster * l.rows) (bitmap_word d)
    ++ (table (l.codes + 2) (pointer_word d)
    ++ (table (l.codes + 1) (width_entry d) ++ drop (l.codes + 1) (drop (l.codes + 2) (drop (l.raster * l.rows) (drop 13 out))))))) e
    ∙ file-parts d out

module _ (ws : List ℕ) (frame : Frame) (places : List ℕ) where
  pub drawn-bit : (c r j : ℕ) → (drawing_from ws frame places).dot c r j < 2
  unfolding drawing_from raster_dot
  drawn-bit c r j = bit-digit _ _

  pub own-columns : (c : ℕ) → columns_at ws (word places c) ≡ columns_of (drawing_from ws frame places) c
  unfolding columns_of columns_at drawing_from
  own-columns c = refl

  -- the columns of a code's picture are those of its raster, from its own box on
  pub own-picture : (k row j : ℕ) → k < code_count (drawing_from ws frame places)
      → j < columns_of (drawing_from ws frame places) (min_code (drawing_from ws frame places) + k)
      → strike_dot (drawing_from ws frame places) row (pointer_at (drawing_from ws frame places) k + j)
      ≡ picture_dot ws (raster_at ws frame (word places (min_code (drawing_from ws frame places) + k))) row j
  unfolding drawing_from picture_dot raster_at
  own-picture k row j less here = strike-picture (drawing_from ws frame places) row k j less here

  -- the width entry of the character at a place
  unfoldable pub width_at : ℕ → ℕ
  width_at place = cond (ltb 0 place) ((left_from ws frame place - frame.left) * 256 + word ws (place + 1)) 0xFFFF

  -- what no refusal leaves of a spacing or an offset over 255
  fits-of : (there wide far both : Bool) → (there && (wide || both)) ≡ false → (there && far) ≡ false → (there && (wide || far)) ≡ false
  fits-of true wide far both spacing offset = rw ((neither wide both spacing).0, offset)
  fits-of false wide far both spacing offset = refl

  pub entry-fits : length places ≡ 256 → bad_spacing (drawing_from ws frame places) ≡ false
      → bad_offset (drawing_from ws frame places) ≡ false
      → (c : ℕ) → (ltb 0 (word places c) && (ltb 255 (word ws (word places c + 1)) || ltb 255
      (left_from ws frame (word places c) - frame.left))) ≡ false
  unfolding bad_spacing bad_offset drawing_from
  entry-fits long spacings offsets c = below-or-past (ltb c 256) refl
    where
      below-or-past : (t : Bool) → ltb c 256 ≡ t
          → (ltb 0 (word places c) && (ltb 255 (word ws (word places c + 1)) || ltb 255 (left_from ws frame (word places c) - frame.left)))
          ≡ false
      below-or-past true q =
          let less = ltb-true c 256 q in
          fits-of (ltb 0 (word places c)) (ltb 255 (word ws (word places c + 1))) _ _ (none_below _ 256 c spacings less)
          (none_below _ 256 c offsets less)
      below-or-past false q =
          let past = ltb-false c 256 q in
          let none : word places c ≡ 0 = sym (past_end places c (omega arith)) in
          rw none refl

  pub width-own : (k : ℕ) → k < code_count (drawing_from ws frame places)
      → width_entry (drawing_from ws frame places) k
      ≡ width_at (word places (min_code (drawing_from ws frame places) + k))
  unfolding width_entry width_at drawing_from
  width-own k less = rw (ne_eqb k (code_count (drawing_from ws frame places)) (λ same. absurd (omega arith)))
