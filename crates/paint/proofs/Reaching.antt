-- P5: what the loops draw word by word is the painting rule. A word that the picture reaches gets its marks (`reached`), all others are
-- left alone (`unshared`), so the rows drawn are the panel under the picture (`picture-drawn`).
use Prim.Native.Nat.{ℕ, zero, suc, ◌+◌, ◌-◌, ◌*◌, ◌/◌, ◌%◌, ◌^◌, ◌<◌, ◌≤◌, min}
use mathlib.Core.Path.{◌≡◌, refl, sym, ap, ap₂, ◌∙◌}
use mathlib.Core.Bool.{Bool, true, false, cond}
use mathlib.Core.List.{List, []}
use native.Mathlib.Nat.{add-zero, add_assoc, add-mul, zero-min, mod-lt, div-le_self}
use native.Mathlib.Numerals.{add-one}
use native.Mathlib.Omega.{arith}
use mathlib.Core.Logic.{◌⊎◌, inl, inr, ⊎_elim}
use lib.Bits.{bit_and, and_lt}
use lib.Dec.{ltb, eqb}
use lib.ListN.{length}
use borrow.Author.Tests.{le-leb, lt-leb, lt-ltb, ltb-true, ltb-false}
use Rattle.words.specs.declared.Effect.{Effect}
use Rattle.words.specs.declared.Mode.{Mode}
use Rattle.words.specs.Word.{word, bit_of}
use Rattle.words.specs.declared.Mode.TheVariants.{Paint, Erase, Invert}
use Rattle.words.specs.Effect.{identity, effect_of, apply_to, altered, clearing, cleared, OfWords}
use Rattle.words.proofs.Digits.{bit-and, bit-digit}
use Rattle.words.proofs.Bits.{ext-bits, bit-word-of, word-of-lt, word-of-none}
use Rattle.words.proofs.Altering.{AllWords, altered-idle, altered-on, altered-step, altered-words}
use Rattle.words.proofs.Clearing.{Carried, whole, clears}
use Rattle.fonts.specs.declared.Glyph.{Glyph}
use Rattle.fonts.specs.Face.{dot_of}
use Rattle.fonts.proofs.Dots.{dot-bit, dot-past, dot-beside}
use Rattle.paint.specs.declared.Strip.{Strip}
use Rattle.paint.specs.declared.Stroke.{Stroke}
use Rattle.paint.specs.declared.Pen.{Pen}
use Rattle.paint.specs.declared.Reach.{Reach}
use Rattle.paint.specs.Pen.{dot_along, mark, mask_from, mask_at, picture_effect, in_row, on_panel, stroke_words, Drawable}
use Rattle.paint.specs.Reach.{first_row, end_row, left_at, shared, bit_under, reach_over, nothing, reach_of}
use Rattle.paint.specs.Reach.{window, row_marks, row_drawn, rows_drawn, rows_kept}
use Rattle.paint.proofs.Marks.{mark-bit, mark-beside, mark-dark, mark-lit, strip-left-of, strip-right-of, strip-holds}
use Rattle.paint.proofs.Rows.{picture-at, no-marks, effect_words, picture-begins, picture-ends}
use Rattle.paint.proofs.Rows.{row_more as panel-row-more}
use Rattle.paint.proofs.Neighbours.{in-first, in-second}
use Rattle.paint.proofs.Edges.{head_in, head-out, tail-in, tail-out}
use Rattle.paint.proofs.Reaches.{reaches_some, reaches-none}
use Rattle.paint.proofs.Drawing.{nothing-drawn}

-- ---- bits of a font, counted through its words

unfoldable file_bit : List ℕ → ℕ → ℕ
file_bit font b = bit_of (word font (b / 16)) (b % 16)

-- a window shows sixteen of them
window-bit : (font : List ℕ) (i shift j : ℕ) → AllWords font → shift < 16 → j < 16
    → bit_of (window font i shift) j ≡ file_bit font (16 * i + shift + j)
unfolding file_bit
window-bit font i shift j words begins here = by_word (ltb (shift + j) 16) refl
  where
    by_word : (t : Bool) → ltb (shift + j) 16 ≡ t
        → bit_of (window font i shift) j ≡ bit_of (word font ((16 * i + shift + j) / 16)) ((16 * i + shift + j) % 16)
    by_word true e =
        let less : shift + j < 16 = ltb-true (shift + j) 16 e in
        let at : i ≡ (16 * i + shift + j) / 16 = omega arith in
        let bit : shift + j ≡ (16 * i + shift + j) % 16 = omega arith in
        in-first (word font i) (word font (i + 1)) shift j (words (i + 1)) begins here less
        ∙ ap₂ (λ (n b : ℕ). bit_of (word font n) b) at bit
    by_word false e =
        let past : 16 ≤ shift + j = ltb-false (shift + j) 16 e in
        let at : i + 1 ≡ (16 * i + shift + j) / 16 = omega arith in
        let bit : shift + j - 16 ≡ (16 * i + shift + j) % 16 = omega arith in
        in-second (word font i) (word font (i + 1)) shift j (words (i + 1)) begins here past
        ∙ ap₂ (λ (n b : ℕ). bit_of (word font n) b) at bit

-- and so is a dot of a picture
dot-in-file : (font : List ℕ) (g : Glyph) (r j : ℕ) → r < g.height → j < g.columns
    → dot_of font g r j ≡ file_bit font (16 * (g.bitmap + r * g.raster) + (g.first + j))
unfolding dot_of file_bit
dot-in-file font g r j below within =
    let at : g.bitmap + r * g.raster + (g.first + j) / 16 ≡ (16 * (g.bitmap + r * g.raster) + (g.first + j)) / 16 = omega arith in
    let bit : (g.first + j) % 16 ≡ (16 * (g.bitmap + r * g.raster) + (g.first + j)) % 16 = omega arith in
    rw (lt-ltb r g.height below, lt-ltb j g.columns within)
    (ap₂ (λ (n b : ℕ). bit_of (word font n) b) at bit)

-- ---- a column of the panel, by whether picture and strip share it

module _ (font : List ℕ) (k : Stroke) (pen : Pen) (g : Glyph) (row column : ℕ) where
  abbrev place : ℕ
  place = column + 4096

  abbrev below : ℕ
  below = row + 2048 + g.ascent

  abbrev columns : Strip
  columns = shared g k (left_at g k pen)

  -- it lies in the strip, but the picture begins right of it or ends left of it
  past-picture : k.strip.from ≤ column → (t : Bool) → ltb place (left_at g k pen) ≡ t
      → (left_at g k pen ≤ place → left_at g k pen + g.columns ≤ place)
      → dot_along (dot_of font g (below - k.y)) (pen.place + g.place) (column + 4096 - k.strip.from) ≡ 0
  unfolding dot_along
  past-picture in-it true e beyond =
      let less : place < left_at g k pen = ltb-true place (left_at g k pen) e in
      rw (lt-leb (pen.place + g.place) (column + 4096 - k.strip.from) (omega arith))
  past-picture in-it false e beyond =
      let begun : left_at g k pen ≤ place = ltb-false place (left_at g k pen) e in
      let right = beyond begun in
      rw (le-leb (pen.place + g.place) (column + 4096 - k.strip.from) (omega arith))
      (dot-beside font g (below - k.y) (column + 4096 - k.strip.from - (pen.place + g.place)) (omega arith))

  unshared : (columns.from ≤ place → columns.upto ≤ place) → mark (dot_of font) k pen g row column ≡ 0
  unfolding shared
  unshared apart = by-strip (ltb column k.strip.from) (ltb column k.strip.upto) refl refl
    where
      by-strip : (t u : Bool) → ltb column k.strip.from ≡ t → ltb column k.strip.upto ≡ u → mark (dot_of font) k pen g row column ≡ 0
      by-strip true u e f =
          mark-beside (dot_of font) k pen g row column (strip-right-of k.strip column (ltb-true column k.strip.from e))
      by-strip false false e f =
          mark-beside (dot_of font) k pen g row column (strip-left-of k.strip column (ltb-false column k.strip.upto f))
      by-strip false true e f =
          let from : k.strip.from ≤ column = ltb-false column k.strip.from e in
          let upto : column < k.strip.upto = ltb-true column k.strip.upto f in
          mark-dark (dot_of font) k pen g row column
          (past-picture from (ltb place (left_at g k pen)) refl (λ begun. let past = apart (omega arith) in omega arith))

  shared-mark : columns.from ≤ place → place < columns.upto → k.y ≤ below → below < k.y + g.height
      → mark (dot_of font) k pen g row column
      ≡ file_bit font (16 * (g.bitmap + (below - k.y) * g.raster) + (g.first + (place - left_at g k pen)))
  unfolding shared dot_along
  shared-mark from upto begun ends =
      let at = column + 4096 - k.strip.from in
      let start = pen.place + g.place in
      let here : at - start ≡ place - left_at g k pen = omega arith in
      mark-lit (dot_of font) k pen g row column begun (strip-holds k.strip column (omega arith) (omega arith))
      ∙ rw (le-leb start at (omega arith))
      (ap (dot_of font g (below - k.y)) here
      ∙ dot-in-file font g (below - k.y) (place - left_at g k pen) (omega arith) (omega arith))

-- ---- the marks that the loops make, bit by bit

least-one : (x : ℕ) → x < 2 → min x 1 ≡ x
least-one x h = omega arith

least-none : (x : ℕ) → min x 0 ≡ 0
least-none x = omega arith

module _ (font : List ℕ) (r : Reach) (from w j : ℕ) (within : w ≤ r.last) where
  abbrev dots : ℕ
  dots = window font (from + w) r.shift

  abbrev mask : ℕ
  mask = cond (eqb w 0) r.head 0xFFFF

  kept : bit_of mask j ≡ 1 → bit_of (bit_and dots mask) j ≡ bit_of dots j
  kept in_head = bit-and dots mask j ∙ ap (min (bit_of dots j)) in_head ∙ least-one (bit_of dots j) (bit-digit dots j)

  row-bit-in : bit_of mask j ≡ 1 → (w ≡ r.last → bit_of r.tail j ≡ 1) → bit_of (row_marks font r from w) j ≡ bit_of dots j
  unfolding row_marks
  row-bit-in in_head in_Tail = by_word (ltb w r.last) refl
    where
      by_word : (t : Bool) → ltb w r.last ≡ t → bit_of (cond t (bit_and dots mask) (bit_and (bit_and dots mask) r.tail)) j ≡ bit_of dots j
      by_word true e = kept in_head
      by_word false e =
          let past : r.last ≤ w = ltb-false w r.last e in
          bit-and (bit_and dots mask) r.tail j
          ∙ ap₂ min (kept in_head) (in_Tail (omega arith))
          ∙ least-one (bit_of dots j) (bit-digit dots j)

  row-bit-out : (bit_of mask j ≡ 0) ⊎ ((w ≡ r.last) × (bit_of r.tail j ≡ 0)) → bit_of (row_marks font r from w) j ≡ 0
  unfolding row_marks
  row-bit-out = by_word (ltb w r.last) refl
    where
      no-head : bit_of mask j ≡ 0 → bit_of (bit_and dots mask) j ≡ 0
      no-head out = bit-and dots mask j ∙ ap (min (bit_of dots j)) out ∙ least-none (bit_of dots j)

      both : bit_of (bit_and (bit_and dots mask) r.tail) j ≡ min (bit_of (bit_and dots mask) j) (bit_of r.tail j)
      both = bit-and (bit_and dots mask) r.tail j

      by_word : (t : Bool) → ltb w r.last ≡ t → (bit_of mask j ≡ 0) ⊎ ((w ≡ r.last) × (bit_of r.tail j ≡ 0))
          → bit_of (cond t (bit_and dots mask) (bit_and (bit_and dots mask) r.tail)) j ≡ 0
      by_word true e =
          ⊎_elim no-head (λ out. let less : w < r.last = ltb-true w r.last e in let there = out.0 in absurd (omega arith))
      by_word false e =
          ⊎_elim
          (λ out. both ∙ ap (λ (b : ℕ). min b (bit_of r.tail j)) (no-head out) ∙ zero-min (bit_of r.tail j))
          (λ out. both ∙ ap (min (bit_of (bit_and dots mask) j)) out.1 ∙ least-none (bit_of (bit_and dots mask) j))

  row-marks-lt : r.head < 65536 → r.tail < 65536 → row_marks font r from w < 65536
  unfolding row_marks
  row-marks-lt head tail = by_word (ltb w r.last)
    where
      mask_lt : (t : Bool) → cond t r.head 0xFFFF < 65536
      mask_lt true = head
      mask_lt false = omega arith

      first-lt : bit_and dots mask < 65536
      first-lt = and_lt 16 dots mask (mod-lt _ (omega arith)) (mask_lt (eqb w 0))

      by_word : (t : Bool) → cond t (bit_and dots mask) (bit_and (bit_and dots mask) r.tail) < 65536
      by_word true = first-lt
      by_word false = and_lt 16 (bit_and dots mask) r.tail first-lt tail

-- ---- the words of a row

module _ (font : List ℕ) (k : Stroke) (pen : Pen) (g : Glyph) (all : AllWords font) (behind : 1 ≤ g.bitmap) where
  abbrev left : ℕ
  left = left_at g k pen

  abbrev span : Strip
  span = shared g k left

  -- a word of which nothing is shared has no mark
  unmarked : (row start : ℕ) → ((j : ℕ) → j < 16 → span.from ≤ start + j + 4096 → span.upto ≤ start + j + 4096)
      → mask_from (dot_of font) k pen g row start ≡ 0
  unfolding mask_from
  unmarked row start apart = word-of-none _ (λ j less. unshared font k pen g row (start + j) (apart j less))

  module _ (some : span.from < span.upto) where
    abbrev r : Reach
    r = reach_over g k left span

    abbrev first : ℕ
    first = span.from / 16

    head-lt : r.head < 65536
    unfolding reach_over
    head-lt = let le = div-le_self 0xFFFF (2 ^ (span.from % 16)) in omega arith

    tail-lt : r.tail < 65536
    unfolding reach_over
    tail-lt = omega arith

    -- where the loops look for a dot is where the picture has it
    same_place : (n w j : ℕ) → span.from ≤ 16 * (first + w) + j → k.y ≤ first_row g k + 2048 + g.ascent
        → 16 * (r.source + n * r.raster + w) + r.shift + j
        ≡ 16 * (g.bitmap + (first_row g k + n + 2048 + g.ascent - k.y) * g.raster) + (g.first + (16 * (first + w) + j - left))
    unfolding reach_over shared
    same_place n w j from begun =
        let q = first_row g k + 2048 + g.ascent - k.y in
        let rows : first_row g k + n + 2048 + g.ascent - k.y ≡ q + n = omega arith in
        let split : (q + n) * g.raster ≡ q * g.raster + n * g.raster = add-mul q n g.raster in
        let bit = bit_under g left first in
        let whole : 16 * (bit / 16) + bit % 16 ≡ bit = omega arith in
        rw (rows, split) (omega (arith, whole))

    module _ (n w : ℕ) (row-there : n < end_row g k - first_row g k) (word-there : w ≤ r.last) where
      abbrev row : ℕ
      row = first_row g k + n

      abbrev start : ℕ
      start = 16 * (first - 256 + w)

      rows-there : (k.y ≤ first_row g k + 2048 + g.ascent) × (k.y ≤ row + 2048 + g.ascent) × (row + 2048 + g.ascent < k.y + g.height)
      rows-there = (omega arith, omega arith, omega arith)

      -- the column's place, counted from the first word that is reached
      counted : (j : ℕ) → start + j + 4096 ≡ 16 * (first + w) + j
      unfolding shared
      counted j = omega arith

      reached-bit : (j : ℕ) → j < 16 → (t u : Bool)
          → ltb (16 * (first + w) + j) span.from ≡ t → ltb (16 * (first + w) + j) span.upto ≡ u
          → bit_of (row_marks font r (r.source + n * r.raster) w) j ≡ mark (dot_of font) k pen g row (start + j)
      unfolding reach_over
      reached-bit j less true u e f =
          let before : 16 * (first + w) + j < span.from = ltb-true _ _ e in
          let place = counted j in
          row-bit-out font r (r.source + n * r.raster) w j word-there (inl (head-out span.from span.upto j less w before))
          ∙ sym (unshared font k pen g row (start + j) (λ from. absurd (omega arith)))
      reached-bit j less false false e f =
          let past : span.upto ≤ 16 * (first + w) + j = ltb-false _ _ f in
          let place = counted j in
          let there : first + w ≡ (span.upto - 1) / 16 = omega arith in
          let last : w ≡ r.last = omega arith in
          row-bit-out font r (r.source + n * r.raster) w j word-there
          (inr (last, tail-out span.from span.upto j less w (omega arith) there past))
          ∙ sym (unshared font k pen g row (start + j) (λ from. omega arith))
      reached-bit j less false true e f =
          let from : span.from ≤ 16 * (first + w) + j = ltb-false _ _ e in
          let upto : 16 * (first + w) + j < span.upto = ltb-true _ _ f in
          let place = counted j in
          let shift : r.shift < 16 = mod-lt (bit_under g left first) (omega arith) in
          row-bit-in font r (r.source + n * r.raster) w j word-there
          (head_in span.from span.upto j less w from)
          (λ last.
          let there : first + w ≡ (span.upto - 1) / 16 = omega arith in
          tail-in span.from span.upto j less w (omega arith) there upto)
          ∙ window-bit font (r.source + n * r.raster + w) r.shift j all shift less
          ∙ ap (file_bit font) (same_place n w j from rows-there.0)
          ∙ sym
          (shared-mark font k pen g row (start + j) (omega arith) (omega arith) rows-there.1 rows-there.2
          ∙ ap (λ (p : ℕ). file_bit font (16 * (g.bitmap + (row + 2048 + g.ascent - k.y) * g.raster) + (g.first + (p - left)))) place)

      -- so a word that the picture reaches gets the marks of its dots
      pub reached : mask_from (dot_of font) k pen g row start ≡ row_marks font r (r.source + n * r.raster) w
      unfolding mask_from
      reached =
          let bits : (j : ℕ) → mark (dot_of font) k pen g row (start + j) < 2 =
          λ j. mark-bit (dot_of font) k pen g row (start + j) (dot-bit font g)
          in
          ext-bits _ _ (word-of-lt _ bits) (row-marks-lt font r (r.source + n * r.raster) w 0 word-there head-lt tail-lt)
          (λ j less.
          bit-word-of _ bits j less
          ∙ sym (reached-bit j less (ltb (16 * (first + w) + j) span.from) (ltb (16 * (first + w) + j) span.upto) refl refl))

-- ---- the rows of the panel. What is drawn goes by a mode, and what stands in the definition is carried to it: a panel and a flip by the
-- label's own mode, a keep by Erase

module _ {f : Effect → Effect} (way : Carried f) (font : List ℕ) (k : Stroke) (pen : Pen) (g : Glyph) (mode : Mode)
    (same : (m : ℕ) → f (effect_of k.mode m) ≡ effect_of mode m)
    (all : AllWords font) (behind : 1 ≤ g.bitmap) where
  abbrev marks : ℕ → Effect
  marks i = f (picture_effect (dot_of font) k pen g i)

  -- a word of a row without a mark is left alone
  idle : (row w : ℕ) → w < k.rowwords → mask_from (dot_of font) k pen g row (16 * w) ≡ 0 → marks (row * k.rowwords + w) ≡ identity
  idle row w fits none = ap f (picture-at (dot_of font) k pen g row w fits ∙ no-marks k.mode _ none) ∙ way.still

  module _ (fits : k.strip.upto ≤ 16 * k.rowwords) (some : (shared g k (left_at g k pen)).from < (shared g k (left_at g k pen)).upto) where
    abbrev columns-here : Strip
    columns-here = shared g k (left_at g k pen)

    abbrev reach : Reach
    reach = reach_over g k (left_at g k pen) columns-here

    -- the first word that it reaches of a row, and how many there are
    abbrev begin : ℕ
    begin = columns-here.from / 16 - 256

    narrow : begin + reach.last < k.rowwords
    unfolding shared reach_over
    narrow = omega arith

    -- left of the first word that is reached, and right of the last, nothing is shared
    before-it : (row w : ℕ) → w < begin → mask_from (dot_of font) k pen g row (16 * w) ≡ 0
    unfolding shared
    before-it row w less = unmarked font k pen g all behind row (16 * w) (λ j small from. absurd (omega arith))

    behind-it : (row w : ℕ) → begin + reach.last < w → mask_from (dot_of font) k pen g row (16 * w) ≡ 0
    unfolding shared reach_over
    behind-it row w past = unmarked font k pen g all behind row (16 * w) (λ j small from. omega arith)

    of_words : (i : ℕ) → OfWords (marks i)
    of_words i = effect_words way (dot_of font) k pen g (dot-bit font g) (dot-past font g) [] (λ j. omega arith) i

    module _ (n : ℕ) (there : n < end_row g k - first_row g k) where
      abbrev line : ℕ
      line = first_row g k + n

      abbrev source : ℕ
      source = reach.source + n * reach.raster

      -- where it begins in the panel
      lies : reach.at + n * reach.rowwords ≡ line * k.rowwords + begin
      unfolding reach_over shared
      lies =
          let split : line * k.rowwords ≡ first_row g k * k.rowwords + n * k.rowwords = add-mul (first_row g k) n k.rowwords in
          omega arith

      hit : (w : ℕ) → w ≤ reach.last → marks (line * k.rowwords + begin + w) ≡ effect_of mode (row_marks font reach source w)
      hit w within =
          let here = narrow in
          ap marks (add_assoc (line * k.rowwords) begin w)
          ∙ ap f (picture-at (dot_of font) k pen g line (begin + w) (omega arith))
          ∙ ap (λ (m : ℕ). f (effect_of k.mode m)) (reached font k pen g all behind some n w there within)
          ∙ same (row_marks font reach source w)

      run : (m : ℕ) (now : List ℕ) → m ≤ suc reach.last
          → row_drawn font reach mode source (line * k.rowwords + begin) m now ≡ altered (line * k.rowwords + begin) m marks now
      unfolding row_drawn altered
      run zero now within = refl
      run (suc m) now within =
          let from = line * k.rowwords + begin in
          let before = run m now (omega arith) in
          let drawn = row_drawn font reach mode source from m now in
          altered-step from m _ marks drawn now before (ap (λ (e : Effect). apply_to e (word drawn (from + m))) (sym (hit m (omega arith))))
          ∙ ap (λ (i : ℕ). altered from i marks now) (add-one m)

      -- a row drawn is a row of the panel under the picture
      row-drawn : (now : List ℕ) → AllWords now
          → row_drawn font reach mode source (reach.at + n * reach.rowwords) (suc reach.last) now ≡ in_row marks k line now
      row-drawn now words =
          let here = narrow in
          let last = reach.last in
          let rest = k.rowwords - (begin + suc last) in
          let at : reach.at + n * reach.rowwords ≡ line * k.rowwords + begin = lies in
          let whole : begin + (suc last + rest) ≡ k.rowwords = omega arith in
          let start = line * k.rowwords in
          let left = altered-idle start begin marks now words (λ w less. idle line w (omega arith) (before-it line w less)) in
          let middle = altered (start + begin) (suc last) marks now in
          let right =
          altered-idle (start + begin + suc last) rest marks middle (altered-words (start + begin) (suc last) marks now of_words words)
          (λ w less.
          let beyond = begin + suc last + w in
          let there-is : start + begin + suc last + w ≡ start + beyond = omega arith in
          ap marks there-is ∙ idle line beyond (omega arith) (behind-it line beyond (omega arith))) in
          ap (λ (i : ℕ). row_drawn font reach mode source i (suc last) now) at
          ∙ run (suc last) now (omega arith)
          ∙ sym
          (ap (λ (m : ℕ). altered start m marks now) (sym whole)
          ∙ altered-on start begin (suc last + rest) marks now
          ∙ ap (altered (start + begin) (suc last + rest) marks) left
          ∙ altered-on (start + begin) (suc last) rest marks now
          ∙ right)

    module _ (lent : List ℕ) (words : AllWords lent) (wide : 1 ≤ k.rowwords) where
      -- so many rows drawn are so many rows more of the panel
      rows-drawn : (n : ℕ) → n ≤ end_row g k - first_row g k
          → rows_drawn font reach mode n lent ≡ altered 0 ((first_row g k + n) * k.rowwords) marks lent
      unfolding rows_drawn
      rows-drawn zero within =
          picture-begins way font k pen g lent words (first_row g k) wide (omega arith)
          ∙ ap (λ (row : ℕ). altered 0 (row * k.rowwords) marks lent) (sym (add-zero (first_row g k)))
      rows-drawn (suc n) within =
          let before = rows-drawn n (omega arith) in
          let row = first_row g k + n in
          let next : row + 1 ≡ first_row g k + suc n = omega arith in
          let above = altered 0 (row * k.rowwords) marks lent in
          ap (row_drawn font reach mode (reach.source + n * reach.raster) (reach.at + n * reach.rowwords) (suc reach.last)) before
          ∙ row-drawn n (omega arith) above (altered-words 0 (row * k.rowwords) marks lent of_words words)
          ∙ panel-row-more k marks row above lent refl
          ∙ ap (λ (m : ℕ). altered 0 (m * k.rowwords) marks lent) next

      all-drawn : rows_drawn font reach mode reach.rows lent ≡ on_panel marks k lent
      unfolding reach_over
      all-drawn =
          let rows = end_row g k - first_row g k in
          let there : first_row g k + rows ≡ end_row g k = omega arith in
          picture-ends way font k pen g lent words (first_row g k + rows) (end_row g k) _ wide there refl (rows-drawn rows (omega arith))

  abbrev shares : Strip
  shares = shared g k (left_at g k pen)

  -- nothing is shared: nothing is marked
  none-drawn : (lent : List ℕ) → AllWords lent → shares.upto ≤ shares.from
      → lent ≡ on_panel marks k lent
  unfolding picture_effect mask_at
  none-drawn lent words none =
      sym
      (altered-idle 0 (stroke_words k) marks lent words
      (λ i less.
      ap f (no-marks k.mode _ (unmarked font k pen g all behind _ _ (λ j small from. omega arith))) ∙ way.still))

  pub picture-drawn : (lent : List ℕ) → AllWords lent → Drawable k (length lent)
      → rows_drawn font (reach_of g k pen) mode (reach_of g k pen).rows lent ≡ on_panel marks k lent
  picture-drawn lent words drawable = by-columns (ltb shares.from shares.upto) refl
    where
      by-columns : (t : Bool) → ltb shares.from shares.upto ≡ t
          → rows_drawn font (reach_of g k pen) mode (reach_of g k pen).rows lent ≡ on_panel marks k lent
      by-columns true e =
          let some : shares.from < shares.upto = ltb-true _ _ e in
          ap (λ (r : Reach). rows_drawn font r mode r.rows lent) (sym (reaches_some g k pen shares refl some))
          ∙ all-drawn drawable.4 some lent words drawable.0
      by-columns false e =
          let none : shares.upto ≤ shares.from = ltb-false _ _ e in
          ap (λ (r : Reach). rows_drawn font r mode r.rows lent) (sym (reaches-none g k pen shares refl none))
          ∙ sym (nothing-drawn font nothing mode lent)
          ∙ none-drawn lent words none

-- ---- so a panel and the flip of a sheet, and its keep

module _ (font : List ℕ) (k : Stroke) (pen : Pen) (g : Glyph) (all : AllWords font) (behind : 1 ≤ g.bitmap)
    (lent : List ℕ) (words : AllWords lent) (drawable : Drawable k (length lent)) where
  abbrev effects : ℕ → Effect
  effects = picture_effect (dot_of font) k pen g

  pub flip-drawn : rows_drawn font (reach_of g k pen) k.mode (reach_of g k pen).rows lent ≡ on_panel effects k lent
  flip-drawn = picture-drawn whole font k pen g k.mode (λ m. refl) all behind lent words drawable

  pub keep-drawn : rows_kept font (reach_of g k pen) k.mode lent ≡ on_panel (cleared effects) k lent
  unfolding rows_kept picture_effect
  keep-drawn = by_mode k.mode refl
    where
      erased : ((m : ℕ) → clearing (effect_of k.mode m) ≡ effect_of Erase m)
          → rows_drawn font (reach_of g k pen) Erase (reach_of g k pen).rows lent ≡ on_panel (cleared effects) k lent
      erased same = picture-drawn clears font k pen g Erase same all behind lent words drawable

      by_mode : (mode : Mode) → k.mode ≡ mode → rows_kept font (reach_of g k pen) mode lent ≡ on_panel (cleared effects) k lent
      by_mode Paint is = erased (λ m. ap (λ (mode : Mode). clearing (effect_of mode m)) is)
      by_mode Erase is = erased (λ m. ap (λ (mode : Mode). clearing (effect_of mode m)) is)
      by_mode Invert is =
          sym (altered-idle 0 (stroke_words k) (cleared effects) lent words (λ i less. untouched (0 + i)))
        where
          untouched : (i : ℕ) → cleared effects i ≡ identity
          untouched i = ap (λ (mode : Mode). clearing (effect_of mode (mask_at (dot_of font) k pen g i))) is
