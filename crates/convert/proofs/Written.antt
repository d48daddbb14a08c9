-- The file written is a font: the reader accepts it, and it shows the drawing.
use Prim.Native.Nat.{ℕ, suc, ◌+◌, ◌-◌, ◌*◌, ◌/◌, ◌%◌, ◌<◌, ◌≤◌}
use mathlib.Core.Path.{◌≡◌, refl, ap, ap₂, ◌∙◌}
use mathlib.Core.Bool.{Bool, true, false, cond, ◌&&◌, ◌||◌}
use native.Mathlib.Nat.{add_assoc}
use native.Mathlib.Omega.{arith}
use lib.Dec.{ltb, leb, eqb}
use lib.ListN.{length}
use borrow.Author.Tests.{le-ltb, le-leb, eq-eqb, ne_eqb, ltb-true, ltb-false, leb-true}
use Rattle.words.specs.Word.{word, bit_of}
use Rattle.words.specs.Refusal.{first_of, or_else, not_within}
use Rattle.words.specs.Place.{place_of_word}
use Rattle.words.proofs.Bits.{bit-word-of}
use Rattle.words.proofs.Tables.{table-length}
use Rattle.words.proofs.Rows.{row_of, word-of-row, row_room}
use Rattle.fonts.specs.declared.Entry.{Entry}
use Rattle.fonts.specs.declared.Glyph.{Glyph}
use Rattle.fonts.specs.Strike.{start_from, first_at, behind, strike_in}
use Rattle.fonts.specs.Entry.{name_in, entry_at, marked, struck, columns_of, left_of, advance_of}
use Rattle.fonts.specs.Reading.{too_short, bad_format, kerned_too_short, bad_codes, bad_count, bad_box, front_number}
use Rattle.fonts.specs.Reading.{bad_sizes, wrong_length, wrong_end, head_number, falls_from, bad_pointers, body_number, bodies_number}
use Rattle.fonts.specs.Reading.{nameless, no_dummy, table_number, number_by, font_number, accepted}
use Rattle.fonts.specs.Face.{in_range, picture_of, glyph_from, dot_of, face_from, face_of}
use Rattle.fonts.specs.Kinds.{only_bitmap, there as isThere, glyph_over}
use Rattle.fonts.proofs.Found.{first-in}
use Rattle.fonts.proofs.Struck.{struck-glyph}
use Rattle.fonts.proofs.Falling.{rising}
use Rattle.convert.specs.Writing.{Drawing, min_code, max_code, code_count, fbbdy, raster_of, pointer_at, all_columns, max_width}
use Rattle.convert.specs.Writing.{length_word, strike_dot, bitmap_word, pointer_word, file_of, file_words}
use Rattle.convert.proofs.File.{pointers_written, widths_written, file-length, file-bitmap}
use Rattle.convert.proofs.Parts.{of_format, format-kerned, format-single, header_written, body_written, view_written}
use Rattle.convert.proofs.Parts.{header_read, body-start, body-read, view-read, first-strike, pointers-read, widths-read}
use Rattle.convert.proofs.Parts.{pointer-at, pointer-end, entry-at, entry-dummy}
use Rattle.convert.proofs.Columns.{pointer-next, pointer-rises, raster-holds, strike-picture, strike-dummy, strike-bit}
use Rattle.convert.proofs.Sound.{Sound, from-min, upto-max, in-tables, counted, own-columns, max-small, min-max, raster-some, raster-narrow}
use Rattle.convert.proofs.Sound.{spacing-small, entry-small, max-width-small}

is_within : (least most n : ℕ) → least ≤ n → n ≤ most → not_within least most n ≡ false
unfolding not_within
is_within least most n h k = rw (le-ltb n least h, le-ltb most n k)

-- no pointer falls
pointers-rise : (d : Drawing) (k : ℕ) → pointer_word d k ≤ pointer_word d (suc k)
unfolding pointer_word all_columns
pointers-rise d k = past-or-not (ltb (code_count d) k) refl (ltb (code_count d) (suc k)) refl
  where
    past-or-not : (s : Bool) → ltb (code_count d) k ≡ s → (t : Bool) → ltb (code_count d) (suc k) ≡ t
        → cond s (all_columns d) (pointer_at d k) ≤ cond t (all_columns d) (pointer_at d (suc k))
    past-or-not true p true q = omega arith
    past-or-not true p false q = absurd (omega (arith, ltb-true (code_count d) k p, ltb-false (code_count d) (suc k) q))
    past-or-not false p true q = omega (arith, pointer-rises d k (code_count d) (ltb-false (code_count d) k p))
    past-or-not false p false q = pointer-rises d k (suc k) (omega arith)

-- what the two tables say at a place
abbrev entry_written : Drawing → ℕ → Entry
entry_written d k = entry_at (pointers_written d) (widths_written d) k

module _ (d : Drawing) (s : Sound d) where
  -- ---- the tests of the reader, in the order of the table

  not_short : too_short (file_words d) ≡ false
  unfolding too_short file_words
  not_short = le-ltb (file_words d) 9 (omega arith)

  good-format : bad_format (header_written d) ≡ false
  unfolding bad_format bit_of
  good-format = of_format d (λ f. (eqb (bit_of f 0) 0 || ltb 0 (f % 4096)) ≡ false) refl refl

  -- thirteen words stand before the bitmap: the header's, the box and the five of the body
  head-there : ltb (file_words d) 13 ≡ false
  unfolding file_words
  head-there = le-ltb (file_words d) 13 (omega arith)

  long-enough : kerned_too_short (header_written d) (file_words d) ≡ false
  unfolding kerned_too_short
  long-enough = rw (format-kerned d, head-there)

  good-codes : bad_codes (header_written d) ≡ false
  unfolding bad_codes
  good-codes = rw (le-ltb (max_code d) (min_code d) (min-max d s), le-ltb 255 (max_code d) (let small = max-small d s in omega arith))

  one-body : bad_count (header_written d) ≡ false
  unfolding bad_count not_within
  one-body = refl

  front-there : ltb (file_words d) (first_at (header_written d)) ≡ false
  unfolding file_words
  front-there = rw (body-start d, le-ltb (file_words d) 8 (omega arith))

  good-box : bad_box (header_written d) ≡ false
  unfolding bad_box
  good-box = rw (format-kerned d, is_within 1793 2303 (place_of_word d.fbbox) s.box-from s.box-upto)

  front-accepted : front_number (header_written d) (file_words d) ≡ 0
  unfolding front_number first_of
  front-accepted = rw (not_short, good-format, long-enough, good-codes, one-body, front-there, good-box)

  -- of its one body, which is the last: it begins with word 8

  good-sizes : bad_sizes (body_written d) ≡ false
  unfolding bad_sizes fbbdy
  good-sizes =
      rw (is_within 1 256 (fbbdy d) s.high s.low, is_within 1 4096 (raster_of d) (raster-some d s) (raster-narrow d s))

  good_length : wrong_length (header_written d) (body_written d) ≡ false
  unfolding wrong_length length_word code_count fbbdy
  good_length = rw (format-single d, eq-eqb (length_word d) (raster_of d * fbbdy d + 7 + code_count d) (omega arith))

  nothing-behind : wrong_end (header_written d) (8 + length_word d) true (file_words d) ≡ false
  unfolding wrong_end behind length_word file_words code_count
  nothing-behind = rw (format-kerned d, eq-eqb (file_words d) (8 + length_word d + (code_count d + 1)) (omega arith))

  head-accepted : head_number (header_written d) (body_written d) 8 true (file_words d) ≡ 0
  unfolding head_number first_of
  head-accepted = rw (head-there, good-sizes, good_length, nothing-behind)

  none-falls : falls_from 0 (pointers_written d) ≡ false
  none-falls = rising (code_count d + 2) 0 (pointer_word d) (omega arith) (pointers-rise d)

  last-pointer : length (pointers_written d) - 1 ≡ code_count d + 1
  last-pointer = let long = table-length (code_count d + 2) (pointer_word d) in omega arith

  good-pointers : bad_pointers (body_written d) (pointers_written d) ≡ false
  unfolding bad_pointers
  good-pointers = rw (none-falls, last-pointer, pointer-end d, le-ltb (16 * raster_of d) (all_columns d) (raster-holds d))

  body-accepted : body_number (header_written d) (file_of d) 8 true ≡ 0
  unfolding body_number first_of or_else
  body-accepted = rw (body-read d, file-length d, head-accepted, pointers-read d, good-pointers)

  bodies-accepted : bodies_number (header_written d) (file_of d) 1 ≡ 0
  unfolding bodies_number start_from or_else
  bodies-accepted = rw (body-start d) body-accepted

  -- and of the tables: without a map no code is lost

  no-map : nameless (header_written d) (file_of d) ≡ false
  unfolding nameless
  no-map = rw (format-single d)

  has-dummy : no_dummy (header_written d) (file_of d) ≡ false
  unfolding no_dummy marked name_in code_count
  has-dummy =
      let narrow = max-width-small d s in
      rw (format-single d, format-kerned d, widths-read d, entry-dummy d, ne_eqb (max_width d) 0xFFFF (λ e. omega arith))

  tables-accepted : table_number (header_written d) (file_of d) ≡ 0
  unfolding table_number first_of
  tables-accepted = rw (no-map, has-dummy)

  pub written-accepted : font_number (file_of d) ≡ 0
  unfolding font_number number_by or_else
  written-accepted = rw (header_read d, file-length d, front-accepted, bodies-accepted, tables-accepted)

  pub written-font : accepted (file_of d) ≡ true
  unfolding accepted
  written-font = rw written-accepted

-- ---- what it shows for a code

-- the picture, the place and the spacing that the drawing has for a code
abbrev pub own_glyph : Drawing → ℕ → Glyph
own_glyph d c = record {
  bitmap = 13;
  raster = raster_of d;
  first = pointer_at d (c - min_code d);
  columns = d.columns c;
  ascent = d.ascent;
  height = fbbdy d;
  place = place_of_word d.fbbox + d.offset c;
  advance = d.spacing c;
  substitute = false;
}

-- "The dummy is FBBdx columns, .. offset 0, spacing maxwidth"
abbrev pub dummy_glyph : Drawing → Glyph
dummy_glyph d = record {
  bitmap = 13;
  raster = raster_of d;
  first = pointer_at d (code_count d);
  columns = d.fbbdx;
  ascent = d.ascent;
  height = fbbdy d;
  place = place_of_word d.fbbox;
  advance = max_width d;
  substitute = true;
}

-- the file has no index, so what it shows is what its two tables say
glyph-read : (d : Drawing) (c : ℕ)
    → (face_of (file_of d)).glyph c ≡ glyph_over (view_written d) (entry_written d (c - min_code d)) (entry_written d (code_count d)) c
unfolding face_of face_from glyph_from code_count
glyph-read d c =
    rw (view-read d)
    (struck-glyph (view_written d) (strike_in (view_written d) (file_of d)) (file_of d) (format-single d)
    (first-in (view_written d) (file_of d)) c
    ∙ rw (first-strike d, pointers-read d, widths-read d))

-- what the two bytes of a width entry read as
bytes : (entry high low : ℕ) → entry ≡ high * 256 + low → low ≤ 255 → (entry / 256 ≡ high) × (entry % 256 ≡ low)
bytes entry high low e h = (omega arith, omega arith)

module _ (d : Drawing) (s : Sound d) (c : ℕ) (h : c < 256) (there : d.present c ≡ true) where
  abbrev k : ℕ
  k = c - min_code d

  own-entry : word (widths_written d) k ≡ d.offset c * 256 + d.spacing c
  own-entry = entry-at d k (in-tables d c there h) ∙ rw (counted d c there, there)

  own-bytes : (word (widths_written d) k / 256 ≡ d.offset c) × (word (widths_written d) k % 256 ≡ d.spacing c)
  own-bytes = bytes (word (widths_written d) k) (d.offset c) (d.spacing c) own-entry (spacing-small d s c h there)

  columns-shown : columns_of (entry_written d k) ≡ d.columns c
  unfolding columns_of
  columns-shown =
      let less = in-tables d c there h in
      let next = pointer-next d k in
      let own = own-columns d c there in
      rw (pointer-at d (k + 1) (omega arith), pointer-at d k (omega arith)) (omega arith)

  own-exists : isThere (header_written d) (entry_written d k) c ≡ true
  unfolding isThere in_range struck
  own-exists =
      let small = entry-small d s c h there in
      rw (
        le-leb (min_code d) c (from-min d c there),
        le-leb c (max_code d) (upto-max d c there h),
        format-kerned d,
        own-entry,
        ne_eqb (d.offset c * 256 + d.spacing c) 0xFFFF (λ e. omega arith),
      )

  pub written-glyph : (face_of (file_of d)).glyph c ≡ own_glyph d c
  unfolding glyph_over picture_of only_bitmap left_of advance_of fbbdy
  written-glyph =
      let less = in-tables d c there h in
      rw (glyph-read d c, own-exists, format-kerned d)
      (λ i. record {
        bitmap = 13;
        raster = raster_of d;
        first = pointer-at d k (omega arith) i;
        columns = columns-shown i;
        ascent = d.ascent;
        height = fbbdy d;
        place = place_of_word d.fbbox + own-bytes.0 i;
        advance = own-bytes.1 i;
        substitute = false;
      })

module _ (d : Drawing) (s : Sound d) where
  dummy-columns : columns_of (entry_written d (code_count d)) ≡ d.fbbdx
  unfolding columns_of all_columns
  dummy-columns = rw (pointer-end d, pointer-at d (code_count d) (omega arith)) (omega arith)

  dummy-bytes : (word (widths_written d) (code_count d) / 256 ≡ 0) × (word (widths_written d) (code_count d) % 256 ≡ max_width d)
  dummy-bytes = bytes (word (widths_written d) (code_count d)) 0 (max_width d) (entry-dummy d ∙ omega arith) (max-width-small d s)

  dummy-place : place_of_word d.fbbox + word (widths_written d) (code_count d) / 256 ≡ place_of_word d.fbbox
  dummy-place = let offset = dummy-bytes.0 in omega arith

  -- every other code: one that is past 255, or is not there
  module _ (c : ℕ) (none : c < 256 → d.present c ≡ false) where
    -- it lies outside min to max, or its entry says that it is absent
    absent-entry : min_code d ≤ c → c ≤ max_code d → struck (header_written d) (entry_written d (c - min_code d)) ≡ false
    unfolding struck code_count
    absent-entry from upto =
        let small = max-small d s in
        let code : min_code d + (c - min_code d) ≡ c = omega arith in
        rw (format-kerned d, entry-at d (c - min_code d) (omega arith), code, none (omega arith))

    not_there : isThere (header_written d) (entry_written d (c - min_code d)) c ≡ false
    unfolding isThere in_range
    not_there = within_or_not (leb (min_code d) c) refl (leb c (max_code d)) refl
      where
        within_or_not : (p : Bool) → leb (min_code d) c ≡ p → (q : Bool) → leb c (max_code d) ≡ q
            → (p && q && struck (header_written d) (entry_written d (c - min_code d))) ≡ false
        within_or_not false from q upto = refl
        within_or_not true from false upto = refl
        within_or_not true from true upto = absent-entry (leb-true (min_code d) c from) (leb-true c (max_code d) upto)

    pub written-dummy : (face_of (file_of d)).glyph c ≡ dummy_glyph d
    unfolding glyph_over picture_of only_bitmap left_of advance_of fbbdy code_count
    written-dummy =
        rw (glyph-read d c, not_there, format-kerned d)
        (λ i. record {
          bitmap = 13;
          raster = raster_of d;
          first = pointer-at d (code_count d) (omega arith) i;
          columns = dummy-columns i;
          ascent = d.ascent;
          height = fbbdy d;
          place = dummy-place i;
          advance = dummy-bytes.1 i;
          substitute = true;
        })

-- ---- the dots of a picture

-- a dot within the picture; none lies past it
within_both : (s t : Bool) (x y : ℕ) → (s ≡ true → t ≡ true → x ≡ y) → cond (s && t) x 0 ≡ cond (s && t) y 0
within_both true true x y h = h refl refl
within_both true false x y h = refl
within_both false t x y h = refl

module _ (d : Drawing) (s : Sound d) (row : ℕ) where
  -- the bit that the reader looks at for a dot of the strike
  abbrev bit_read : ℕ → ℕ
  bit_read column = bit_of (word (file_of d) (13 + row * raster_of d + column / 16)) (column % 16)

  strike-read : (column : ℕ) → row < fbbdy d → column < 16 * raster_of d → bit_read column ≡ strike_dot d row column
  unfolding bitmap_word
  strike-read column down across =
      let w = column / 16 in
      let i = row * raster_of d + w in
      let inside : w < raster_of d = omega arith in
      let room = row_room row (fbbdy d) (raster_of d) (raster_of d * fbbdy d) down (omega arith) in
      let whole : 16 * w + column % 16 ≡ column = omega arith in
      ap (λ (n : ℕ). bit_of (word (file_of d) n) (column % 16)) (add_assoc 13 (row * raster_of d) w)
      ∙ ap (λ (n : ℕ). bit_of n (column % 16)) (file-bitmap d i (omega arith))
      ∙ bit-word-of (λ j. strike_dot d (i / raster_of d) (16 * (i % raster_of d) + j)) (λ j. strike-bit d s.bits _ _) (column % 16)
      (omega arith)
      ∙ ap₂ (λ (r n : ℕ). strike_dot d r (16 * n + column % 16)) (row_of row (raster_of d) w inside)
      (word-of-row row (raster_of d) w inside)
      ∙ ap (strike_dot d row) whole

  pub written-dot : (c column : ℕ) → c < 256 → d.present c ≡ true
      → (face_of (file_of d)).dot ((face_of (file_of d)).glyph c) row column
      ≡ cond (ltb row (fbbdy d) && ltb column (d.columns c)) (d.dot c row column) 0
  unfolding face_of face_from dot_of all_columns
  written-dot c column h there =
      rw (written-glyph d s c h there)
      (within_both (ltb row (fbbdy d)) (ltb column (d.columns c)) _ _
      (λ p q. own-dot (ltb-true row (fbbdy d) p) (ltb-true column (d.columns c) q)))
    where
      own-dot : row < fbbdy d → column < d.columns c → bit_read (pointer_at d (c - min_code d) + column) ≡ d.dot c row column
      own-dot down across =
          let k = c - min_code d in
          let less = in-tables d c there h in
          let next = pointer-next d k in
          let upto = pointer-rises d (k + 1) (code_count d) (omega arith) in
          let all = raster-holds d in
          let own = own-columns d c there in
          strike-read (pointer_at d k + column) down (omega arith)
          ∙ strike-picture d row k column less (omega arith)
          ∙ ap (λ (n : ℕ). d.dot n row column) (counted d c there)

  pub written-dummy-dot : (c column : ℕ) → (c < 256 → d.present c ≡ false)
      → (face_of (file_of d)).dot ((face_of (file_of d)).glyph c) row column ≡ cond (ltb row (fbbdy d) && ltb column d.fbbdx) 1 0
  unfolding face_of face_from dot_of all_columns
  written-dummy-dot c column none =
      rw (written-dummy d s c none)
      (within_both (ltb row (fbbdy d)) (ltb column d.fbbdx) _ _
      (λ p q. dummy-dot (ltb-true row (fbbdy d) p) (ltb-true column d.fbbdx q)))
    where
      dummy-dot : row < fbbdy d → column < d.fbbdx → bit_read (pointer_at d (code_count d) + column) ≡ 1
      dummy-dot down across =
          let all = raster-holds d in
          strike-read (pointer_at d (code_count d) + column) down (omega arith)
          ∙ strike-dummy d row (pointer_at d (code_count d) + column) (omega arith) (omega arith)
