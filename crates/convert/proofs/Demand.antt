-- Demand 2 for written files: the font file written from an accepted CU file is accepted, and shows for each code exactly the dots and the
-- spacing of the CU raster, measured from the origin; and for every code that the CU file has not, the dummy.
use Prim.Native.Nat.{ℕ, ◌+◌, ◌-◌, ◌<◌}
use mathlib.Core.Path.{◌≡◌, sym, ap, ◌∙◌}
use mathlib.Core.Bool.{true, false, cond, ◌&&◌}
use mathlib.Core.List.{List}
use native.Mathlib.Omega.{arith}
use lib.Dec.{ltb}
use lib.IntN.{ℤ, pos, ◌+ℤ◌, ◌-ℤ◌}
use borrow.Author.Tests.{lt-ltb}
use Rattle.words.specs.Word.{word}
use Rattle.words.specs.Place.{place_of_word}
use Rattle.words.proofs.Passed.{choice-one}
use Rattle.words.proofs.Whole.{up, down, pos-is, sum_is, less-is, same_number, plain-number, dot-there}
use Rattle.fonts.specs.declared.Glyph.{Glyph}
use Rattle.fonts.specs.Reading.{font_number}
use Rattle.fonts.specs.Face.{Face, face_of}
use Rattle.convert.specs.Writing.{fbbdy, max_width, file_of}
use Rattle.convert.specs.Cu.{chars, char_at, code_place, rows, width, raster_dot, drawing_of}
use Rattle.convert.specs.Conversion.{cu_number}
use Rattle.convert.specs.Shown.{origin_row, origin_column, raster_within, drawn_dot, shown_dot}
use Rattle.convert.proofs.Written.{written-accepted, written-glyph, written-dummy, written-dummy-dot}
use Rattle.convert.proofs.Accepting.{accepted-file}
use Rattle.convert.proofs.Codes.{code_of, code-small, character-place}
use Rattle.convert.proofs.Drawn.{drawn-present, drawn-absent, drawn-spacing, sound}
use Rattle.convert.proofs.Windows.{written-shown, same-dots, raster-drawn, draws, draws-within}

-- "In every character the dot at row i, column j is x = j - b, y = a - i."
pub drawn-there : (ws : List ℕ) (c i j : ℕ) → i < rows ws → j < width ws
    → drawn_dot ws c (pos j -ℤ pos (origin_column ws)) (pos (origin_row ws) -ℤ pos i) ≡ raster_dot ws (code_place ws c) i j
unfolding drawn_dot raster_within
drawn-there ws c i j down across =
    let a = origin_row ws in
    let b = origin_column ws in
    let row_is =
    plain-number (pos a -ℤ (pos a -ℤ pos i)) i
    (omega (arith, less-is (pos a) (pos a -ℤ pos i), less-is (pos a) (pos i), pos-is a, pos-is i)) in
    let column-is =
    plain-number (pos j -ℤ pos b +ℤ pos b) j
    (omega (arith, sum_is (pos j -ℤ pos b) (pos b), less-is (pos j) (pos b), pos-is j, pos-is b)) in
    dot-there _ _ _ i j row_is column-is ∙ rw (lt-ltb i (rows ws) down, lt-ltb j (width ws) across)

-- and no other dot is drawn: a dot at x and y is one of the raster's, at such a row and column
pub record Drawn (ws : List ℕ) (c : ℕ) (x y : ℤ) : Type 0 where
  pub i : ℕ
  pub j : ℕ
  pub down : i < rows ws
  pub across : j < width ws
  pub set : raster_dot ws (code_place ws c) i j ≡ 1
  pub x-is : x ≡ pos j -ℤ pos (origin_column ws)
  pub y-is : y ≡ pos (origin_row ws) -ℤ pos i

pub drawn-only : (ws : List ℕ) (c : ℕ) (x y : ℤ) → drawn_dot ws c x y ≡ 1 → Drawn ws c x y
drawn-only ws c x y e =
    let a = origin_row ws in
    let b = origin_column ws in
    let i = a + down y - up y in
    let j = up x + b - down x in
    let there = choice-one (draws ws c x y) (raster_dot ws (code_place ws c) i j) (sym (raster-drawn ws c x y) ∙ e) in
    let inside = draws-within ws c x y there.0 in
    record {
      i = i;
      j = j;
      down = inside.1.0;
      across = inside.1.1;
      set = there.1;
      x-is = same_number x (pos j -ℤ pos b) (omega (arith, less-is (pos j) (pos b), pos-is j, pos-is b, inside.0.1));
      y-is = same_number y (pos a -ℤ pos i) (omega (arith, less-is (pos a) (pos i), pos-is a, pos-is i, inside.0.0));
    }

module _ (ws : List ℕ) (room : ℕ) (e : cu_number ws room ≡ 0) where
  abbrev font : Face
  font = face_of (file_of (drawing_of ws))

  pub converted-accepted : font_number (file_of (drawing_of ws)) ≡ 0
  converted-accepted = written-accepted (drawing_of ws) (sound ws room e)

  -- the codes of the CU file are those of its characters, each at its own place; `Codes.code-absent` has the others
  pub each-character : (k : ℕ) → k < chars ws → (code_of ws k < 256) × (code_place ws (code_of ws k) ≡ char_at ws k)
  each-character k less =
      let codes = (accepted-file ws room e).codes in
      (code-small ws codes k less, character-place ws codes k less)

  -- a code of the CU file
  module _ (c : ℕ) (h : c < 256) (there : 0 < code_place ws c) where
    pub converted-dots : (x y : ℤ) → shown_dot font c x y ≡ drawn_dot ws c x y
    converted-dots x y =
        written-shown (drawing_of ws) c x y (sound ws room e) h (drawn-present ws c h there)
        ∙ same-dots ws c x y (accepted-file ws room e) h there
        ∙ sym (raster-drawn ws c x y)

    -- "Spacing is the width word."
    pub converted-spacing : (font.glyph c).advance ≡ word ws (code_place ws c + 1)
    converted-spacing =
        ap (λ (g : Glyph). g.advance) (written-glyph (drawing_of ws) (sound ws room e) c h (drawn-present ws c h there))
        ∙ drawn-spacing ws c h

    pub converted-exists : (font.glyph c).substitute ≡ false
    converted-exists = ap (λ (g : Glyph). g.substitute) (written-glyph (drawing_of ws) (sound ws room e) c h (drawn-present ws c h there))

  -- any other: "drawn as the dummy and counted as one substitute"
  module _ (c : ℕ) (none : c < 256 → code_place ws c ≡ 0) where
    absent : c < 256 → (drawing_of ws).present c ≡ false
    absent h = drawn-absent ws c h (none h)

    pub converted-absent : (font.glyph c).substitute ≡ true
    converted-absent = ap (λ (g : Glyph). g.substitute) (written-dummy (drawing_of ws) (sound ws room e) c absent)

    -- "The dummy (house) is FBBdx columns, every dot set, offset 0, spacing maxwidth."
    pub converted-dummy : ((font.glyph c).place ≡ place_of_word (drawing_of ws).fbbox)
        × (((font.glyph c).columns ≡ (drawing_of ws).fbbdx) × ((font.glyph c).advance ≡ max_width (drawing_of ws)))
    converted-dummy =
        let glyph = written-dummy (drawing_of ws) (sound ws room e) c absent in
        (ap (λ (g : Glyph). g.place) glyph, (ap (λ (g : Glyph). g.columns) glyph, ap (λ (g : Glyph). g.advance) glyph))

    pub converted-dummy-dots : (r j : ℕ) → font.dot (font.glyph c) r j
        ≡ cond (ltb r (fbbdy (drawing_of ws)) && ltb j (drawing_of ws).fbbdx) 1 0
    converted-dummy-dots r j = written-dummy-dot (drawing_of ws) (sound ws room e) r c j absent
