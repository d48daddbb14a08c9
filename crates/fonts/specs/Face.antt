-- What a font shows for a code: the paper's "The Strike files", its second half, and P3. Painting knows a font by its face alone.
use Rattle.std.specs.Prelude.{ℕ, ◌+◌, ◌-◌, ◌*◌, ◌/◌, ◌%◌, Bool, cond, not, ◌&&◌, List, [], ltb, leb, take, drop}
use Rattle.words.specs.Word.{word, bit_of, word_of}
use Rattle.fonts.specs.declared.Header.{Header}
use Rattle.fonts.specs.declared.Strike.{Strike}
use Rattle.fonts.specs.declared.View.{View}
use Rattle.fonts.specs.declared.Step.{Step}
use Rattle.fonts.specs.declared.Entry.{Entry}
use Rattle.fonts.specs.declared.Glyph.{Glyph}
use Rattle.fonts.specs.Strike.{view_of, codes, height, strike_in, pointers_of, widths_of}
use Rattle.fonts.specs.Entry.{name_in, entry_with, present, columns_of, left_of, advance_of}
use Rattle.fonts.specs.Reading.{accepted}

-- a code from min to max
unfoldable pub in_range : Header → ℕ → Bool
in_range h c = leb h.min c && leb c h.max

-- what is shown by an entry whose picture is in this strike. "each body has its own ascent, and its rows are placed by that"
unfoldable pub picture_of : Header → Strike → Entry → Bool → Glyph
picture_of h s e substitute =
    record {
      bitmap = s.bitmap;
      raster = s.body.raster;
      first = e.left;
      columns = columns_of e;
      ascent = s.body.ascent;
      height = height s.body;
      place = left_of h e;
      advance = advance_of h e;
      substitute = substitute;
    }

-- by the file, where it is known what each of its bodies is
module _ (h : Header) (strikes : ℕ → Strike) (ws : List ℕ) where
  -- k places past min's: "columns, ascent, rows come from the body; kerned offset and spacing from the code's own width entry"
  unfoldable pub strike_named : ℕ → Strike
  strike_named k = strikes (name_in h ws k).body

  unfoldable pub entry_in : ℕ → Entry
  entry_in k = entry_with (pointers_of (strike_named k) ws) (name_in h ws k).code (word (widths_of h ws) k)

  -- a code from min to max that exists
  unfoldable pub exists : ℕ → Bool
  exists c = in_range h c && present h (name_in h ws (c - h.min)).missing (entry_in (c - h.min))

  -- "A code that doesn't exist, or lies outside min to max, is drawn as the dummy": "Code max + 1 is the dummy", n places past min's
  unfoldable pub place_of_code : ℕ → ℕ
  place_of_code c = cond (exists c) (c - h.min) (codes h)

  -- what is drawn for a code; the dummy is "counted as one substitute"
  unfoldable pub glyph_by : ℕ → Glyph
  glyph_by c = let k = place_of_code c in picture_of h (strike_named k) (entry_in k) (not (exists c))

unfoldable pub glyph_from : View → List ℕ → ℕ → Glyph
glyph_from v ws c = glyph_by v.header (strike_in v ws) ws c

abbrev pub step_of : Glyph → Step
step_of g = record { advance = g.advance; substitute = g.substitute }

-- the dot of a picture in row r, column j, the top row and the left column being 0; no dot lies past the picture.
-- "the bitmap, raster × height words, top row first"
unfoldable pub dot_of : List ℕ → Glyph → ℕ → ℕ → ℕ
dot_of ws g r j =
    cond (ltb r g.height && ltb j g.columns)
    (bit_of (word ws (g.bitmap + r * g.raster + (g.first + j) / 16)) ((g.first + j) % 16))
    0

-- sixteen dots of a row, from column j on
unfoldable pub dots_of : List ℕ → Glyph → ℕ → ℕ → ℕ
dots_of ws g r j = word_of (λ i. dot_of ws g r (j + i))

-- all that painting may use of a font
pub record Face : Type 0 where
  pub glyph : ℕ → Glyph
  pub dot : Glyph → ℕ → ℕ → ℕ

-- by the view of a font that has been read, and of a file
unfoldable pub face_from : View → List ℕ → Face
face_from v ws = record { glyph = glyph_from v ws; dot = dot_of ws }

unfoldable pub face_of : List ℕ → Face
face_of ws = face_from (view_of ws) ws

-- "One row of a strike may be asked for: it is that part of the caller's own file. A refused font or a row at or past height
-- gives the empty part". P3: "A row call names a body; one not there gives the empty part"
unfoldable pub row_of : List ℕ → ℕ → ℕ → List ℕ
row_of ws k r =
    let s = strike_in (view_of ws) ws k in
    let raster = s.body.raster in
    cond (accepted ws && ltb r (height s.body)) (take raster (drop (s.bitmap + r * raster) ws)) []
