-- The drawing of an accepted CU file: what it has for each code, where its boxes lie from the origin, and that it is one that can be
-- written.
use Prim.Native.Nat.{ℕ, ◌+◌, ◌-◌, ◌<◌, ◌≤◌}
use mathlib.Core.Path.{◌≡◌, refl, ◌∙◌}
use mathlib.Core.Bool.{true, false}
use mathlib.Core.List.{List}
use native.Mathlib.Omega.{arith}
use borrow.Author.Tests.{lt-ltb}
use Rattle.words.specs.Word.{word}
use Rattle.words.specs.Place.{place_of_word}
use Rattle.words.proofs.Tables.{table_at}
use Rattle.words.proofs.Search.{some-here, last-le}
use Rattle.convert.specs.Writing.{fbbdy}
use Rattle.convert.specs.Cu.{rows, width, code_place, places_of, raster_dot, has_dot, left_of, right_of}
use Rattle.convert.specs.Cu.{columns_across, row_used, leftmost, top, bottom, frame_of, frame_from, left_from, drawing_of, drawing_from}
use Rattle.convert.specs.Conversion.{cu_number}
use Rattle.convert.specs.Shown.{origin_row, origin_column}
use Rattle.convert.proofs.Sound.{Sound}
use Rattle.convert.proofs.Accepting.{GoodFile, accepted-file, accepted-drawing, rows_upto}
use Rattle.convert.proofs.Codes.{character-there}
use Rattle.convert.proofs.Boxes.{Dot, raster-bit, origin-dot, left-upto, leftmost-upto, top-upto, bottom-from}

module _ (ws : List ℕ) where
  -- ---- each code, by its place in the file

  module _ (c : ℕ) (h : c < 256) where
    place-in-table : word (places_of ws) c ≡ code_place ws c
    unfolding places_of
    place-in-table = table_at 256 (code_place ws) c h

    pub drawn-present : 0 < code_place ws c → (drawing_of ws).present c ≡ true
    unfolding drawing_of drawing_from
    drawn-present there = rw place-in-table (lt-ltb 0 (code_place ws c) there)

    pub drawn-absent : code_place ws c ≡ 0 → (drawing_of ws).present c ≡ false
    unfolding drawing_of drawing_from
    drawn-absent none = rw (place-in-table, none)

    pub drawn-spacing : (drawing_of ws).spacing c ≡ word ws (code_place ws c + 1)
    unfolding drawing_of drawing_from
    drawn-spacing = rw place-in-table

    drawn-columns : (drawing_of ws).columns c ≡ columns_across ws (code_place ws c)
    unfolding drawing_of drawing_from
    drawn-columns = rw place-in-table

    pub drawn-across : has_dot ws (code_place ws c) ≡ true
        → (drawing_of ws).columns c ≡ right_of ws (code_place ws c) - left_of ws (code_place ws c) + 1
    unfolding columns_across
    drawn-across dotted = drawn-columns ∙ rw dotted

    pub drawn-empty : has_dot ws (code_place ws c) ≡ false → (drawing_of ws).columns c ≡ 0
    unfolding columns_across
    drawn-empty none = drawn-columns ∙ rw none

    pub drawn-dot : (row column : ℕ) → (drawing_of ws).dot c row column
        ≡ raster_dot ws (code_place ws c) (top ws + row) (left_of ws (code_place ws c) + column)
    unfolding drawing_of drawing_from frame_of frame_from
    drawn-dot row column = rw place-in-table

    pub drawn-offset : has_dot ws (code_place ws c) ≡ true → (drawing_of ws).offset c ≡ left_of ws (code_place ws c) - leftmost ws
    unfolding drawing_of drawing_from frame_of frame_from left_from
    drawn-offset dotted = rw (place-in-table, dotted)

  -- ---- the origin, "at row a and column b"

  abbrev pub a : ℕ
  a = origin_row ws

  abbrev pub b : ℕ
  b = origin_column ws

  pub drawn-ascent : (drawing_of ws).ascent ≡ a - top ws + 1
  unfolding drawing_of drawing_from frame_of frame_from
  drawn-ascent = refl

  drawn-descent : (drawing_of ws).descent ≡ bottom ws - a
  unfolding drawing_of drawing_from frame_of frame_from
  drawn-descent = refl

  module _ (g : GoodFile ws) where
    origin : Dot ws (code_place ws 65) a b
    origin = origin-dot ws (code_place ws 65) g.dotted

    pub origin-column : (leftmost ws ≤ b) × (b ≤ 255)
    unfolding width
    origin-column =
        let most = leftmost-upto ws 65 (code_place ws 65) (character-there ws 65 g.origin) g.dotted in
        let own = left-upto ws (code_place ws 65) a b origin in
        let inside = origin.across in
        let few = g.few_words in
        (omega arith, omega arith)

    pub origin-row : (top ws ≤ a) × (a ≤ bottom ws)
    origin-row =
        let here = character-there ws 65 g.origin in
        (top-upto ws 65 (code_place ws 65) here a b origin, bottom-from ws 65 (code_place ws 65) here a b origin)

    -- the rows of the font's box are those from top to bottom, all of the raster
    pub box-rows : top ws + fbbdy (drawing_of ws) ≡ bottom ws + 1
    unfolding fbbdy
    box-rows = let row = origin-row in let up = drawn-ascent in let down = drawn-descent in omega arith

    pub bottom-inside : bottom ws < rows ws
    unfolding bottom
    bottom-inside = let some = g.some-rows in omega (arith, last-le (row_used ws) (rows ws))

    -- the font's box, from the pen
    pub box-place : place_of_word (drawing_of ws).fbbox + b ≡ 2048 + leftmost ws
    unfolding drawing_of drawing_from frame_of frame_from
    box-place = let column = origin-column in omega arith

    -- and a character's own box
    pub own-place : (c : ℕ) → c < 256 → 0 < code_place ws c → has_dot ws (code_place ws c) ≡ true
        → place_of_word (drawing_of ws).fbbox + (drawing_of ws).offset c + b ≡ 2048 + left_of ws (code_place ws c)
    own-place c h there dotted =
        let least = leftmost-upto ws c (code_place ws c) (character-there ws c there) dotted in
        let right = drawn-offset c h dotted in
        omega (arith, box-place)

  some-row : 1 ≤ fbbdy (drawing_of ws)
  unfolding fbbdy
  some-row = let rows = drawn-ascent in omega arith

  some-column : 0 < (drawing_of ws).fbbdx
  unfolding drawing_of drawing_from frame_of frame_from
  some-column = omega arith

  bits : (c r j : ℕ) → (drawing_of ws).dot c r j < 2
  unfolding drawing_of drawing_from
  bits c r j = raster-bit ws _ _ _

  pub sound : (room : ℕ) → cu_number ws room ≡ 0 → Sound (drawing_of ws)
  sound room e =
      let file = accepted-file ws room e in
      let good = accepted-drawing ws room e in
      let column = origin-column file in
      let place = box-place file in
      let few = file.few-rows in
      record {
        some = some-here (drawing_of ws).present 256 65 (omega arith) (drawn-present 65 (omega arith) file.origin);
        spacings = good.spacings;
        offsets = good.offsets;
        fits = good.fits;
        high = some-row;
        low = rows_upto ws 256 (omega arith) (omega arith);
        box-from = omega arith;
        box-upto = omega arith;
        wide = some-column;
        bits = bits;
      }
