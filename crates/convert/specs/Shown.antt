-- Demand 2 for written files, dot by dot: what a CU file draws for a code and what a font shows for it, both at x and y measured from the
-- origin, in whole numbers with a sign as the paper has them.
use Rattle.std.specs.Prelude.{ℕ, cond, ◌&&◌, List, ltb, ℤ, pos, ◌+ℤ◌, ◌-ℤ◌}
use Rattle.words.specs.Place.{number_at, dot_at}
use Rattle.fonts.specs.Face.{Face}
use Rattle.convert.specs.Cu.{rows, width, code_place, raster_dot, lowest_of, first_in_row}

-- the origin's row and column: "in code 65, take the lowest row with a dot and the leftmost dot in that row, at row a and column b"
abbrev pub origin_row : List ℕ → ℕ
origin_row ws = lowest_of ws (code_place ws 65)

abbrev pub origin_column : List ℕ → ℕ
origin_column ws = first_in_row ws (code_place ws 65) (origin_row ws)

-- a dot of a code's raster; none lies outside the raster
unfoldable pub raster_within : List ℕ → ℕ → ℕ → ℕ → ℕ
raster_within ws c i j = cond (ltb i (rows ws) && ltb j (width ws)) (raster_dot ws (code_place ws c) i j) 0

-- "In every character the dot at row i, column j is x = j - b, y = a - i": so i is a - y, and j is x + b
unfoldable pub drawn_dot : List ℕ → ℕ → ℤ → ℤ → ℕ
drawn_dot ws c x y = dot_at (raster_within ws c) (pos (origin_row ws) -ℤ y) (x +ℤ pos (origin_column ws))

-- the dot that a font shows for a code at x and y from the pen: its left column lies at the glyph's place, and the row of y = 0 is the last
-- above the baseline, which is row ascent - 1
unfoldable pub shown_dot : Face → ℕ → ℤ → ℤ → ℕ
shown_dot face c x y =
    let g = face.glyph c in
    dot_at (face.dot g) (pos g.ascent -ℤ pos 1 -ℤ y) (x -ℤ number_at g.place)
