-- Fonts that the worked cases do not have: plain ones, some of them without a blob, strikes of more than one word a row, boxes on either
-- side of the pen, and CU files of two words a row. The files and all that comes of them were written from the paper and the memo by hand.
use Rattle.std.specs.Prelude.{ℕ, Bool, true, false, List, [], ◌∷◌, ◌++◌, ℤ, pos, negsuc, replicate, set, length}
use Rattle.words.specs.Word.{words_of, bytes_of, table}
use Rattle.words.specs.Place.{number_at}
use Rattle.fonts.specs.Face.{face_of, dots_of, row_of}
use Rattle.convert.specs.Conversion.{output_after, program_output}
use Rattle.paint.specs.declared.Shape.{Shape}
use Rattle.paint.specs.Label.{Reply, call_of, reply_of, paint_after, measure_of, measure_file}
use Rattle.paint.specs.Sheet.{Sheet}
use Rattle.sheets.specs.Sheet.{gather_after}
use Rattle.claims.specs.Cases.{Outcome, prints, paints, gathers, ends}

-- What a font shows for a code: the picture's columns, where its left column goes from the pen, how far the pen moves, whether the dummy
-- stood in, and its rows, sixteen dots of each, the top row first.
pub record Picture : Type 0 where
  pub columns : ℕ
  pub place : ℤ
  pub advance : ℕ
  pub substitute : Bool
  pub rows : List ℕ

abbrev pub picture : ℕ → ℤ → ℕ → Bool → List ℕ → Picture
picture columns place advance substitute rows =
    record { columns = columns; place = place; advance = advance; substitute = substitute; rows = rows }

-- what is seen of a font: a picture, a row of the strike, a measure, or what comes of a call as in the worked cases
pub data Seen : Type 0 where
  shows : Picture → Seen
  holds : List ℕ → Seen
  replies : Reply → Seen
  comes : Outcome → Seen

-- Strips of 10 columns on rows of 20 words. Strip 1 has the columns 10 to 19: the last six of a row's first word and the first four of its
-- second, with strip 0 and strip 2 beside it. Rows begin with words 0, 20 and 40.
abbrev pub shape : Shape
shape = record { rowwords = 20; rows = 3; width = 10 }

-- a panel of one word everywhere, but for some
abbrev pub panel : List (ℕ × ℕ) → ℕ → List ℕ
panel [] other = replicate 60 other
panel (w ∷ ws) other = set (panel ws other) w.0 w.1

unfoldable pub shown : List ℕ → ℕ → Seen
shown font code =
    let g = (face_of font).glyph code in
    shows (picture g.columns (number_at g.place) g.advance g.substitute (table g.height (λ r. dots_of font g r 0)))

-- a row of a strike without an index, whose only body is 0
unfoldable pub held : List ℕ → ℕ → Seen
held font row = holds (row_of font 0 row)

unfoldable pub measured : List ℕ → ℤ → List ℕ → Seen
measured font x text = replies (measure_of font x text)

-- a label in strip 1 on a lent slice, and on a panel of one word everywhere
unfoldable pub painted_on : List ℕ → List ℕ → ℤ → ℤ → ℕ → List ℕ → Seen
painted_on lent font x y mode text =
    let call = call_of font (record { strip = 1; x = x; y = y; mode = mode }) text in
    comes (paints (reply_of shape (length lent ∷ []) call) (paint_after shape call lent))

unfoldable pub painted : List ℕ → ℤ → ℤ → ℕ → List ℕ → ℕ → Seen
painted font x y mode text everywhere = painted_on (panel [] everywhere) font x y mode text

-- and gathered onto a fresh sheet
unfoldable pub gathered : List ℕ → ℤ → ℤ → ℕ → List ℕ → Seen
gathered font x y mode text =
    let fresh : Sheet = record { keep = panel [] 0xFFFF; flip = panel [] 0 } in
    let sheet = gather_after shape (call_of font (record { strip = 1; x = x; y = y; mode = mode }) text) fresh in
    comes (gathers sheet.keep sheet.flip)

-- what it leaves: the pen and the substitutes, and such a panel
abbrev pub leaves : ℤ → ℕ → List (ℕ × ℕ) → ℕ → Seen
leaves pen substitutes words other = comes (paints (ends pen substitutes) (panel words other))

unfoldable pub printed : List ℕ → Seen
printed cu = comes (prints (program_output (bytes_of cu)))

-- A PlainStrike of the codes 97 to 99, with no picture for 98, three rows high.
--            97    99   the dummy
--   row 0   ##.    .#    #..#
--   row 1   .##    ##    .##.
--   row 2   #.#    #.    ####
unfoldable pub plain_font : List ℕ
plain_font =
    -- format: new style, no index, not fixed, not kerned; min, max, maxwidth
    0x8000 ∷ 0x0061 ∷ 0x0063 ∷ 0x0003
    -- length 1 × 3 + 3 + 7, ascent, descent, xoffset, raster
    ∷ 0x000D ∷ 0x0002 ∷ 0x0001 ∷ 0x0000 ∷ 0x0001
    -- the bitmap: 110 01 1001, 011 11 0110, 101 10 1111, each followed by seven unused bits
    ∷ 0xCC80 ∷ 0x7B00 ∷ 0xB780
    -- the pointers: 97 from column 0, 98 has none, 99 from column 3, the dummy from 5 up to 9
    ∷ 0x0000 ∷ 0x0003 ∷ 0x0003 ∷ 0x0005 ∷ 0x0009 ∷ []

-- P1: the same font without a blob. The dummy's dots still stand in the bitmap, but no pointer is past column 5: nothing shows them.
unfoldable pub bare_font : List ℕ
bare_font =
    0x8000 ∷ 0x0061 ∷ 0x0063 ∷ 0x0003
    ∷ 0x000D ∷ 0x0002 ∷ 0x0001 ∷ 0x0000 ∷ 0x0001
    ∷ 0xCC80 ∷ 0x7B00 ∷ 0xB780
    -- the pointers: 97 from column 0, 98 has none, 99 from column 3 up to 5, the dummy has none
    ∷ 0x0000 ∷ 0x0003 ∷ 0x0003 ∷ 0x0005 ∷ 0x0005 ∷ []

-- A PlainStrike of the code 65 in which no code has a picture, and the dummy has none either.
unfoldable pub empty_font : List ℕ
empty_font =
    0x8000 ∷ 0x0041 ∷ 0x0041 ∷ 0x0000
    -- length 1 × 1 + 1 + 7, ascent, descent, xoffset, raster
    ∷ 0x0009 ∷ 0x0001 ∷ 0x0000 ∷ 0x0000 ∷ 0x0001
    ∷ 0xFFFF
    ∷ 0x0007 ∷ 0x0007 ∷ 0x0007 ∷ []

-- A PlainStrike of the codes 48 and 49, two words a row and two rows high. The picture of 49 is the columns 14 to 18.
--                  48          49     the dummy
--   row 0   #............#    #.##.     ###
--   row 1   .############.    .##.#     #.#
unfoldable pub plain_wide : List ℕ
plain_wide =
    0x8000 ∷ 0x0030 ∷ 0x0031 ∷ 0x000E
    -- length 2 × 2 + 2 + 7, ascent, descent, xoffset, raster
    ∷ 0x000D ∷ 0x0001 ∷ 0x0001 ∷ 0x0000 ∷ 0x0002
    -- 10000000000001 10 and 110 111; 01111111111110 01 and 101 101
    ∷ 0x8006 ∷ 0xDC00
    ∷ 0x7FF9 ∷ 0xB400
    -- the pointers: columns 0, 14, 19, and the dummy's right edge 22
    ∷ 0x0000 ∷ 0x000E ∷ 0x0013 ∷ 0x0016 ∷ []

-- A KernedStrike of the codes 64 to 67, two words a row and three rows high, whose box begins two columns left of the pen. Code 65 is
-- absent and 67 is empty. The picture of 66 is the columns 13 to 18.
--                 64           66      the dummy
--   row 0   #.#.#.#.#.#.#    #..###     ####
--   row 1   .............    .##..#     #..#
--   row 2   #...........#    ##.#..     ####
unfoldable pub kerned_wide : List ℕ
kerned_wide =
    -- format: kerned; min, max, maxwidth; FBBox -2, FBBoy -1, FBBdx, FBBdy
    0x9000 ∷ 0x0040 ∷ 0x0043 ∷ 0x000C ∷ 0xFFFE ∷ 0xFFFF ∷ 0x000D ∷ 0x0003
    -- length 2 × 3 + 4 + 7, ascent, descent, xoffset, raster
    ∷ 0x0011 ∷ 0x0002 ∷ 0x0001 ∷ 0x0000 ∷ 0x0002
    -- 1010101010101 100 and 111 1111; 0000000000000 011 and 001 1001; 1000000000001 110 and 100 1111
    ∷ 0xAAAC ∷ 0xFE00
    ∷ 0x0003 ∷ 0x3200
    ∷ 0x800E ∷ 0x9E00
    -- the pointers of 64 to 67, of the dummy, and its right edge
    ∷ 0x0000 ∷ 0x000D ∷ 0x000D ∷ 0x0013 ∷ 0x0013 ∷ 0x0017
    -- the width entries: offset and spacing of 64, none of 65, those of 66, 67 and the dummy
    ∷ 0x000C ∷ 0xFFFF ∷ 0x0307 ∷ 0x0205 ∷ 0x0105 ∷ []

-- A KernedStrike of the code 64, two rows high, whose box begins one column right of the pen.
--            64   the dummy
--   row 0   #.      ##
--   row 1   .#      #.
unfoldable pub kerned_right : List ℕ
kerned_right =
    0x9000 ∷ 0x0040 ∷ 0x0040 ∷ 0x0003 ∷ 0x0001 ∷ 0x0000 ∷ 0x0002 ∷ 0x0002
    -- length 1 × 2 + 1 + 7, ascent, descent, xoffset, raster
    ∷ 0x000A ∷ 0x0002 ∷ 0x0000 ∷ 0x0000 ∷ 0x0001
    ∷ 0xB000 ∷ 0x6000
    ∷ 0x0000 ∷ 0x0002 ∷ 0x0004
    -- 64 has offset 0 and spacing 3, the dummy offset 1 and spacing 4
    ∷ 0x0003 ∷ 0x0104 ∷ []

-- The same with a dummy of no columns. P1 speaks of plain files: this dummy draws nothing and still moves the pen by its spacing.
unfoldable pub kerned_bare : List ℕ
kerned_bare =
    0x9000 ∷ 0x0040 ∷ 0x0040 ∷ 0x0003 ∷ 0x0001 ∷ 0x0000 ∷ 0x0002 ∷ 0x0002
    ∷ 0x000A ∷ 0x0002 ∷ 0x0000 ∷ 0x0000 ∷ 0x0001
    ∷ 0xB000 ∷ 0x6000
    ∷ 0x0000 ∷ 0x0002 ∷ 0x0002
    ∷ 0x0003 ∷ 0x0104 ∷ []

-- A CU file of three rows and two words a row. The characters come as 68, 65, 66, 64; code 66 is empty. The lowest row of code 65 with a
-- dot is row 1, and its leftmost dot there is in column 15: that is the origin. Its leftmost dot of all is in column 14.
--           68, columns 12 to 20   65, 14 to 17   64, 15 and 16
--   row 0        ........#              #..#            ..
--   row 1        ##.......              .##.            ##
--   row 2        ....#....              ....            #.
unfoldable pub wide_cu : List ℕ
wide_cu =
    0x0003 ∷ 0x0002
    ∷ 0x0044 ∷ 0x0009 ∷ 0x0000 ∷ 0x0800 ∷ 0x000C ∷ 0x0000 ∷ 0x0000 ∷ 0x8000
    ∷ 0x0041 ∷ 0x0005 ∷ 0x0002 ∷ 0x4000 ∷ 0x0001 ∷ 0x8000 ∷ 0x0000 ∷ 0x0000
    ∷ 0x0042 ∷ 0x0003 ∷ 0x0000 ∷ 0x0000 ∷ 0x0000 ∷ 0x0000 ∷ 0x0000 ∷ 0x0000
    ∷ 0x0040 ∷ 0x0004 ∷ 0x0000 ∷ 0x0000 ∷ 0x0001 ∷ 0x8000 ∷ 0x0001 ∷ 0x0000 ∷ []

-- The strike written from it. The dots of all characters are in the columns 12 to 20 and the rows 0 to 2: x from -3 to 5, y from 1 to -1.
unfoldable pub wide_written : List ℕ
wide_written =
    -- not fixed; min, max, maxwidth; FBBox -3, FBBoy -1, FBBdx, FBBdy
    0x9000 ∷ 0x0040 ∷ 0x0044 ∷ 0x0009 ∷ 0xFFFD ∷ 0xFFFF ∷ 0x0009 ∷ 0x0003
    -- length 2 × 3 + 5 + 7; ascent 3 - 1, descent 1
    ∷ 0x0012 ∷ 0x0002 ∷ 0x0001 ∷ 0x0000 ∷ 0x0002
    -- 64, 65, 68 and the dummy, 24 columns: 00 1001 000000001 1 and 11111111; 11 0110 110000000 1; 10 0000 000010000 1
    ∷ 0x2403 ∷ 0xFF00
    ∷ 0xDB01 ∷ 0xFF00
    ∷ 0x8021 ∷ 0xFF00
    -- 64 has two columns, 65 four, 66 and 67 none, 68 nine, and the dummy nine
    ∷ 0x0000 ∷ 0x0002 ∷ 0x0006 ∷ 0x0006 ∷ 0x0006 ∷ 0x000F ∷ 0x0018
    -- the boxes begin at x = 0, -1, for the empty one 0, and -3; 67 is absent; the dummy has offset 0 and maxwidth
    ∷ 0x0304 ∷ 0x0205 ∷ 0x0303 ∷ 0xFFFF ∷ 0x0009 ∷ 0x0009 ∷ []

-- A CU file of four rows, of which the first and the last have no dot in any character, and of one spacing. The origin is row 2, column 1.
--           66, columns 0 to 2   65, the same
--   row 1          #..               ..#
--   row 2          ...               .#.
unfoldable pub fixed_cu : List ℕ
fixed_cu =
    0x0004 ∷ 0x0001
    ∷ 0x0042 ∷ 0x0006 ∷ 0x0000 ∷ 0x8000 ∷ 0x0000 ∷ 0x0000
    ∷ 0x0041 ∷ 0x0006 ∷ 0x0000 ∷ 0x2000 ∷ 0x4000 ∷ 0x0000 ∷ []

unfoldable pub fixed_written : List ℕ
fixed_written =
    -- fixed; FBBox -1, FBBoy 0, three columns and two rows
    0xB000 ∷ 0x0041 ∷ 0x0042 ∷ 0x0006 ∷ 0xFFFF ∷ 0x0000 ∷ 0x0003 ∷ 0x0002
    -- length 1 × 2 + 2 + 7; ascent 2, descent 0
    ∷ 0x000B ∷ 0x0002 ∷ 0x0000 ∷ 0x0000 ∷ 0x0001
    -- 01 1 111 and 10 0 111
    ∷ 0x7C00 ∷ 0x9C00
    ∷ 0x0000 ∷ 0x0002 ∷ 0x0003 ∷ 0x0006
    ∷ 0x0106 ∷ 0x0006 ∷ 0x0006 ∷ []

-- the codes 97 to 99, the absent one among them, and 97 again
abbrev pub name : List ℕ
name = 97 ∷ 98 ∷ 99 ∷ 97 ∷ []

-- On strip 1 from x = -1 the label is, in the strip's columns 0 to 9, with one column lost on each side:
--   row 0   #.#..#.###
--   row 1   ##.##.##.#
--   row 2   .######.#.
-- which is 0029 7000, 0036 D000 and 001F A000 in the first two words of a row. The pen goes from -1 by 3, 4, 2 and 3 to 11.
unfoldable pub plain_cases : List (Seen × Seen)
plain_cases =
    (shown plain_font 97, shows (picture 3 (pos 0) 3 false (0xC000 ∷ 0x6000 ∷ 0xA000 ∷ [])))
    ∷ (shown plain_font 98, shows (picture 4 (pos 0) 4 true (0x9000 ∷ 0x6000 ∷ 0xF000 ∷ [])))
    ∷ (shown plain_font 99, shows (picture 2 (pos 0) 2 false (0x4000 ∷ 0xC000 ∷ 0x8000 ∷ [])))
    ∷ (shown plain_font 96, shows (picture 4 (pos 0) 4 true (0x9000 ∷ 0x6000 ∷ 0xF000 ∷ [])))
    ∷ (shown plain_font 100, shows (picture 4 (pos 0) 4 true (0x9000 ∷ 0x6000 ∷ 0xF000 ∷ [])))
    ∷ (held plain_font 2, holds (0xB780 ∷ []))
    ∷ (held plain_font 3, holds [])
    ∷ (measured plain_font (negsuc 2) (98 ∷ 96 ∷ 100 ∷ 97 ∷ []), replies (ends (pos 12) 3))
    -- Paint, Erase and Invert. Where the label's lost columns would lie the panel has zeros, and for Erase ones.
    ∷ (
      painted plain_font (negsuc 0) (pos 2) 0 name 0xA5A5,
      leaves (pos 11) 1 ((0, 0xA5AD) ∷ (1, 0xF5A5) ∷ (20, 0xA5B7) ∷ (21, 0xF5A5) ∷ (40, 0xA5BF) ∷ []) 0xA5A5,
    )
    ∷ (
      painted plain_font (negsuc 0) (pos 2) 1 name 0x5A5A,
      leaves (pos 11) 1 ((0, 0x5A52) ∷ (1, 0x0A5A) ∷ (20, 0x5A48) ∷ (21, 0x0A5A) ∷ (40, 0x5A40) ∷ []) 0x5A5A,
    )
    ∷ (
      painted plain_font (negsuc 0) (pos 2) 2 name 0xA5A5,
      leaves (pos 11) 1 ((0, 0xA58C) ∷ (1, 0xD5A5) ∷ (20, 0xA593) ∷ (21, 0x75A5) ∷ (40, 0xA5BA) ∷ (41, 0x05A5) ∷ []) 0xA5A5,
    )
    -- one row higher and one lower: row 0, and then row 2, falls off the panel
    ∷ (
      painted plain_font (negsuc 0) (pos 1) 0 name 0,
      leaves (pos 11) 1 ((0, 0x0036) ∷ (1, 0xD000) ∷ (20, 0x001F) ∷ (21, 0xA000) ∷ []) 0,
    )
    ∷ (
      painted plain_font (negsuc 0) (pos 3) 0 name 0,
      leaves (pos 11) 1 ((20, 0x0029) ∷ (21, 0x7000) ∷ (40, 0x0036) ∷ (41, 0xD000) ∷ []) 0,
    )
    -- the same, where the slice goes on behind the panel: a fourth row would begin there
    ∷ (
      painted_on (panel [] 0 ++ 0x1234 ∷ 0x5678 ∷ []) plain_font (negsuc 0) (pos 3) 0 name,
      comes
          (paints (ends (pos 11) 1) (panel ((20, 0x0029) ∷ (21, 0x7000) ∷ (40, 0x0036) ∷ (41, 0xD000) ∷ []) 0 ++ 0x1234 ∷ 0x5678 ∷ [])),
    )
    ∷ []

-- "draws nothing, moves the pen by 0 and still counts as a substitute"
abbrev pub nothing : ℕ → Seen
nothing rows = shows (picture 0 (pos 0) 0 true (replicate rows 0))

-- On strip 1 from x = 2 the codes 97 and 99, whatever absent ones stand beside them, are in the strip's columns 2 to 6, which are 12 to 16:
--   row 0   ##..#
--   row 1   .####
--   row 2   #.##.
-- which is 000C 8000, 0007 8000 and 000B 0000 in the first two words of a row. The pen goes from 2 by 3 and 2 to 7.
unfoldable pub blob_cases : List (Seen × Seen)
blob_cases =
    -- absent, below min, above max (the dummy's own code, and the last of all)
    (shown bare_font 98, nothing 3)
    ∷ (shown bare_font 96, nothing 3)
    ∷ (shown bare_font 100, nothing 3)
    ∷ (shown bare_font 255, nothing 3)
    -- the letters are as they are in a font with a blob
    ∷ (shown bare_font 97, shows (picture 3 (pos 0) 3 false (0xC000 ∷ 0x6000 ∷ 0xA000 ∷ [])))
    ∷ (shown bare_font 99, shows (picture 2 (pos 0) 2 false (0x4000 ∷ 0xC000 ∷ 0x8000 ∷ [])))
    ∷ (held bare_font 2, holds (0xB780 ∷ []))
    ∷ (measured bare_font (negsuc 2) (98 ∷ 96 ∷ 100 ∷ 97 ∷ []), replies (ends (pos 0) 3))
    ∷ (replies (measure_file (bytes_of bare_font) (negsuc 2) (98 ∷ 96 ∷ 100 ∷ 97 ∷ [])), replies (ends (pos 0) 3))
    ∷ (measured bare_font (pos 1023) (replicate 64 98), replies (ends (pos 1023) 64))
    -- alone, in Paint, Erase and Invert
    ∷ (painted bare_font (pos 2) (pos 2) 0 (98 ∷ []) 0xA5A5, leaves (pos 2) 1 [] 0xA5A5)
    ∷ (painted bare_font (pos 2) (pos 2) 1 (96 ∷ 100 ∷ []) 0xA5A5, leaves (pos 2) 2 [] 0xA5A5)
    ∷ (painted bare_font (pos 2) (pos 2) 2 (98 ∷ 96 ∷ 255 ∷ []) 0xA5A5, leaves (pos 2) 3 [] 0xA5A5)
    -- between two letters, and in Invert before, between and behind them
    ∷ (
      painted bare_font (pos 2) (pos 2) 0 (97 ∷ 98 ∷ 99 ∷ []) 0,
      leaves (pos 7) 1 ((0, 0x000C) ∷ (1, 0x8000) ∷ (20, 0x0007) ∷ (21, 0x8000) ∷ (40, 0x000B) ∷ []) 0,
    )
    ∷ (
      painted bare_font (pos 2) (pos 2) 2 (96 ∷ 97 ∷ 98 ∷ 99 ∷ 100 ∷ []) 0xA5A5,
      leaves (pos 7) 3 ((0, 0xA5A9) ∷ (1, 0x25A5) ∷ (20, 0xA5A2) ∷ (21, 0x25A5) ∷ (40, 0xA5AE) ∷ []) 0xA5A5,
    )
    ∷ (
      painted bare_font (pos 2) (pos 2) 1 (97 ∷ 98 ∷ 98 ∷ 99 ∷ []) 0xFFFF,
      leaves (pos 7) 2 ((0, 0xFFF3) ∷ (1, 0x7FFF) ∷ (20, 0xFFF8) ∷ (21, 0x7FFF) ∷ (40, 0xFFF4) ∷ []) 0xFFFF,
    )
    -- on a sheet: alone it stays fresh, and between two letters it is theirs
    ∷ (gathered bare_font (pos 2) (pos 2) 2 (98 ∷ []), comes (gathers (panel [] 0xFFFF) (panel [] 0)))
    ∷ (
      gathered bare_font (pos 2) (pos 2) 2 (97 ∷ 98 ∷ 99 ∷ []),
      comes
          (gathers (panel [] 0xFFFF)
          (panel ((0, 0x000C) ∷ (1, 0x8000) ∷ (20, 0x0007) ∷ (21, 0x8000) ∷ (40, 0x000B) ∷ []) 0)),
    )
    ∷ (shown empty_font 65, nothing 1)
    ∷ (measured empty_font (pos 5) (65 ∷ 66 ∷ []), replies (ends (pos 5) 2))
    -- a kerned dummy without columns: from x = 0 the pen goes by 4, and 64 has its left column one right of that, in column 15 of the panel
    ∷ (shown kerned_bare 65, shows (picture 0 (pos 2) 4 true (0x0000 ∷ 0x0000 ∷ [])))
    ∷ (measured kerned_bare (pos 0) (65 ∷ 64 ∷ []), replies (ends (pos 7) 1))
    ∷ (painted kerned_bare (pos 0) (pos 2) 0 (65 ∷ 64 ∷ []) 0, leaves (pos 7) 1 ((0, 0x0001) ∷ (21, 0x8000) ∷ []) 0)
    ∷ []

unfoldable pub wide_cases : List (Seen × Seen)
wide_cases =
    (shown plain_wide 48, shows (picture 14 (pos 0) 14 false (0x8004 ∷ 0x7FF8 ∷ [])))
    ∷ (shown plain_wide 49, shows (picture 5 (pos 0) 5 false (0xB000 ∷ 0x6800 ∷ [])))
    ∷ (shown plain_wide 50, shows (picture 3 (pos 0) 3 true (0xE000 ∷ 0xA000 ∷ [])))
    ∷ (held plain_wide 0, holds (0x8006 ∷ 0xDC00 ∷ []))
    ∷ (held plain_wide 1, holds (0x7FF9 ∷ 0xB400 ∷ []))
    ∷ (held plain_wide 2, holds [])
    -- 49 in the strip's columns 3 to 7, and the dummy in 8 to 10: #.##. and .##.#, then ## and #.
    ∷ (
      painted plain_wide (pos 3) (pos 1) 0 (49 ∷ 50 ∷ []) 0,
      leaves (pos 11) 1 ((0, 0x0005) ∷ (1, 0xB000) ∷ (20, 0x0003) ∷ (21, 0x6000) ∷ []) 0,
    )
    -- 48 is wider than the strip on both sides. Its first row is above the panel, and below its second, where the file goes on with the
    -- pointers, there is none.
    ∷ (
      painted plain_wide (negsuc 1) (pos 0) 0 (48 ∷ []) 0,
      leaves (pos 12) 0 ((0, 0x003F) ∷ (1, 0xF000) ∷ []) 0,
    )
    ∷ (shown kerned_wide 64, shows (picture 13 (negsuc 1) 12 false (0xAAA8 ∷ 0x0000 ∷ 0x8008 ∷ [])))
    ∷ (shown kerned_wide 65, shows (picture 4 (negsuc 0) 5 true (0xF000 ∷ 0x9000 ∷ 0xF000 ∷ [])))
    ∷ (shown kerned_wide 66, shows (picture 6 (pos 1) 7 false (0x9C00 ∷ 0x6400 ∷ 0xD000 ∷ [])))
    ∷ (shown kerned_wide 67, shows (picture 0 (pos 0) 5 false (0x0000 ∷ 0x0000 ∷ 0x0000 ∷ [])))
    ∷ (shown kerned_wide 68, shows (picture 4 (negsuc 0) 5 true (0xF000 ∷ 0x9000 ∷ 0xF000 ∷ [])))
    ∷ (held kerned_wide 1, holds (0x0003 ∷ 0x3200 ∷ []))
    -- from x = 2: 66 in the strip's columns 3 to 8, which are 13 to 18 of the panel, and 67, which draws nothing
    ∷ (
      painted kerned_wide (pos 2) (pos 2) 0 (66 ∷ 67 ∷ []) 0,
      leaves (pos 14) 0 ((0, 0x0004) ∷ (1, 0xE000) ∷ (20, 0x0003) ∷ (21, 0x2000) ∷ (40, 0x0006) ∷ (41, 0x8000) ∷ []) 0,
    )
    -- from x = 1: the dummy in the columns 0 to 3, and the first three columns of 66 in 7 to 9
    ∷ (
      painted kerned_wide (pos 1) (pos 2) 2 (65 ∷ 66 ∷ []) 0xA5A5,
      leaves (pos 13) 1 ((0, 0xA599) ∷ (1, 0xE5A5) ∷ (20, 0xA581) ∷ (21, 0x95A5) ∷ (40, 0xA599) ∷ (41, 0xC5A5) ∷ []) 0xA5A5,
    )
    -- 64 begins two columns left of the strip and ends one column right of it
    ∷ (
      painted kerned_wide (pos 0) (pos 2) 0 (64 ∷ []) 0,
      leaves (pos 12) 0 ((0, 0x002A) ∷ (1, 0xA000) ∷ []) 0,
    )
    ∷ (shown kerned_right 64, shows (picture 2 (pos 1) 3 false (0x8000 ∷ 0x4000 ∷ [])))
    ∷ (shown kerned_right 65, shows (picture 2 (pos 2) 4 true (0xC000 ∷ 0x8000 ∷ [])))
    ∷ []

-- The second file has 22 words. Of an output of 25 the last three stay, and one of 21 stays as it was.
unfoldable pub written_cases : List (Seen × Seen)
written_cases =
    (printed wide_cu, comes (prints (bytes_of wide_written)))
    ∷ (printed fixed_cu, comes (prints (bytes_of fixed_written)))
    ∷ (holds (output_after fixed_cu (replicate 25 0xAAAA)), holds (fixed_written ++ replicate 3 0xAAAA))
    ∷ (holds (output_after fixed_cu (replicate 21 0xAAAA)), holds (replicate 21 0xAAAA))
    ∷ []

-- "In bytes the high byte comes first." A last byte without a partner spells no word.
unfoldable pub spelt_cases : List (Seen × Seen)
spelt_cases =
    (holds (words_of (0x12 ∷ 0x34 ∷ 0xAB ∷ 0xCD ∷ 0xEF ∷ [])), holds (0x1234 ∷ 0xABCD ∷ []))
    ∷ (holds (bytes_of (0x1234 ∷ 0xABCD ∷ [])), holds (0x12 ∷ 0x34 ∷ 0xAB ∷ 0xCD ∷ []))
    ∷ []

unfoldable pub font_cases : List (Seen × Seen)
font_cases = spelt_cases ++ plain_cases ++ blob_cases ++ wide_cases ++ written_cases
