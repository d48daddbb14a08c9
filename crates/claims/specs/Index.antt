-- P3: fonts with an index. The files, and all that comes of them, were written from the paper and the memo by hand. Most of these files
-- stand in cases/index.list too, with the same answers.
use Rattle.std.specs.Prelude.{ℕ, zero, suc, Bool, true, false, List, [], ◌∷◌, ◌++◌, ℤ, pos, negsuc, replicate, set, take, length}
use Rattle.words.specs.Word.{bytes_of}
use Rattle.fonts.specs.Face.{face_of, dots_of, row_of}
use Rattle.paint.specs.declared.Shape.{Shape}
use Rattle.paint.specs.declared.Label.{Label}
use Rattle.paint.specs.Panel.{panel_words}
use Rattle.paint.specs.Label.{call_of, reply_of, paint_after, measure_of, measure_file}
use Rattle.paint.specs.Sheet.{Sheet}
use Rattle.sheets.specs.Sheet.{apply_after, gather_after}
use Rattle.counts.specs.Calls.{PanelCall, painting}
use Rattle.fonts.specs.Reading.{font_number}
use Rattle.claims.specs.Cases.{paints, gathers, applies, ends, refused, small_font, shape as smallShape}
use Rattle.claims.specs.Fonts.{Seen, shows, holds, replies, comes, picture, shown}
use Rattle.claims.specs.Edges.{changed}
use Rattle.claims.specs.Limits.{Row, reads, label_of, Flaw, cut_to, in_tables, put, over_codes, in_order}
use Rattle.claims.specs.Limits.{on_font, byte_too_many, asked_with, paint_flaws, measure_flaws, painted_by, measured_by}
use Rattle.claims.specs.Counts.{Row as CountRow, does, refused_by, counts}

-- What is asked of a font

-- a picture as in `Fonts`, and how many of its rows are above the baseline, which its body says
abbrev pub Drawn : Type 0
Drawn = Seen × ℕ

unfoldable pub drawn : List ℕ → ℕ → Drawn
drawn font code = (shown font code, ((face_of font).glyph code).ascent)

abbrev pub draws : ℕ → ℤ → ℕ → Bool → ℕ → List ℕ → Drawn
draws columns place advance substitute ascent rows = (shows (picture columns place advance substitute rows), ascent)

-- sixteen dots of a picture's row, from a column on
unfoldable pub dots : List ℕ → ℕ → ℕ → ℕ → ℕ
dots font code row from = dots_of font ((face_of font).glyph code) row from

-- a row of a body
unfoldable pub held_in : List ℕ → ℕ → ℕ → Seen
held_in font body row = holds (row_of font body row)

-- a measure in words, and in bytes
unfoldable pub measured : List ℕ → ℤ → List ℕ → Seen
measured font x text = replies (measure_of font x text)

unfoldable pub spelt_measured : List ℕ → ℤ → List ℕ → Seen
spelt_measured font x text = replies (measure_file (bytes_of font) x text)

-- a panel of one word everywhere, but for some
abbrev pub words_on : Shape → List (ℕ × ℕ) → ℕ → List ℕ
words_on s words other = changed words (replicate (panel_words s) other)

-- a label on a panel of one word everywhere; on a fresh sheet; and on such a panel by way of that sheet
unfoldable pub painted : Shape → List ℕ → Label → List ℕ → ℕ → Seen
painted s font label text everywhere =
    let lent = words_on s [] everywhere in
    let call = call_of font label text in
    comes (paints (reply_of s (length lent ∷ []) call) (paint_after s call lent))

unfoldable pub sheet_of : Shape → List ℕ → Label → List ℕ → Sheet
sheet_of s font label text =
    gather_after s (call_of font label text) (record { keep = words_on s [] 0xFFFF; flip = words_on s [] 0 })

unfoldable pub gathered : Shape → List ℕ → Label → List ℕ → Seen
gathered s font label text = let sheet = sheet_of s font label text in comes (gathers sheet.keep sheet.flip)

unfoldable pub applied : Shape → List ℕ → Label → List ℕ → ℕ → Seen
applied s font label text everywhere = comes (applies (apply_after s (sheet_of s font label text) (words_on s [] everywhere)))

-- what it leaves: the pen and the substitutes, and a panel
abbrev pub leaves : Shape → ℤ → ℕ → List (ℕ × ℕ) → ℕ → Seen
leaves s pen substitutes words other = comes (paints (ends pen substitutes) (words_on s words other))

-- A plain index

-- The codes 65 to 77. Body 0 has one picture, the speaker of the codes 65 to 73, three rows above the baseline and one below. Body 1 is
-- one row above it, and has the codes 76, 75 and 77, of which 75 has no columns. Body 2 is two rows below it, and has the dummy. Dots that
-- belong to no picture are set here and there.
--            the speaker             76   77              the dummy
--   row 0       ..#.        row 0    #.   #.###   row 0      ##
--   row 1       ###.                              row 1      .#
--   row 2       ###.
--   row 3       ..##
unfoldable pub speakers : List ℕ
speakers =
    -- format: new style, index, not fixed, not kerned; min, max, maxwidth; maxascent, maxdescent, three bodies
    0xC000 ∷ 0x0041 ∷ 0x004D ∷ 0x0005 ∷ 0x0003 ∷ 0x0002 ∷ 0x0003
    -- the map: nine codes of one picture, 74 missing, 75 to 77, and the dummy
    ∷ 0x0000 ∷ 0x0000 ∷ 0x0000 ∷ 0x0000 ∷ 0x0000 ∷ 0x0000 ∷ 0x0000 ∷ 0x0000 ∷ 0x0000 ∷ 0xFFFF ∷ 0x0101 ∷ 0x0100 ∷ 0x0102 ∷ 0x0200
    -- body 0: length 5 + 1 × 4 + 2, ascent, descent, xoffset, raster; the bitmap; the pointers
    ∷ 0x000B ∷ 0x0003 ∷ 0x0001 ∷ 0x0000 ∷ 0x0001
    ∷ 0x2F00 ∷ 0xE800 ∷ 0xE100 ∷ 0x3A00
    ∷ 0x0000 ∷ 0x0004
    -- body 1: length 5 + 1 × 1 + 4; its pictures are the columns 1 and 2, none, and 3 to 7
    ∷ 0x000A ∷ 0x0001 ∷ 0x0000 ∷ 0x0000 ∷ 0x0001
    ∷ 0xD780
    ∷ 0x0001 ∷ 0x0003 ∷ 0x0003 ∷ 0x0008
    -- body 2: length 5 + 2 × 2 + 2; its picture is the columns 15 and 16
    ∷ 0x000B ∷ 0x0000 ∷ 0x0002 ∷ 0x0000 ∷ 0x0002
    ∷ 0x0001 ∷ 0x8000
    ∷ 0xFFFE ∷ 0x8001
    ∷ 0x000F ∷ 0x0011 ∷ []

abbrev pub speaker : Drawn
speaker = draws 4 (pos 0) 4 false 3 (0x2000 ∷ 0xE000 ∷ 0xE000 ∷ 0x3000 ∷ [])

abbrev pub pair : Drawn
pair = draws 2 (pos 0) 2 true 0 (0xC000 ∷ 0x4000 ∷ [])

-- The codes 65 and 66, of which 66 is absent, in one body. Its code 1 has no columns, and is the dummy's.
unfoldable pub bare_index : List ℕ
bare_index =
    0xC000 ∷ 0x0041 ∷ 0x0042 ∷ 0x0002 ∷ 0x0001 ∷ 0x0000 ∷ 0x0001
    ∷ 0x0000 ∷ 0x8000 ∷ 0x0001
    ∷ 0x0009 ∷ 0x0001 ∷ 0x0000 ∷ 0x0000 ∷ 0x0001
    ∷ 0xC000
    ∷ 0x0000 ∷ 0x0002 ∷ 0x0002 ∷ []

-- the same, where the dummy shares the picture of 65
abbrev pub shared_dummy : List ℕ
shared_dummy = set bare_index 9 0x0000

unfoldable pub plain_pictures : List (Drawn × Drawn)
plain_pictures =
    -- "one speaker picture under nine codes", by its own body's ascent
    (drawn speakers 65, speaker)
    ∷ (drawn speakers 66, speaker)
    ∷ (drawn speakers 67, speaker)
    ∷ (drawn speakers 68, speaker)
    ∷ (drawn speakers 69, speaker)
    ∷ (drawn speakers 70, speaker)
    ∷ (drawn speakers 71, speaker)
    ∷ (drawn speakers 72, speaker)
    ∷ (drawn speakers 73, speaker)
    -- "a code absent where the map's sign bit is set": the dummy, "through the map's last entry"
    ∷ (drawn speakers 74, pair)
    -- "A present plain entry with equal pointers draws nothing, moves by 0 and is no substitute"
    ∷ (drawn speakers 75, draws 0 (pos 0) 0 false 1 (0x0000 ∷ []))
    -- codes 0 and 2 of body 1: "whose own codes start at 0"
    ∷ (drawn speakers 76, draws 2 (pos 0) 2 false 1 (0x8000 ∷ []))
    ∷ (drawn speakers 77, draws 5 (pos 0) 5 false 1 (0xB800 ∷ []))
    -- below min; the dummy's own code; 65 with a bit more
    ∷ (drawn speakers 64, pair)
    ∷ (drawn speakers 78, pair)
    ∷ (drawn speakers 321, pair)
    -- a dummy without columns: 65; 66, which is absent; 67, which is outside
    ∷ (drawn bare_index 65, draws 2 (pos 0) 2 false 1 (0xC000 ∷ []))
    ∷ (drawn bare_index 66, draws 0 (pos 0) 0 true 1 (0x0000 ∷ []))
    ∷ (drawn bare_index 67, draws 0 (pos 0) 0 true 1 (0x0000 ∷ []))
    -- a dummy that is the picture of 65: only the absent code is a substitute
    ∷ (drawn shared_dummy 65, draws 2 (pos 0) 2 false 1 (0xC000 ∷ []))
    ∷ (drawn shared_dummy 66, draws 2 (pos 0) 2 true 1 (0xC000 ∷ []))
    ∷ []

-- "A row call names a body; one not there gives the empty part"
unfoldable pub plain_rows : List (Seen × Seen)
plain_rows =
    -- body 0: its first row, its last, and one past it
    (held_in speakers 0 0, holds (0x2F00 ∷ []))
    ∷ (held_in speakers 0 3, holds (0x3A00 ∷ []))
    ∷ (held_in speakers 0 4, holds [])
    -- body 1: its only row, and one past it, which body 0 would have
    ∷ (held_in speakers 1 0, holds (0xD780 ∷ []))
    ∷ (held_in speakers 1 1, holds [])
    -- body 2: both its rows, of two words each, and one past them
    ∷ (held_in speakers 2 0, holds (0x0001 ∷ 0x8000 ∷ []))
    ∷ (held_in speakers 2 1, holds (0xFFFE ∷ 0x8001 ∷ []))
    ∷ (held_in speakers 2 2, holds [])
    -- one past the last body; body 0 with a bit more; the greatest numbers
    ∷ (held_in speakers 3 0, holds [])
    ∷ (held_in speakers 256 0, holds [])
    ∷ (held_in speakers 4294967295 0, holds [])
    ∷ (held_in speakers 0 4294967295, holds [])
    -- a strike without an index has body 0, and no other
    ∷ (held_in small_font 0 1, holds (0xBF00 ∷ []))
    ∷ (held_in small_font 0 3, holds [])
    ∷ (held_in small_font 1 0, holds [])
    ∷ (held_in small_font 65536 0, holds [])
    ∷ []

unfoldable pub plain_measures : List (Seen × Seen)
plain_measures =
    -- the speaker's nine codes: 9 × 4
    (measured speakers (pos 0) (65 ∷ 66 ∷ 67 ∷ 68 ∷ 69 ∷ 70 ∷ 71 ∷ 72 ∷ 73 ∷ []), replies (ends (pos 36) 0))
    -- 4 + 2 + 0 + 2 + 5 + 2, with 74 and 64 as substitutes; in words and in bytes
    ∷ (measured speakers (pos 0) (65 ∷ 74 ∷ 75 ∷ 76 ∷ 77 ∷ 64 ∷ []), replies (ends (pos 15) 2))
    ∷ (spelt_measured speakers (pos 0) (65 ∷ 74 ∷ 75 ∷ 76 ∷ 77 ∷ 64 ∷ []), replies (ends (pos 15) 2))
    -- the present code without columns: the pen stays and nothing is counted
    ∷ (measured speakers (negsuc 2) (replicate 64 75), replies (ends (negsuc 2) 0))
    ∷ (spelt_measured speakers (negsuc 2) (replicate 64 75), replies (ends (negsuc 2) 0))
    -- from the greatest x; 10 for one more; 11 for a 65th code
    ∷ (measured speakers (pos 1023) (75 ∷ 74 ∷ []), replies (ends (pos 1025) 1))
    ∷ (measured speakers (pos 1024) (75 ∷ []), replies (refused 10))
    ∷ (measured speakers (pos 0) (replicate 65 75), replies (refused 11))
    -- the dummy without columns, and the one that is the picture of 65
    ∷ (measured bare_index (pos 0) (65 ∷ 66 ∷ 64 ∷ []), replies (ends (pos 2) 2))
    ∷ (measured shared_dummy (pos 0) (65 ∷ 66 ∷ 64 ∷ []), replies (ends (pos 6) 2))
    ∷ []

-- Strips of 10 columns on rows of 20 words. Strip 1 has the columns 10 to 19: the last six of a row's first word and the first four of its
-- second. Rows begin with words 0, 20, 40, 60 and 80.
abbrev pub tall : Shape
tall = record { rowwords = 20; rows = 5; width = 10 }

-- the codes 65, 76, 75 and 74, of all three bodies
abbrev pub name : List ℕ
name = 65 ∷ 76 ∷ 75 ∷ 74 ∷ []

abbrev pub at_three : ℕ → Label
at_three mode = label_of 1 (pos 0) (pos 3) mode

-- From x = 0, the baseline at row 3, the strip's columns are, each picture by its own ascent:
--   row 0   ..#.......
--   row 1   ###.......
--   row 2   ###.#.....
--   row 3   ..##..##..
--   row 4   .......#..
-- which is 0008, 0038, 003A, 000C C000 and 0000 4000 in the first two words of a row. The pen goes by 4, 2, 0 and 2 to 8.
unfoldable pub across_bodies : List (Seen × Seen)
across_bodies =
    -- Paint
    (
      painted tall speakers (at_three 0) name 0,
      leaves tall (pos 8) 1 ((0, 0x0008) ∷ (20, 0x0038) ∷ (40, 0x003A) ∷ (60, 0x000C) ∷ (61, 0xC000) ∷ (81, 0x4000) ∷ []) 0,
    )
    -- Erase
    ∷ (
      painted tall speakers (at_three 1) name 0xFFFF,
      leaves tall (pos 8) 1 ((0, 0xFFF7) ∷ (20, 0xFFC7) ∷ (40, 0xFFC5) ∷ (60, 0xFFF3) ∷ (61, 0x3FFF) ∷ (81, 0xBFFF) ∷ []) 0xFFFF,
    )
    -- Invert
    ∷ (
      painted tall speakers (at_three 2) name 0xA5A5,
      leaves tall (pos 8) 1 ((0, 0xA5AD) ∷ (20, 0xA59D) ∷ (40, 0xA59F) ∷ (60, 0xA5A9) ∷ (61, 0x65A5) ∷ (81, 0xE5A5) ∷ []) 0xA5A5,
    )
    ∷ []

unfoldable pub shared_painted : List (Seen × Seen)
shared_painted =
    -- two speakers by two codes, from x = 3: row 0 above the panel, and the last column right of the strip
    (
      painted tall speakers (label_of 1 (pos 3) (pos 2) 0) (73 ∷ 69 ∷ []) 0,
      leaves tall (pos 11) 0 ((0, 0x0007) ∷ (1, 0x7000) ∷ (20, 0x0007) ∷ (21, 0x7000) ∷ (40, 0x0001) ∷ (41, 0x9000) ∷ []) 0,
    )
    -- a present code without columns alters nothing
    ∷ (painted tall speakers (label_of 1 (pos 3) (pos 3) 2) (75 ∷ 75 ∷ []) 0xA5A5, leaves tall (pos 3) 0 [] 0xA5A5)
    -- absent codes whose dummy has no columns alter nothing, and are counted
    ∷ (painted tall bare_index (label_of 0 (pos 0) (pos 1) 2) (66 ∷ 64 ∷ 255 ∷ []) 0xA5A5, leaves tall (pos 0) 3 [] 0xA5A5)
    ∷ []

unfoldable pub on_sheets : List (Seen × Seen)
on_sheets =
    -- Paint: keep clears where flip sets
    (
      gathered tall speakers (at_three 0) name,
      comes
          (gathers
          (words_on tall ((0, 0xFFF7) ∷ (20, 0xFFC7) ∷ (40, 0xFFC5) ∷ (60, 0xFFF3) ∷ (61, 0x3FFF) ∷ (81, 0xBFFF) ∷ []) 0xFFFF)
          (words_on tall ((0, 0x0008) ∷ (20, 0x0038) ∷ (40, 0x003A) ∷ (60, 0x000C) ∷ (61, 0xC000) ∷ (81, 0x4000) ∷ []) 0)),
    )
    -- Invert: flip alone
    ∷ (
      gathered tall speakers (at_three 2) name,
      comes
          (gathers (words_on tall [] 0xFFFF)
          (words_on tall ((0, 0x0008) ∷ (20, 0x0038) ∷ (40, 0x003A) ∷ (60, 0x000C) ∷ (61, 0xC000) ∷ (81, 0x4000) ∷ []) 0)),
    )
    -- and applied: the panel that painting leaves
    ∷ (
      applied tall speakers (at_three 2) name 0xA5A5,
      comes
          (applies
          (words_on tall ((0, 0xA5AD) ∷ (20, 0xA59D) ∷ (40, 0xA59F) ∷ (60, 0xA5A9) ∷ (61, 0x65A5) ∷ (81, 0xE5A5) ∷ []) 0xA5A5)),
    )
    ∷ []

-- A kerned index

-- The codes 64 to 69, whose box begins two columns left of the pen. Body 0, two rows above the baseline and one below, has the picture that
-- 64 and 65 share. Body 1, three rows above it, has 68, 69 and the dummy. 66 is absent by the sign bit, 67 by its width entry, and its map
-- entry names no body; 68 has spacing 0; 69 is empty.
--            64 and 65           68   the dummy
--   row 0       #.#      row 0   #.       #
--   row 1       .#.      row 1   .#       .
--   row 2       ###      row 2   ##       #
unfoldable pub kerned_shared : List ℕ
kerned_shared =
    -- format: new style, index, not fixed, kerned; min, max, maxwidth; FBBox -2, FBBoy -1, FBBdx, FBBdy; maxascent, maxdescent, two bodies
    0xD000 ∷ 0x0040 ∷ 0x0045 ∷ 0x0007 ∷ 0xFFFE ∷ 0xFFFF ∷ 0x0005 ∷ 0x0004 ∷ 0x0003 ∷ 0x0001 ∷ 0x0002
    -- the map
    ∷ 0x0000 ∷ 0x0000 ∷ 0x8000 ∷ 0x7F10 ∷ 0x0100 ∷ 0x0101 ∷ 0x0102
    -- body 0: length 5 + 1 × 3 + 2
    ∷ 0x000A ∷ 0x0002 ∷ 0x0001 ∷ 0x0000 ∷ 0x0001
    ∷ 0xB000 ∷ 0x4000 ∷ 0xF000
    ∷ 0x0000 ∷ 0x0003
    -- body 1: length 5 + 1 × 3 + 4; its pictures are the columns 2 and 3, none, and 4
    ∷ 0x000C ∷ 0x0003 ∷ 0x0000 ∷ 0x0000 ∷ 0x0001
    ∷ 0x2800 ∷ 0xD000 ∷ 0x3800
    ∷ 0x0002 ∷ 0x0004 ∷ 0x0004 ∷ 0x0005
    -- the width entries: offset and spacing of 64, 65, 66, none of 67, those of 68, 69 and the dummy
    ∷ 0x0204 ∷ 0x0007 ∷ 0x0103 ∷ 0xFFFF ∷ 0x0300 ∷ 0x0006 ∷ 0x0105 ∷ []

abbrev pub kerned_dummy : Drawn
kerned_dummy = draws 1 (negsuc 0) 5 true 3 (0x8000 ∷ 0x0000 ∷ 0x8000 ∷ [])

unfoldable pub kerned_pictures : List (Drawn × Drawn)
kerned_pictures =
    -- two codes of one picture: offset 2 and spacing 4, and offset 0 and spacing 7
    (drawn kerned_shared 64, draws 3 (pos 0) 4 false 2 (0xA000 ∷ 0x4000 ∷ 0xE000 ∷ []))
    ∷ (drawn kerned_shared 65, draws 3 (negsuc 1) 7 false 2 (0xA000 ∷ 0x4000 ∷ 0xE000 ∷ []))
    -- absent by the sign bit, though it has a width entry; and by FFFF, though its map entry has no sign bit
    ∷ (drawn kerned_shared 66, kerned_dummy)
    ∷ (drawn kerned_shared 67, kerned_dummy)
    -- spacing 0; and an empty character, which moves by its spacing
    ∷ (drawn kerned_shared 68, draws 2 (pos 1) 0 false 3 (0x8000 ∷ 0x4000 ∷ 0xC000 ∷ []))
    ∷ (drawn kerned_shared 69, draws 0 (negsuc 1) 6 false 3 (0x0000 ∷ 0x0000 ∷ 0x0000 ∷ []))
    -- below min, and the dummy's own code
    ∷ (drawn kerned_shared 63, kerned_dummy)
    ∷ (drawn kerned_shared 70, kerned_dummy)
    ∷ []

unfoldable pub kerned_seen : List (Seen × Seen)
kerned_seen =
    -- the first row of each body, its last, and one past it
    (held_in kerned_shared 0 0, holds (0xB000 ∷ []))
    ∷ (held_in kerned_shared 0 2, holds (0xF000 ∷ []))
    ∷ (held_in kerned_shared 0 3, holds [])
    ∷ (held_in kerned_shared 1 0, holds (0x2800 ∷ []))
    ∷ (held_in kerned_shared 1 2, holds (0x3800 ∷ []))
    ∷ (held_in kerned_shared 1 3, holds [])
    -- one past the last body
    ∷ (held_in kerned_shared 2 0, holds [])
    -- 4 + 7 + 5 + 5 + 0 + 6 + 5, with 66, 67 and 70 as substitutes; in words and in bytes
    ∷ (measured kerned_shared (pos 0) (64 ∷ 65 ∷ 66 ∷ 67 ∷ 68 ∷ 69 ∷ 70 ∷ []), replies (ends (pos 32) 3))
    ∷ (spelt_measured kerned_shared (pos 0) (64 ∷ 65 ∷ 66 ∷ 67 ∷ 68 ∷ 69 ∷ 70 ∷ []), replies (ends (pos 32) 3))
    ∷ []

-- Strips of 16 columns on rows of 32 words: strip 1 is the second word of each row. Rows begin with words 0, 32, 64 and 96.
abbrev pub by_words : Shape
by_words = record { rowwords = 32; rows = 4; width = 16 }

-- From x = 1, the baseline at row 3: the dummy for 66 in column 0, 64 in 6 to 8, 68 in 11 and 12, and 65 in 8 to 10. The pen goes by 5, 4,
-- 0 and 7 to 17. In row 1 and in row 3 the last dot of 64 is the first of 65.
--   row 0   #..........#....
--   row 1   ......#.#.#.#...
--   row 2   #......#.#.##...
--   row 3   ......#####.....
abbrev pub kerned_name : List ℕ
kerned_name = 66 ∷ 64 ∷ 68 ∷ 65 ∷ []

abbrev pub from_one : ℕ → Label
from_one mode = label_of 1 (pos 1) (pos 3) mode

unfoldable pub kerned_painted : List (Seen × Seen)
kerned_painted =
    -- Paint
    (
      painted by_words kerned_shared (from_one 0) kerned_name 0,
      leaves by_words (pos 17) 1 ((1, 0x8010) ∷ (33, 0x02A8) ∷ (65, 0x8158) ∷ (97, 0x03E0) ∷ []) 0,
    )
    -- Invert: the column that 64 and 65 share is turned over twice
    ∷ (
      painted by_words kerned_shared (from_one 2) kerned_name 0,
      leaves by_words (pos 17) 1 ((1, 0x8010) ∷ (33, 0x0228) ∷ (65, 0x8158) ∷ (97, 0x0360) ∷ []) 0,
    )
    -- and the same on a sheet
    ∷ (
      gathered by_words kerned_shared (from_one 2) kerned_name,
      comes
          (gathers (words_on by_words [] 0xFFFF)
          (words_on by_words ((1, 0x8010) ∷ (33, 0x0228) ∷ (65, 0x8158) ∷ (97, 0x0360) ∷ []) 0)),
    )
    ∷ []

-- The paper's small font as an index of one body, whose codes are those of the strike from 0 on: each code shows what it showed.
unfoldable pub small_index : List ℕ
small_index =
    0xD000 ∷ 0x0041 ∷ 0x0044 ∷ 0x0004 ∷ 0xFFFF ∷ 0xFFFF ∷ 0x0004 ∷ 0x0003 ∷ 0x0002 ∷ 0x0001 ∷ 0x0001
    ∷ 0x0000 ∷ 0x0001 ∷ 0x0002 ∷ 0x0003 ∷ 0x0004
    ∷ 0x000E ∷ 0x0002 ∷ 0x0001 ∷ 0x0000 ∷ 0x0001
    ∷ 0x4F00 ∷ 0xBF00 ∷ 0x1F00
    ∷ 0x0000 ∷ 0x0003 ∷ 0x0004 ∷ 0x0004 ∷ 0x0004 ∷ 0x0008
    ∷ 0x0104 ∷ 0x0000 ∷ 0xFFFF ∷ 0x0102 ∷ 0x0004 ∷ []

unfoldable pub small_painted : List (Seen × Seen)
small_painted =
    -- C2
    (
      painted smallShape small_index (label_of 31 (pos 1) (pos 2) 0) (66 ∷ 65 ∷ []) 0,
      leaves smallShape (pos 5) 0 ((7, 0x0002) ∷ (15, 0x000D) ∷ (23, 0x0008) ∷ []) 0,
    )
    -- C3
    ∷ (
      painted smallShape small_index (label_of 32 (pos 1) (pos 2) 0) (66 ∷ 65 ∷ []) 0,
      comes (paints (refused 9) (words_on smallShape [] 0)),
    )
    -- C4
    ∷ (
      painted smallShape small_index (label_of 31 (pos 1) (pos 2) 0) (67 ∷ []) 0,
      leaves smallShape (pos 5) 1 ((7, 0x000F) ∷ (15, 0x000F) ∷ (23, 0x000F) ∷ []) 0,
    )
    -- C9
    ∷ (painted smallShape small_index (label_of 31 (pos 1) (pos 2) 0) (68 ∷ []) 0, leaves smallShape (pos 3) 0 [] 0)
    ∷ []

-- The limits of the refusals, on small files

-- a plain index of the code 65 and one body of two columns in one row: the map from word 7, the body from word 9
unfoldable pub plain_index : List ℕ
plain_index =
    0xC000 ∷ 65 ∷ 65 ∷ 2 ∷ 1 ∷ 0 ∷ 1
    ∷ 0x0000 ∷ 0x0000
    ∷ 8 ∷ 1 ∷ 0 ∷ 0 ∷ 1
    ∷ 0x8000 ∷ 0 ∷ 2 ∷ []

-- the same kerned: the map from word 11, the body from word 13, the width entries from word 21
unfoldable pub kerned_index : List ℕ
kerned_index =
    0xD000 ∷ 65 ∷ 65 ∷ 2 ∷ 0 ∷ 0 ∷ 2 ∷ 1 ∷ 1 ∷ 0 ∷ 1
    ∷ 0x0000 ∷ 0x0000
    ∷ 8 ∷ 1 ∷ 0 ∷ 0 ∷ 1
    ∷ 0x8000 ∷ 0 ∷ 2
    ∷ 0x0002 ∷ 0x0003 ∷ []

-- the first with another body
abbrev pub with_body : List ℕ → List ℕ
with_body body = take 9 plain_index ++ body

-- with a second body that no entry names, from word 17
abbrev pub two_bodies : List ℕ
two_bodies = set plain_index 6 2 ++ 8 ∷ 0 ∷ 1 ∷ 0 ∷ 1 ∷ 0x4000 ∷ 1 ∷ 3 ∷ []

-- A plain index of two codes and two bodies: the map from word 7, the bodies from words 10 and 18. And the same kerned: the map from word
-- 11, the bodies from words 14 and 22, the width entries from word 30.
unfoldable pub plain_two : List ℕ
plain_two =
    0xC000 ∷ 65 ∷ 66 ∷ 2 ∷ 1 ∷ 1 ∷ 2
    ∷ 0x0000 ∷ 0x0100 ∷ 0x0000
    ∷ 8 ∷ 1 ∷ 0 ∷ 0 ∷ 1 ∷ 0x8000 ∷ 0 ∷ 2
    ∷ 8 ∷ 0 ∷ 1 ∷ 0 ∷ 1 ∷ 0x4000 ∷ 1 ∷ 3 ∷ []

unfoldable pub kerned_two : List ℕ
kerned_two =
    0xD000 ∷ 65 ∷ 66 ∷ 2 ∷ 0 ∷ 0 ∷ 2 ∷ 1 ∷ 1 ∷ 1 ∷ 2
    ∷ 0x0000 ∷ 0x0100 ∷ 0x0000
    ∷ 8 ∷ 1 ∷ 0 ∷ 0 ∷ 1 ∷ 0x8000 ∷ 0 ∷ 2
    ∷ 8 ∷ 0 ∷ 1 ∷ 0 ∷ 1 ∷ 0x4000 ∷ 1 ∷ 3
    ∷ 0x0002 ∷ 0x0003 ∷ 0x0004 ∷ []

abbrev pub copies : ℕ → List ℕ → List ℕ
copies zero words = []
copies (suc n) words = words ++ copies n words

-- the first file with so many bodies, all alike; code 65 names the last of 128
abbrev pub many_bodies : ℕ → List ℕ
many_bodies count =
    0xC000 ∷ 65 ∷ 65 ∷ 2 ∷ 1 ∷ 0 ∷ count ∷ 0x7F00 ∷ 0x0000 ∷ copies count (8 ∷ 1 ∷ 0 ∷ 0 ∷ 1 ∷ 0x8000 ∷ 0 ∷ 2 ∷ [])

-- of two codes and some bodies only the words before the bodies
abbrev pub plain_front : ℕ → List ℕ
plain_front bodies = 0xC000 ∷ 65 ∷ 66 ∷ 2 ∷ 1 ∷ 0 ∷ bodies ∷ 0x0000 ∷ 0x0000 ∷ 0x0000 ∷ []

abbrev pub kerned_front : ℕ → ℕ → List ℕ
kerned_front fbbox bodies =
    0xD000 ∷ 65 ∷ 66 ∷ 2 ∷ fbbox ∷ 0 ∷ 2 ∷ 1 ∷ 1 ∷ 0 ∷ bodies ∷ 0x0000 ∷ 0x0000 ∷ 0x0000 ∷ []

-- 1, 2 and 3
unfoldable pub front_limits : List Row
front_limits =
    -- both files are accepted, and with the fixed bit
    reads plain_index 0
    ∷ reads kerned_index 0
    ∷ reads (set plain_index 0 0xE000) 0
    ∷ reads (set kerned_index 0 0xF000) 0
    -- eight words: 1, with a bad format too
    ∷ reads (take 8 plain_index) 1
    ∷ reads (set (take 8 plain_index) 0 0xC001) 1
    -- 2: the top bit 0; each end of the low twelve bits
    ∷ reads (set plain_index 0 0x4000) 2
    ∷ reads (set plain_index 0 0xC800) 2
    ∷ reads (set plain_index 0 0xC001) 2
    ∷ reads (set kerned_index 0 0x5000) 2
    ∷ reads (set kerned_index 0 0xD800) 2
    ∷ reads (set kerned_index 0 0xD001) 2
    -- kerned with twelve words: 1; behind 2; before 3
    ∷ reads (take 12 kerned_index) 1
    ∷ reads (set (take 12 kerned_index) 0 0xD001) 2
    ∷ reads (set (take 12 kerned_index) 1 66) 1
    -- 3: min over max; max over 255; the greatest code
    ∷ reads (set plain_index 1 66) 3
    ∷ reads (set (set plain_index 1 256) 2 256) 3
    ∷ reads (set (set plain_index 1 255) 2 255) 0
    ∷ reads (set kerned_index 1 66) 3
    ∷ []

-- 15: "a body count not 1..128"; one body is accepted above, and 128 below
unfoldable pub count_limits : List Row
count_limits =
    -- none, and no word behind the map
    reads (take 9 (set plain_index 6 0)) 15
    -- 129; 65,535
    ∷ reads (set plain_index 6 129) 15
    ∷ reads (set plain_index 6 0xFFFF) 15
    -- 128, of which 127 are not there: 5
    ∷ reads (set plain_index 6 128) 5
    -- 3 comes before it
    ∷ reads (set (set plain_index 6 0) 1 66) 3
    -- kerned: none, 129, 65,535, and 128 of which one is there
    ∷ reads (set kerned_index 10 0) 15
    ∷ reads (set kerned_index 10 129) 15
    ∷ reads (set kerned_index 10 0xFFFF) 15
    ∷ reads (set kerned_index 10 128) 5
    ∷ []

-- 1: "where the words before the bodies aren't all there", n + 8 of them, and kerned n + 12
unfoldable pub before_bodies : List Row
before_bodies =
    -- one fewer than 10; just these, and then no body is there: 5
    reads (take 9 (plain_front 1)) 1
    ∷ reads (plain_front 1) 5
    -- 15 comes before
    ∷ reads (take 9 (plain_front 0)) 15
    -- kerned: one fewer than 14; just these
    ∷ reads (take 13 (kerned_front 0 1)) 1
    ∷ reads (kerned_front 0 1) 5
    -- 4 for FBBox comes behind it; before the bodies' 5; behind 15
    ∷ reads (take 13 (kerned_front 256 1)) 1
    ∷ reads (kerned_front 256 1) 4
    ∷ reads (kerned_front 256 0) 15
    -- all codes: 264 words and a body; then 263
    ∷ reads (0xC000 ∷ 0 ∷ 255 ∷ 2 ∷ 1 ∷ 0 ∷ 1 ∷ replicate 257 0 ++ 8 ∷ 1 ∷ 0 ∷ 0 ∷ 1 ∷ 0x8000 ∷ 0 ∷ 2 ∷ []) 0
    ∷ reads (0xC000 ∷ 0 ∷ 255 ∷ 2 ∷ 1 ∷ 0 ∷ 1 ∷ replicate 256 0) 1
    ∷ []

-- 4: "FBBox not -255..255"; a body's "height not 1..256, raster not 1..4096, xoffset not 0"
unfoldable pub size_limits : List Row
size_limits =
    -- FBBox -255, -256, 255 and 256
    reads (set kerned_index 4 0xFF01) 0
    ∷ reads (set kerned_index 4 0xFF00) 4
    ∷ reads (set kerned_index 4 0x00FF) 0
    ∷ reads (set kerned_index 4 0x0100) 4
    -- heights 0, 256, 257 and 65,537
    ∷ reads (with_body (7 ∷ 0 ∷ 0 ∷ 0 ∷ 1 ∷ 0 ∷ 2 ∷ [])) 4
    ∷ reads (with_body (263 ∷ 0 ∷ 256 ∷ 0 ∷ 1 ∷ replicate 256 0x8000 ++ 0 ∷ 2 ∷ [])) 0
    ∷ reads (with_body (264 ∷ 0 ∷ 257 ∷ 0 ∷ 1 ∷ replicate 257 0x8000 ++ 0 ∷ 2 ∷ [])) 4
    ∷ reads (set (set plain_index 10 0xFFFF) 11 2) 4
    -- rasters 0, 4096 and 4097
    ∷ reads (with_body (7 ∷ 1 ∷ 0 ∷ 0 ∷ 0 ∷ 0 ∷ 0 ∷ [])) 4
    ∷ reads (with_body (0x1007 ∷ 1 ∷ 0 ∷ 0 ∷ 0x1000 ∷ replicate 4096 0x8000 ++ 0 ∷ 0xFFFF ∷ [])) 0
    ∷ reads (with_body (0x1008 ∷ 1 ∷ 0 ∷ 0 ∷ 0x1001 ∷ replicate 4097 0x8000 ++ 0 ∷ 2 ∷ [])) 4
    -- xoffset 1, plain and kerned; kerned raster 0 and height 0
    ∷ reads (set plain_index 12 1) 4
    ∷ reads (set kerned_index 16 1) 4
    ∷ reads (set kerned_index 17 0) 4
    ∷ reads (set kerned_index 14 0) 4
    ∷ []

-- 5: "its pointers are what its length word leaves after five words and the bitmap, at least two"; "5 also for words too few or, after the
-- last, left over"
unfoldable pub length_limits : List Row
length_limits =
    -- four of a body's five words are 5, whatever they say; all five are looked at before the words behind them
    reads (take 13 (set plain_index 12 1)) 5
    ∷ reads (take 14 (set plain_index 12 1)) 4
    ∷ reads (take 14 plain_index) 5
    -- one pointer left, none, and less than nothing; two are accepted above, and three are
    ∷ reads (with_body (7 ∷ 1 ∷ 0 ∷ 0 ∷ 1 ∷ 0x8000 ∷ 0 ∷ [])) 5
    ∷ reads (with_body (6 ∷ 1 ∷ 0 ∷ 0 ∷ 1 ∷ 0x8000 ∷ [])) 5
    ∷ reads (set plain_index 9 0) 5
    ∷ reads (with_body (9 ∷ 1 ∷ 0 ∷ 0 ∷ 1 ∷ 0x8000 ∷ 0 ∷ 2 ∷ 2 ∷ [])) 0
    -- kerned: one pointer left
    ∷ reads (set kerned_index 13 7) 5
    -- a bitmap of 65,536 words: in sixteen bits seven words would be all of it
    ∷ reads (with_body (7 ∷ 256 ∷ 0 ∷ 0 ∷ 256 ∷ 0 ∷ 2 ∷ [])) 5
    -- a length that leads one word past the file, and far past it; one word too few
    ∷ reads (set plain_index 9 9) 5
    ∷ reads (set plain_index 9 0xFFFF) 5
    ∷ reads (take 16 plain_index) 5
    -- one word left over; width entries behind a plain index
    ∷ reads (plain_index ++ 0 ∷ []) 5
    ∷ reads (plain_index ++ 2 ∷ 3 ∷ []) 5
    -- kerned: one width entry too few, one too many, none; a length that takes one for a pointer
    ∷ reads (take 22 kerned_index) 5
    ∷ reads (kerned_index ++ 4 ∷ []) 5
    ∷ reads (take 21 kerned_index) 5
    ∷ reads (set kerned_index 13 9) 5
    -- 4 before 5, and 5 before 6
    ∷ reads (set (set plain_index 9 7) 12 1) 4
    ∷ reads (set plain_index 15 3 ++ 0 ∷ []) 5
    ∷ []

-- 6: "none smaller than the one before, the last not over 16 × raster"
unfoldable pub pointer_limits : List Row
pointer_limits =
    -- the second smaller; the last of three smaller
    reads (set plain_index 15 3) 6
    ∷ reads (with_body (9 ∷ 1 ∷ 0 ∷ 0 ∷ 1 ∷ 0x8000 ∷ 0 ∷ 3 ∷ 2 ∷ [])) 6
    -- the last at column 16, and at 17
    ∷ reads (set (set plain_index 15 16) 16 16) 0
    ∷ reads (set plain_index 16 17) 6
    -- kerned: the second smaller; the last at 17
    ∷ reads (set kerned_index 19 3) 6
    ∷ reads (set kerned_index 20 17) 6
    ∷ []

-- "then 4, 5 and 6 for the bodies in turn": two bodies, of which no entry names the second
unfoldable pub body_by_body : List Row
body_by_body =
    -- both are good; the second one's 4, its 5, its 6; four of its five words
    reads two_bodies 0
    ∷ reads (set two_bodies 20 1) 4
    ∷ reads (set two_bodies 17 7) 5
    ∷ reads (set (set two_bodies 23 3) 24 1) 6
    ∷ reads (take 21 two_bodies) 5
    -- one word too few behind it, and one left over; the same of a kerned file's width entries
    ∷ reads (take 24 two_bodies) 5
    ∷ reads (two_bodies ++ 0 ∷ []) 5
    ∷ reads (take 32 kerned_two) 5
    ∷ reads (kerned_two ++ 0 ∷ []) 5
    -- the first one's 6 before the second one's 4, before its cut, and before a word left over
    ∷ reads (set (set two_bodies 15 3) 20 1) 6
    ∷ reads (take 19 (set two_bodies 15 3)) 6
    ∷ reads (set two_bodies 15 3 ++ 0 ∷ []) 6
    -- the first one's 5 before the second one's 4; the first one's 4 before the second one's 5; the second one's 4 before a word left over
    ∷ reads (set (set two_bodies 9 7) 20 1) 5
    ∷ reads (set (set two_bodies 10 0) 17 7) 4
    ∷ reads (set two_bodies 20 1 ++ 0 ∷ []) 4
    -- one body fewer than there are: the second is left over
    ∷ reads (set two_bodies 6 1) 5
    ∷ []

-- 16: "a present map entry that names no body or no column pair in it"
unfoldable pub name_limits : List Row
name_limits =
    -- one past the last body; the greatest body
    reads (set plain_index 7 0x0100) 16
    ∷ reads (set plain_index 7 0x7F00) 16
    -- one past the last pair; the greatest code
    ∷ reads (set plain_index 7 0x0001) 16
    ∷ reads (set plain_index 7 0x00FF) 16
    -- of three pointers the last pair, and one past it
    ∷ reads (set (with_body (9 ∷ 1 ∷ 0 ∷ 0 ∷ 1 ∷ 0x8000 ∷ 0 ∷ 2 ∷ 5 ∷ [])) 7 0x0001) 0
    ∷ reads (set (with_body (9 ∷ 1 ∷ 0 ∷ 0 ∷ 1 ∷ 0x8000 ∷ 0 ∷ 2 ∷ 5 ∷ [])) 7 0x0002) 16
    -- the greatest code has a pair among 257 pointers, and none among 256
    ∷ reads (set (with_body (0x0107 ∷ 1 ∷ 0 ∷ 0 ∷ 1 ∷ 0x8000 ∷ replicate 257 0)) 7 0x00FF) 0
    ∷ reads (set (with_body (0x0106 ∷ 1 ∷ 0 ∷ 0 ∷ 1 ∷ 0x8000 ∷ replicate 256 0)) 7 0x00FF) 16
    -- the dummy's entry: no body; no pair
    ∷ reads (set plain_index 8 0x0100) 16
    ∷ reads (set plain_index 8 0x0001) 16
    -- an absent entry may name anything
    ∷ reads (set plain_index 7 0x8100) 0
    -- 6 comes before
    ∷ reads (set (set plain_index 7 0x0100) 15 3) 6
    -- kerned: FFFF beside an entry that names no body is absent, and any other width entry is not
    ∷ reads (set (set kerned_index 11 0x7FFF) 21 0xFFFF) 0
    ∷ reads (set (set kerned_index 11 0x7FFF) 21 0xFFFE) 16
    -- kerned: no body; no pair; absent by the sign bit; the dummy's entry
    ∷ reads (set kerned_index 11 0x0100) 16
    ∷ reads (set kerned_index 11 0x0001) 16
    ∷ reads (set kerned_index 11 0xFFFF) 0
    ∷ reads (set kerned_index 12 0x0100) 16
    ∷ []

-- 7: "where the map's dummy is absent"
unfoldable pub dummy_limits : List Row
dummy_limits =
    -- by the sign bit, whatever else the entry says
    reads (set plain_index 8 0x8000) 7
    ∷ reads (set plain_index 8 0xFFFF) 7
    ∷ reads (set kerned_index 12 0x8000) 7
    -- by its width entry, whatever its map entry names; FFFE is not absent
    ∷ reads (set kerned_index 22 0xFFFF) 7
    ∷ reads (set (set kerned_index 12 0x7FFF) 22 0xFFFF) 7
    ∷ reads (set kerned_index 22 0xFFFE) 0
    -- without columns it loads
    ∷ reads bare_index 0
    ∷ reads (set kerned_index 20 0) 0
    -- 16 comes before, plain and kerned
    ∷ reads (set (set plain_index 7 0x0100) 8 0x8000) 16
    ∷ reads (set (set kerned_index 11 0x0100) 22 0xFFFF) 16
    ∷ []

-- "maxascent and maxdescent are not looked at", nor what a strike's reader does not look at
unfoldable pub unread : List Row
unread =
    -- maxwidth, maxascent, maxdescent
    reads (set plain_index 3 0xFFFF) 0
    ∷ reads (set plain_index 4 0xFFFF) 0
    ∷ reads (set plain_index 5 0xFFFF) 0
    -- kerned: maxwidth, FBBoy, FBBdx, FBBdy, maxascent, maxdescent
    ∷ reads (set kerned_index 3 0xFFFF) 0
    ∷ reads (set kerned_index 5 0xFFFF) 0
    ∷ reads (set kerned_index 6 0xFFFF) 0
    ∷ reads (set kerned_index 7 0xFFFF) 0
    ∷ reads (set kerned_index 8 0xFFFF) 0
    ∷ reads (set kerned_index 9 0xFFFF) 0
    -- the files above; and the paper's strike with the index bit set, whose words 16 to 20 are no body's
    ∷ reads speakers 0
    ∷ reads shared_dummy 0
    ∷ reads kerned_shared 0
    ∷ reads small_index 0
    ∷ reads (set small_font 0 0xD000) 4
    ∷ []

-- pictures at those limits
unfoldable pub limit_pictures : List (Drawn × Drawn)
limit_pictures =
    -- FBBox -255
    (drawn (set kerned_index 4 0xFF01) 65, draws 2 (negsuc 254) 2 false 1 (0x8000 ∷ []))
    -- the last of two pairs
    ∷ (
      drawn (set (with_body (9 ∷ 1 ∷ 0 ∷ 0 ∷ 1 ∷ 0x8000 ∷ 0 ∷ 2 ∷ 5 ∷ [])) 7 0x0001) 65,
      draws 3 (pos 0) 3 false 1 (0x0000 ∷ []),
    )
    -- the last of 256 pairs
    ∷ (
      drawn (set (with_body (0x0107 ∷ 1 ∷ 0 ∷ 0 ∷ 1 ∷ 0x8000 ∷ replicate 257 0)) 7 0x00FF) 65,
      draws 0 (pos 0) 0 false 1 (0x0000 ∷ []),
    )
    -- absent by the sign bit, and kerned by FFFF: the dummy
    ∷ (drawn (set plain_index 7 0x8100) 65, draws 2 (pos 0) 2 true 1 (0x8000 ∷ []))
    ∷ (drawn (set (set kerned_index 11 0x7FFF) 21 0xFFFF) 65, draws 2 (pos 0) 3 true 1 (0x8000 ∷ []))
    -- a picture of 65,535 columns
    ∷ (
      drawn (with_body (0x1007 ∷ 1 ∷ 0 ∷ 0 ∷ 0x1000 ∷ replicate 4096 0x8000 ++ 0 ∷ 0xFFFF ∷ [])) 65,
      draws 65535 (pos 0) 65535 false 1 (0x8000 ∷ []),
    )
    ∷ []

-- dots from a picture's second column, from behind its last, and of a row past its body's height
unfoldable pub dot_limits : List Row
dot_limits = (dots speakers 65 1 1, 0xC000) ∷ (dots speakers 65 3 4, 0) ∷ (dots speakers 65 4 0, 0) ∷ []

-- what a refused index answers, and rows of bodies at those limits
unfoldable pub limit_seen : List (Seen × Seen)
limit_seen =
    let lost = set (set kerned_index 11 0x0100) 22 0xFFFF in
    -- no row; 16 before 10 in words and in bytes; 14 before it; 16 before 9 and 12, with nothing altered
    (held_in lost 0 0, holds [])
    ∷ (measured lost (pos 1024) (65 ∷ []), replies (refused 16))
    ∷ (spelt_measured lost (pos 1024) (65 ∷ []), replies (refused 16))
    ∷ (replies (measure_file (bytes_of lost ++ 0 ∷ []) (pos 0) (65 ∷ [])), replies (refused 14))
    ∷ (painted tall lost (label_of 32 (pos 0) (pos 1) 3) (65 ∷ []) 0xA5A5, comes (paints (refused 16) (words_on tall [] 0xA5A5)))
    ∷ (gathered tall lost (label_of 1 (pos 0) (pos 1) 0) (65 ∷ []), comes (gathers (words_on tall [] 0xFFFF) (words_on tall [] 0)))
    -- 15: a font without a body has no row, and is measured and painted by none
    ∷ (held_in (set plain_index 6 0) 0 0, holds [])
    ∷ (measured (set plain_index 6 0) (pos 0) (65 ∷ []), replies (refused 15))
    ∷ (
      painted tall (set plain_index 6 0) (label_of 1 (pos 0) (pos 1) 0) (65 ∷ []) 0xA5A5,
      comes (paints (refused 15) (words_on tall [] 0xA5A5)),
    )
    -- the second body that no entry names
    ∷ (held_in two_bodies 1 0, holds (0x4000 ∷ []))
    -- the last row of 256, and one past it
    ∷ (held_in (with_body (263 ∷ 0 ∷ 256 ∷ 0 ∷ 1 ∷ replicate 256 0x8000 ++ 0 ∷ 2 ∷ [])) 0 255, holds (0x8000 ∷ []))
    ∷ (held_in (with_body (263 ∷ 0 ∷ 256 ∷ 0 ∷ 1 ∷ replicate 256 0x8000 ++ 0 ∷ 2 ∷ [])) 0 256, holds [])
    ∷ []

-- The order

-- a word behind the file
abbrev pub word_too_many : Flaw (List ℕ)
word_too_many = record { number = 5; spoil = λ file. file ++ 0 ∷ []; cuts = false; tabled = true }

-- a flaw for each test, in their order
unfoldable pub plain_flaws : List (Flaw (List ℕ))
plain_flaws =
    -- under 9 words; the lowest bit; codes over 255; no body; under n + 8 words
    cut_to 8
    ∷ put 2 0 0xC001
    ∷ over_codes
    ∷ put 15 6 0
    ∷ cut_to 9
    -- body 0: xoffset; a length that leaves one pointer; pointers that fall
    ∷ in_tables 4 13 1
    ∷ in_tables 5 10 7
    ∷ in_tables 6 16 3
    -- body 1: the same, but for a word left over
    ∷ in_tables 4 21 1
    ∷ word_too_many
    ∷ in_tables 6 24 4
    -- code 65 names no body; the dummy is absent
    ∷ in_tables 16 7 0x0200
    ∷ in_tables 7 9 0x8000
    ∷ []

unfoldable pub kerned_flaws : List (Flaw (List ℕ))
kerned_flaws =
    -- under 9 words; the lowest bit; under 13 words; codes over 255; no body; under n + 12 words; FBBox
    cut_to 8
    ∷ put 2 0 0xD001
    ∷ cut_to 12
    ∷ over_codes
    ∷ put 15 10 0
    ∷ cut_to 13
    ∷ put 4 4 256
    -- body 0
    ∷ in_tables 4 17 1
    ∷ in_tables 5 14 7
    ∷ in_tables 6 20 3
    -- body 1
    ∷ in_tables 4 25 1
    ∷ word_too_many
    ∷ in_tables 6 28 4
    -- code 65 names no body; the dummy's width entry is FFFF
    ∷ in_tables 16 11 0x0200
    ∷ in_tables 7 32 0xFFFF
    ∷ []

-- everything wrong from some test on: the first of them decides
module _ {A : Type 0} (number_of : A → ℕ) (good : A) where
  unfoldable pub all_spoilt : List (Flaw A) → A
  all_spoilt [] = good
  all_spoilt (first ∷ others) = first.spoil (all_spoilt others)

  unfoldable pub from_each : List (Flaw A) → List Row
  from_each [] = (number_of good, 0) ∷ []
  from_each (first ∷ others) = (number_of (all_spoilt (first ∷ others)), first.number) ∷ from_each others

-- spoilt in every way from some test on; then in one way, and in every two
unfoldable pub plain_order : List Row
plain_order = from_each font_number plain_two plain_flaws ++ in_order font_number plain_two plain_flaws

unfoldable pub kerned_order : List Row
kerned_order = from_each font_number kerned_two kerned_flaws ++ in_order font_number kerned_two kerned_flaws

-- 15, 16 and 7 before the numbers of a label call, and in bytes behind 14
unfoldable pub call_order : List Row
call_order =
    in_order painted_by (asked_with plain_two)
    (on_font (put 15 6 0) ∷ on_font (in_tables 16 7 0x0200) ∷ on_font (in_tables 7 9 0x8000) ∷ paint_flaws)
    ++ in_order measured_by (asked_with kerned_two)
    (byte_too_many ∷ on_font (put 15 10 0) ∷ on_font (in_tables 16 11 0x0200) ∷ on_font (in_tables 7 32 0xFFFF) ∷ measure_flaws)

-- Many bodies and large ones

-- "up to 128 bodies": all there, of which 65 names the last; and 127, where the same entry names none
unfoldable pub many_limits : List Row
many_limits = reads (many_bodies 128) 0 ∷ reads (many_bodies 127) 16 ∷ []

unfoldable pub many_seen : List (Seen × Seen)
many_seen = (holds (row_of (many_bodies 128) 127 0), holds (0x8000 ∷ [])) ∷ (holds (row_of (many_bodies 128) 128 0), holds []) ∷ []

unfoldable pub many_pictures : List (Drawn × Drawn)
many_pictures = (drawn (many_bodies 128) 65, draws 2 (pos 0) 2 false 1 (0x8000 ∷ [])) ∷ []

-- Two bodies of 32,775 words each, so that the second ends past word 65,536: 128 rows of 256 words. Its only dot is the very last of its
-- bitmap, in column 4,095.
abbrev pub large_index : ℕ → List ℕ
large_index last =
    0xC000 ∷ 65 ∷ 66 ∷ 1 ∷ 128 ∷ 0 ∷ 2
    ∷ 0x0000 ∷ 0x0100 ∷ 0x0100
    ∷ 0x8007 ∷ 128 ∷ 0 ∷ 0 ∷ 256 ∷ 0x8000 ∷ replicate 32767 0 ++ 0 ∷ 1
    ∷ 0x8007 ∷ 128 ∷ 0 ∷ 0 ∷ 256 ∷ replicate 32767 0 ++ 0x0001 ∷ 0x0FFF ∷ replicate last 0x1000

unfoldable pub large_limits : List Row
large_limits =
    -- accepted; and one word short
    reads (large_index 1) 0
    ∷ reads (large_index 0) 5
    ∷ []

unfoldable pub large_dots : List Row
large_dots =
    -- the first dot of 65, and below it none; the last dot of 66, and above it none
    (dots (large_index 1) 65 0 0, 0x8000)
    ∷ (dots (large_index 1) 65 127 0, 0)
    ∷ (dots (large_index 1) 66 0 0, 0)
    ∷ (dots (large_index 1) 66 127 0, 0x8000)
    ∷ []

unfoldable pub large_rows : List (Seen × Seen)
large_rows =
    -- the first row of the first body; the last of the second, and one past it
    (held_in (large_index 1) 0 0, holds (0x8000 ∷ replicate 255 0))
    ∷ (held_in (large_index 1) 1 127, holds (replicate 255 0 ++ 0x0001 ∷ []))
    ∷ (held_in (large_index 1) 1 128, holds [])
    ∷ []

-- P2 with an index: the labels above painted with counts

abbrev pub counting : List ℕ → Label → List ℕ → PanelCall
counting font label text = painting (call_of font label text)

unfoldable pub counted : List CountRow
counted =
    -- thirteen dots of three bodies
    does tall (counting speakers (at_three 0) name) (words_on tall [] 0) (counts [])
    (words_on tall ((0, 0x0008) ∷ (20, 0x0038) ∷ (40, 0x003A) ∷ (60, 0x000C) ∷ (61, 0xC000) ∷ (81, 0x4000) ∷ []) 0)
    (counts ((1, 13) ∷ []))
    -- refused 16 hands back the counts given
    ∷ refused_by 16 tall (counting (set plain_index 7 0x0100) (at_three 0) (65 ∷ [])) (words_on tall [] 0) (counts ((0, 7) ∷ []))
    ∷ []

unfoldable pub kerned_counted : List CountRow
kerned_counted =
    -- sixteen dots: where 64 and 65 meet, a dot counts once
    does by_words (counting kerned_shared (from_one 0) kerned_name) (words_on by_words [] 0) (counts [])
    (words_on by_words ((1, 0x8010) ∷ (33, 0x02A8) ∷ (65, 0x8158) ∷ (97, 0x03E0) ∷ []) 0) (counts ((1, 16) ∷ []))
    ∷ []
