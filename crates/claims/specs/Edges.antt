-- P5: painting alters a word of the panel as a whole, by dots from two neighbouring words of the strike. These calls are where that could
-- go wrong, at the edges of pictures, strips and words: pictures of 1, 15, 16, 17 and 33 columns, begun at bits 0, 1 and 15 of a strike
-- word, placed at the columns -1, 0, 1 and W - 1 of a strip, in each mode. What comes of them was worked out from the paper dot by dot.
use Rattle.std.specs.Prelude.{ℕ, ◌+◌, ◌-◌, ◌*◌, List, [], ◌∷◌, ◌++◌, ℤ, pos, negsuc, ◌+ℤ◌, replicate, set, length}
use Rattle.paint.specs.declared.Shape.{Shape}
use Rattle.paint.specs.Panel.{panel_words}
use Rattle.paint.specs.Label.{Call, call_of, reply_of, paint_after}
use Rattle.paint.specs.Sheet.{Sheet}
use Rattle.sheets.specs.Sheet.{gather_after}
use Rattle.claims.specs.Cases.{Outcome, paints, gathers, ends}

-- Panels for pictures of 1, of 15 to 17 and of 33 columns. W is so large that such a picture ends inside the strip where it begins at
-- column 1, R is the least that is accepted, and the larger ones have one row, so that all of this is computed in seconds; `deep` has two.
-- Strip 5 begins with the last bit of a word and ends with the second bit of another; between them are no word, word 6, and the words 11
-- and 12. Strip 11 begins with the second bit of a word.
abbrev pub panel_of : ℕ → ℕ → Shape
panel_of width rows = record { rowwords = 2 * width; rows = rows; width = width }

abbrev pub narrow : Shape
narrow = panel_of 3 2

abbrev pub middle : Shape
middle = panel_of 19 1

abbrev pub wide : Shape
wide = panel_of 35 1

abbrev pub deep : Shape
deep = panel_of 19 2

-- what a panel holds before: where its first row has a dot, its second has none
abbrev pub before : Shape → List ℕ
before s = replicate s.rowwords 0x5A5A ++ replicate (s.rowwords * (s.rows - 1)) 0xA5A5

-- the same with some words changed
abbrev pub changed : List (ℕ × ℕ) → List ℕ → List ℕ
changed [] words = words
changed (w ∷ ws) words = set (changed ws words) w.0 w.1

-- A PlainStrike of the code 65, five words a row and two rows high. Its picture is so many columns from column `begin` on: 0, 17 or 47.
-- In row 1 the first and the last column of each picture are dots, and those beside it are too, but for what is behind the strike's end.
unfoldable pub font : ℕ → ℕ → List ℕ
font columns begin =
    0x8000 ∷ 0x0041 ∷ 0x0041 ∷ columns
    -- length 5 × 2 + 1 + 7, ascent, descent, xoffset, raster
    ∷ 0x0012 ∷ 0x0001 ∷ 0x0001 ∷ 0x0000 ∷ 0x0005
    ∷ 0x58D1 ∷ 0xA4B1 ∷ 0xE912 ∷ 0xA687 ∷ 0xB12D
    ∷ 0xC58B ∷ 0xE275 ∷ 0xE6A7 ∷ 0xE857 ∷ 0xD713
    ∷ begin ∷ (begin + columns) ∷ 0x0050 ∷ []

-- its picture with row 1 in the last row of the panel: where that is the only one, row 0 falls off
abbrev pub call_for : Shape → ℕ → ℕ → ℕ → ℤ → ℕ → Call
call_for s strip columns begin x mode =
    call_of (font columns begin) (record { strip = strip; x = x; y = pos (s.rows - 1); mode = mode }) (65 ∷ [])

-- A row: the picture's columns, where it begins in the strike, where it is placed in strip 5, the mode, and the words of the panel that
-- change. No other word of it does.
unfoldable pub painted : Shape → ℕ → ℕ → ℤ → ℕ → List (ℕ × ℕ) → Outcome × Outcome
painted s columns begin x mode words =
    let lent = before s in
    let call = call_for s 5 columns begin x mode in (
      paints (reply_of s (length lent ∷ []) call) (paint_after s call lent),
      paints (ends (x +ℤ pos columns) 0) (changed words lent),
    )

-- the same on a fresh sheet, in strip 11: the words of keep, and those of flip, that change
unfoldable pub gathered : Shape → ℕ → ℕ → ℤ → ℕ → List (ℕ × ℕ) → List (ℕ × ℕ) → Outcome × Outcome
gathered s columns begin x mode keep flip =
    let fresh : Sheet = record { keep = replicate (panel_words s) 0xFFFF; flip = replicate (panel_words s) 0 } in
    let sheet = gather_after s (call_for s 11 columns begin x mode) fresh in
    (gathers sheet.keep sheet.flip, gathers (changed keep fresh.keep) (changed flip fresh.flip))

unfoldable pub one_wide : List (Outcome × Outcome)
one_wide =
    painted narrow 1 0 (negsuc 0) 0 []
    ∷ painted narrow 1 0 (negsuc 0) 1 []
    ∷ painted narrow 1 0 (negsuc 0) 2 []
    ∷ painted narrow 1 0 (pos 0) 0 []
    ∷ painted narrow 1 0 (pos 0) 1 ((6, 0xA5A4) ∷ [])
    ∷ painted narrow 1 0 (pos 0) 2 ((6, 0xA5A4) ∷ [])
    ∷ painted narrow 1 0 (pos 1) 0 []
    ∷ painted narrow 1 0 (pos 1) 1 ((7, 0x25A5) ∷ [])
    ∷ painted narrow 1 0 (pos 1) 2 ((7, 0x25A5) ∷ [])
    ∷ painted narrow 1 0 (pos 2) 0 ((7, 0xE5A5) ∷ [])
    ∷ painted narrow 1 0 (pos 2) 1 []
    ∷ painted narrow 1 0 (pos 2) 2 ((7, 0xE5A5) ∷ [])
    ∷ painted narrow 1 17 (negsuc 0) 0 []
    ∷ painted narrow 1 17 (negsuc 0) 1 []
    ∷ painted narrow 1 17 (negsuc 0) 2 []
    ∷ painted narrow 1 17 (pos 0) 0 []
    ∷ painted narrow 1 17 (pos 0) 1 ((6, 0xA5A4) ∷ [])
    ∷ painted narrow 1 17 (pos 0) 2 ((6, 0xA5A4) ∷ [])
    ∷ painted narrow 1 17 (pos 1) 0 []
    ∷ painted narrow 1 17 (pos 1) 1 ((7, 0x25A5) ∷ [])
    ∷ painted narrow 1 17 (pos 1) 2 ((7, 0x25A5) ∷ [])
    ∷ painted narrow 1 17 (pos 2) 0 ((7, 0xE5A5) ∷ [])
    ∷ painted narrow 1 17 (pos 2) 1 []
    ∷ painted narrow 1 17 (pos 2) 2 ((7, 0xE5A5) ∷ [])
    ∷ painted narrow 1 47 (negsuc 0) 0 []
    ∷ painted narrow 1 47 (negsuc 0) 1 []
    ∷ painted narrow 1 47 (negsuc 0) 2 []
    ∷ painted narrow 1 47 (pos 0) 0 []
    ∷ painted narrow 1 47 (pos 0) 1 ((6, 0xA5A4) ∷ [])
    ∷ painted narrow 1 47 (pos 0) 2 ((6, 0xA5A4) ∷ [])
    ∷ painted narrow 1 47 (pos 1) 0 []
    ∷ painted narrow 1 47 (pos 1) 1 ((7, 0x25A5) ∷ [])
    ∷ painted narrow 1 47 (pos 1) 2 ((7, 0x25A5) ∷ [])
    ∷ painted narrow 1 47 (pos 2) 0 ((7, 0xE5A5) ∷ [])
    ∷ painted narrow 1 47 (pos 2) 1 []
    ∷ painted narrow 1 47 (pos 2) 2 ((7, 0xE5A5) ∷ [])
    ∷ []

unfoldable pub fifteen_wide : List (Outcome × Outcome)
fifteen_wide =
    painted middle 15 0 (negsuc 0) 0 ((5, 0x5A5B) ∷ (6, 0x5E7A) ∷ [])
    ∷ painted middle 15 0 (negsuc 0) 1 ((6, 0x4852) ∷ [])
    ∷ painted middle 15 0 (negsuc 0) 2 ((5, 0x5A5B) ∷ (6, 0x4C72) ∷ [])
    ∷ painted middle 15 0 (pos 0) 0 ((5, 0x5A5B) ∷ (6, 0xDB5E) ∷ [])
    ∷ painted middle 15 0 (pos 0) 1 ((6, 0x504A) ∷ [])
    ∷ painted middle 15 0 (pos 0) 2 ((5, 0x5A5B) ∷ (6, 0xD14E) ∷ [])
    ∷ painted middle 15 0 (pos 1) 0 ((6, 0xDFDA) ∷ [])
    ∷ painted middle 15 0 (pos 1) 1 ((6, 0x1A50) ∷ [])
    ∷ painted middle 15 0 (pos 1) 2 ((6, 0x9FD0) ∷ [])
    ∷ painted middle 15 0 (pos 18) 0 []
    ∷ painted middle 15 0 (pos 18) 1 ((7, 0x1A5A) ∷ [])
    ∷ painted middle 15 0 (pos 18) 2 ((7, 0x1A5A) ∷ [])
    ∷ painted middle 15 17 (negsuc 0) 0 ((5, 0x5A5B) ∷ (6, 0x5BFA) ∷ [])
    ∷ painted middle 15 17 (negsuc 0) 1 ((6, 0x4852) ∷ [])
    ∷ painted middle 15 17 (negsuc 0) 2 ((5, 0x5A5B) ∷ (6, 0x49F2) ∷ [])
    ∷ painted middle 15 17 (pos 0) 0 ((5, 0x5A5B) ∷ (6, 0xDBDE) ∷ [])
    ∷ painted middle 15 17 (pos 0) 1 ((6, 0x520A) ∷ [])
    ∷ painted middle 15 17 (pos 0) 2 ((5, 0x5A5B) ∷ (6, 0xD38E) ∷ [])
    ∷ painted middle 15 17 (pos 1) 0 ((6, 0xDEFA) ∷ [])
    ∷ painted middle 15 17 (pos 1) 1 ((6, 0x1A10) ∷ [])
    ∷ painted middle 15 17 (pos 1) 2 ((6, 0x9EB0) ∷ [])
    ∷ painted middle 15 17 (pos 18) 0 []
    ∷ painted middle 15 17 (pos 18) 1 ((7, 0x1A5A) ∷ [])
    ∷ painted middle 15 17 (pos 18) 2 ((7, 0x1A5A) ∷ [])
    ∷ painted middle 15 47 (negsuc 0) 0 ((5, 0x5A5B) ∷ (6, 0xDAFA) ∷ [])
    ∷ painted middle 15 47 (negsuc 0) 1 ((6, 0x0A52) ∷ [])
    ∷ painted middle 15 47 (negsuc 0) 2 ((5, 0x5A5B) ∷ (6, 0x8AF2) ∷ [])
    ∷ painted middle 15 47 (pos 0) 0 ((5, 0x5A5B) ∷ (6, 0xFA5E) ∷ [])
    ∷ painted middle 15 47 (pos 0) 1 ((6, 0x120A) ∷ [])
    ∷ painted middle 15 47 (pos 0) 2 ((5, 0x5A5B) ∷ (6, 0xB20E) ∷ [])
    ∷ painted middle 15 47 (pos 1) 0 ((6, 0xFE7A) ∷ [])
    ∷ painted middle 15 47 (pos 1) 1 ((6, 0x0A50) ∷ [])
    ∷ painted middle 15 47 (pos 1) 2 ((6, 0xAE70) ∷ [])
    ∷ painted middle 15 47 (pos 18) 0 []
    ∷ painted middle 15 47 (pos 18) 1 ((7, 0x1A5A) ∷ [])
    ∷ painted middle 15 47 (pos 18) 2 ((7, 0x1A5A) ∷ [])
    ∷ []

unfoldable pub sixteen_wide : List (Outcome × Outcome)
sixteen_wide =
    painted middle 16 0 (negsuc 0) 0 ((5, 0x5A5B) ∷ (6, 0x5E7E) ∷ [])
    ∷ painted middle 16 0 (negsuc 0) 1 ((6, 0x4852) ∷ [])
    ∷ painted middle 16 0 (negsuc 0) 2 ((5, 0x5A5B) ∷ (6, 0x4C76) ∷ [])
    ∷ painted middle 16 0 (pos 0) 0 ((5, 0x5A5B) ∷ (6, 0xDB5E) ∷ [])
    ∷ painted middle 16 0 (pos 0) 1 ((6, 0x5048) ∷ [])
    ∷ painted middle 16 0 (pos 0) 2 ((5, 0x5A5B) ∷ (6, 0xD14C) ∷ [])
    ∷ painted middle 16 0 (pos 1) 0 ((6, 0xDFDB) ∷ [])
    ∷ painted middle 16 0 (pos 1) 1 ((6, 0x1A50) ∷ [])
    ∷ painted middle 16 0 (pos 1) 2 ((6, 0x9FD1) ∷ [])
    ∷ painted middle 16 0 (pos 18) 0 []
    ∷ painted middle 16 0 (pos 18) 1 ((7, 0x1A5A) ∷ [])
    ∷ painted middle 16 0 (pos 18) 2 ((7, 0x1A5A) ∷ [])
    ∷ painted middle 16 17 (negsuc 0) 0 ((5, 0x5A5B) ∷ (6, 0x5BFE) ∷ [])
    ∷ painted middle 16 17 (negsuc 0) 1 ((6, 0x4852) ∷ [])
    ∷ painted middle 16 17 (negsuc 0) 2 ((5, 0x5A5B) ∷ (6, 0x49F6) ∷ [])
    ∷ painted middle 16 17 (pos 0) 0 ((5, 0x5A5B) ∷ (6, 0xDBDE) ∷ [])
    ∷ painted middle 16 17 (pos 0) 1 ((6, 0x5208) ∷ [])
    ∷ painted middle 16 17 (pos 0) 2 ((5, 0x5A5B) ∷ (6, 0xD38C) ∷ [])
    ∷ painted middle 16 17 (pos 1) 0 ((6, 0xDEFB) ∷ [])
    ∷ painted middle 16 17 (pos 1) 1 ((6, 0x1A10) ∷ [])
    ∷ painted middle 16 17 (pos 1) 2 ((6, 0x9EB1) ∷ [])
    ∷ painted middle 16 17 (pos 18) 0 []
    ∷ painted middle 16 17 (pos 18) 1 ((7, 0x1A5A) ∷ [])
    ∷ painted middle 16 17 (pos 18) 2 ((7, 0x1A5A) ∷ [])
    ∷ painted middle 16 47 (negsuc 0) 0 ((5, 0x5A5B) ∷ (6, 0xDAFE) ∷ [])
    ∷ painted middle 16 47 (negsuc 0) 1 ((6, 0x0A52) ∷ [])
    ∷ painted middle 16 47 (negsuc 0) 2 ((5, 0x5A5B) ∷ (6, 0x8AF6) ∷ [])
    ∷ painted middle 16 47 (pos 0) 0 ((5, 0x5A5B) ∷ (6, 0xFA5E) ∷ [])
    ∷ painted middle 16 47 (pos 0) 1 ((6, 0x1208) ∷ [])
    ∷ painted middle 16 47 (pos 0) 2 ((5, 0x5A5B) ∷ (6, 0xB20C) ∷ [])
    ∷ painted middle 16 47 (pos 1) 0 ((6, 0xFE7B) ∷ [])
    ∷ painted middle 16 47 (pos 1) 1 ((6, 0x0A50) ∷ [])
    ∷ painted middle 16 47 (pos 1) 2 ((6, 0xAE71) ∷ [])
    ∷ painted middle 16 47 (pos 18) 0 []
    ∷ painted middle 16 47 (pos 18) 1 ((7, 0x1A5A) ∷ [])
    ∷ painted middle 16 47 (pos 18) 2 ((7, 0x1A5A) ∷ [])
    ∷ []

unfoldable pub seventeen_wide : List (Outcome × Outcome)
seventeen_wide =
    painted middle 17 0 (negsuc 0) 0 ((5, 0x5A5B) ∷ (6, 0x5E7E) ∷ [])
    ∷ painted middle 17 0 (negsuc 0) 1 ((6, 0x4850) ∷ [])
    ∷ painted middle 17 0 (negsuc 0) 2 ((5, 0x5A5B) ∷ (6, 0x4C74) ∷ [])
    ∷ painted middle 17 0 (pos 0) 0 ((5, 0x5A5B) ∷ (6, 0xDB5F) ∷ [])
    ∷ painted middle 17 0 (pos 0) 1 ((6, 0x5048) ∷ [])
    ∷ painted middle 17 0 (pos 0) 2 ((5, 0x5A5B) ∷ (6, 0xD14D) ∷ [])
    ∷ painted middle 17 0 (pos 1) 0 ((6, 0xDFDB) ∷ (7, 0xDA5A) ∷ [])
    ∷ painted middle 17 0 (pos 1) 1 ((6, 0x1A50) ∷ [])
    ∷ painted middle 17 0 (pos 1) 2 ((6, 0x9FD1) ∷ (7, 0xDA5A) ∷ [])
    ∷ painted middle 17 0 (pos 18) 0 []
    ∷ painted middle 17 0 (pos 18) 1 ((7, 0x1A5A) ∷ [])
    ∷ painted middle 17 0 (pos 18) 2 ((7, 0x1A5A) ∷ [])
    ∷ painted middle 17 17 (negsuc 0) 0 ((5, 0x5A5B) ∷ (6, 0x5BFE) ∷ [])
    ∷ painted middle 17 17 (negsuc 0) 1 ((6, 0x4850) ∷ [])
    ∷ painted middle 17 17 (negsuc 0) 2 ((5, 0x5A5B) ∷ (6, 0x49F4) ∷ [])
    ∷ painted middle 17 17 (pos 0) 0 ((5, 0x5A5B) ∷ (6, 0xDBDF) ∷ [])
    ∷ painted middle 17 17 (pos 0) 1 ((6, 0x5208) ∷ [])
    ∷ painted middle 17 17 (pos 0) 2 ((5, 0x5A5B) ∷ (6, 0xD38D) ∷ [])
    ∷ painted middle 17 17 (pos 1) 0 ((6, 0xDEFB) ∷ (7, 0xDA5A) ∷ [])
    ∷ painted middle 17 17 (pos 1) 1 ((6, 0x1A10) ∷ [])
    ∷ painted middle 17 17 (pos 1) 2 ((6, 0x9EB1) ∷ (7, 0xDA5A) ∷ [])
    ∷ painted middle 17 17 (pos 18) 0 []
    ∷ painted middle 17 17 (pos 18) 1 ((7, 0x1A5A) ∷ [])
    ∷ painted middle 17 17 (pos 18) 2 ((7, 0x1A5A) ∷ [])
    ∷ painted middle 17 47 (negsuc 0) 0 ((5, 0x5A5B) ∷ (6, 0xDAFE) ∷ [])
    ∷ painted middle 17 47 (negsuc 0) 1 ((6, 0x0A50) ∷ [])
    ∷ painted middle 17 47 (negsuc 0) 2 ((5, 0x5A5B) ∷ (6, 0x8AF4) ∷ [])
    ∷ painted middle 17 47 (pos 0) 0 ((5, 0x5A5B) ∷ (6, 0xFA5F) ∷ [])
    ∷ painted middle 17 47 (pos 0) 1 ((6, 0x1208) ∷ [])
    ∷ painted middle 17 47 (pos 0) 2 ((5, 0x5A5B) ∷ (6, 0xB20D) ∷ [])
    ∷ painted middle 17 47 (pos 1) 0 ((6, 0xFE7B) ∷ (7, 0xDA5A) ∷ [])
    ∷ painted middle 17 47 (pos 1) 1 ((6, 0x0A50) ∷ [])
    ∷ painted middle 17 47 (pos 1) 2 ((6, 0xAE71) ∷ (7, 0xDA5A) ∷ [])
    ∷ painted middle 17 47 (pos 18) 0 []
    ∷ painted middle 17 47 (pos 18) 1 ((7, 0x1A5A) ∷ [])
    ∷ painted middle 17 47 (pos 18) 2 ((7, 0x1A5A) ∷ [])
    ∷ []

unfoldable pub thirty_three_wide : List (Outcome × Outcome)
thirty_three_wide =
    painted wide 33 0 (negsuc 0) 0 ((10, 0x5A5B) ∷ (11, 0x5E7F) ∷ (12, 0xDBDE) ∷ [])
    ∷ painted wide 33 0 (negsuc 0) 1 ((11, 0x4850) ∷ (12, 0x5208) ∷ [])
    ∷ painted wide 33 0 (negsuc 0) 2 ((10, 0x5A5B) ∷ (11, 0x4C75) ∷ (12, 0xD38C) ∷ [])
    ∷ painted wide 33 0 (pos 0) 0 ((10, 0x5A5B) ∷ (11, 0xDB5F) ∷ (12, 0xDEFB) ∷ [])
    ∷ painted wide 33 0 (pos 0) 1 ((11, 0x5048) ∷ (12, 0x1A10) ∷ [])
    ∷ painted wide 33 0 (pos 0) 2 ((10, 0x5A5B) ∷ (11, 0xD14D) ∷ (12, 0x9EB1) ∷ [])
    ∷ painted wide 33 0 (pos 1) 0 ((11, 0xDFDB) ∷ (12, 0xFA7F) ∷ (13, 0xDA5A) ∷ [])
    ∷ painted wide 33 0 (pos 1) 1 ((11, 0x1A50) ∷ (12, 0x180A) ∷ [])
    ∷ painted wide 33 0 (pos 1) 2 ((11, 0x9FD1) ∷ (12, 0xB82F) ∷ (13, 0xDA5A) ∷ [])
    ∷ painted wide 33 0 (pos 34) 0 []
    ∷ painted wide 33 0 (pos 34) 1 ((13, 0x1A5A) ∷ [])
    ∷ painted wide 33 0 (pos 34) 2 ((13, 0x1A5A) ∷ [])
    ∷ painted wide 33 17 (negsuc 0) 0 ((10, 0x5A5B) ∷ (11, 0x5BFF) ∷ (12, 0x7F7E) ∷ [])
    ∷ painted wide 33 17 (negsuc 0) 1 ((11, 0x4850) ∷ (12, 0x4A40) ∷ [])
    ∷ painted wide 33 17 (negsuc 0) 2 ((10, 0x5A5B) ∷ (11, 0x49F5) ∷ (12, 0x6F64) ∷ [])
    ∷ painted wide 33 17 (pos 0) 0 ((10, 0x5A5B) ∷ (11, 0xDBDF) ∷ (12, 0xDADF) ∷ [])
    ∷ painted wide 33 17 (pos 0) 1 ((11, 0x5208) ∷ (12, 0x4040) ∷ [])
    ∷ painted wide 33 17 (pos 0) 2 ((10, 0x5A5B) ∷ (11, 0xD38D) ∷ (12, 0xC0C5) ∷ [])
    ∷ painted wide 33 17 (pos 1) 0 ((11, 0xDEFB) ∷ (12, 0xDF5F) ∷ (13, 0xDA5A) ∷ [])
    ∷ painted wide 33 17 (pos 1) 1 ((11, 0x1A10) ∷ (12, 0x1210) ∷ [])
    ∷ painted wide 33 17 (pos 1) 2 ((11, 0x9EB1) ∷ (12, 0x9715) ∷ (13, 0xDA5A) ∷ [])
    ∷ painted wide 33 17 (pos 34) 0 []
    ∷ painted wide 33 17 (pos 34) 1 ((13, 0x1A5A) ∷ [])
    ∷ painted wide 33 17 (pos 34) 2 ((13, 0x1A5A) ∷ [])
    ∷ painted wide 33 47 (negsuc 0) 0 ((10, 0x5A5B) ∷ (11, 0xDAFF) ∷ (12, 0xFE7E) ∷ [])
    ∷ painted wide 33 47 (negsuc 0) 1 ((11, 0x0A50) ∷ (12, 0x5058) ∷ [])
    ∷ painted wide 33 47 (negsuc 0) 2 ((10, 0x5A5B) ∷ (11, 0x8AF5) ∷ (12, 0xF47C) ∷ [])
    ∷ painted wide 33 47 (pos 0) 0 ((10, 0x5A5B) ∷ (11, 0xFA5F) ∷ (12, 0xDF5B) ∷ [])
    ∷ painted wide 33 47 (pos 0) 1 ((11, 0x1208) ∷ (12, 0x0848) ∷ [])
    ∷ painted wide 33 47 (pos 0) 2 ((10, 0x5A5B) ∷ (11, 0xB20D) ∷ (12, 0x8D49) ∷ [])
    ∷ painted wide 33 47 (pos 1) 0 ((11, 0xFE7B) ∷ (12, 0xFBDB) ∷ (13, 0xDA5A) ∷ [])
    ∷ painted wide 33 47 (pos 1) 1 ((11, 0x0A50) ∷ (12, 0x1052) ∷ [])
    ∷ painted wide 33 47 (pos 1) 2 ((11, 0xAE71) ∷ (12, 0xB1D3) ∷ (13, 0xDA5A) ∷ [])
    ∷ painted wide 33 47 (pos 34) 0 []
    ∷ painted wide 33 47 (pos 34) 1 ((13, 0x1A5A) ∷ [])
    ∷ painted wide 33 47 (pos 34) 2 ((13, 0x1A5A) ∷ [])
    ∷ []

unfoldable pub two_rows : List (Outcome × Outcome)
two_rows =
    painted deep 17 0 (negsuc 0) 2 ((5, 0x5A5B) ∷ (6, 0x391C) ∷ (43, 0xA5A4) ∷ (44, 0xB38B) ∷ [])
    ∷ painted deep 17 0 (pos 0) 2 ((6, 0xEBF9) ∷ (43, 0xA5A4) ∷ (44, 0x2EB2) ∷ [])
    ∷ painted deep 17 0 (pos 1) 2 ((6, 0x028B) ∷ (7, 0xDA5A) ∷ (44, 0x602E) ∷ (45, 0x25A5) ∷ [])
    ∷ painted deep 17 0 (pos 18) 2 ((45, 0xE5A5) ∷ [])
    ∷ painted deep 17 17 (negsuc 0) 2 ((5, 0x5A5B) ∷ (6, 0x7FD4) ∷ (43, 0xA5A4) ∷ (44, 0xB60B) ∷ [])
    ∷ painted deep 17 17 (pos 0) 2 ((6, 0xC89D) ∷ (43, 0xA5A4) ∷ (44, 0x2C72) ∷ [])
    ∷ painted deep 17 17 (pos 1) 2 ((6, 0x1339) ∷ (7, 0xDA5A) ∷ (44, 0x614E) ∷ (45, 0x25A5) ∷ [])
    ∷ painted deep 17 17 (pos 18) 2 ((45, 0xE5A5) ∷ [])
    ∷ painted deep 17 47 (negsuc 0) 2 ((5, 0x5A5B) ∷ (6, 0x1754) ∷ (43, 0xA5A4) ∷ (44, 0x750B) ∷ [])
    ∷ painted deep 17 47 (pos 0) 2 ((6, 0xFCDD) ∷ (43, 0xA5A4) ∷ (44, 0x4DF2) ∷ [])
    ∷ painted deep 17 47 (pos 1) 2 ((6, 0x0919) ∷ (7, 0xDA5A) ∷ (44, 0x518E) ∷ (45, 0x25A5) ∷ [])
    ∷ painted deep 17 47 (pos 18) 2 ((45, 0xE5A5) ∷ [])
    ∷ []

unfoldable pub on_sheets : List (Outcome × Outcome)
on_sheets =
    gathered middle 17 0 (negsuc 0) 0 ((13, 0xBA74) ∷ (14, 0x7FFF) ∷ []) ((13, 0x458B) ∷ (14, 0x8000) ∷ [])
    ∷ gathered middle 17 0 (pos 0) 1 ((13, 0x9D3A) ∷ (14, 0x3FFF) ∷ []) []
    ∷ gathered middle 17 0 (pos 1) 2 [] ((13, 0x3162) ∷ (14, 0xE000) ∷ [])
    ∷ gathered middle 17 0 (pos 18) 0 ((14, 0xEFFF) ∷ []) ((14, 0x1000) ∷ [])
    ∷ gathered middle 17 17 (negsuc 0) 1 ((13, 0xBB14) ∷ (14, 0x7FFF) ∷ []) []
    ∷ gathered middle 17 17 (pos 0) 2 [] ((13, 0x6275) ∷ (14, 0xC000) ∷ [])
    ∷ gathered middle 17 17 (pos 1) 0 ((13, 0xCEC5) ∷ (14, 0x1FFF) ∷ []) ((13, 0x313A) ∷ (14, 0xE000) ∷ [])
    ∷ gathered middle 17 17 (pos 18) 1 ((14, 0xEFFF) ∷ []) []
    ∷ gathered middle 17 47 (negsuc 0) 2 [] ((13, 0x742B) ∷ (14, 0x8000) ∷ [])
    ∷ gathered middle 17 47 (pos 0) 0 ((13, 0x85EA) ∷ (14, 0x3FFF) ∷ []) ((13, 0x7A15) ∷ (14, 0xC000) ∷ [])
    ∷ gathered middle 17 47 (pos 1) 1 ((13, 0xC2F5) ∷ (14, 0x1FFF) ∷ []) []
    ∷ gathered middle 17 47 (pos 18) 2 [] ((14, 0x1000) ∷ [])
    ∷ gathered wide 33 0 (negsuc 0) 1 ((24, 0xBA74) ∷ (25, 0x1D8A) ∷ (26, 0x7FFF) ∷ []) []
    ∷ gathered wide 33 0 (pos 0) 2 [] ((24, 0x62C5) ∷ (25, 0xF13A) ∷ (26, 0xC000) ∷ [])
    ∷ gathered wide 33 0 (pos 1) 0 ((24, 0xCE9D) ∷ (25, 0x0762) ∷ (26, 0x9FFF) ∷ []) ((24, 0x3162) ∷ (25, 0xF89D) ∷ (26, 0x6000) ∷ [])
    ∷ gathered wide 33 0 (pos 34) 1 ((26, 0xEFFF) ∷ []) []
    ∷ gathered wide 33 17 (negsuc 0) 2 [] ((24, 0x44EB) ∷ (25, 0xCD4F) ∷ (26, 0x8000) ∷ [])
    ∷ gathered wide 33 17 (pos 0) 0 ((24, 0x9D8A) ∷ (25, 0x1958) ∷ (26, 0x3FFF) ∷ []) ((24, 0x6275) ∷ (25, 0xE6A7) ∷ (26, 0xC000) ∷ [])
    ∷ gathered wide 33 17 (pos 1) 1 ((24, 0xCEC5) ∷ (25, 0x0CAC) ∷ (26, 0x1FFF) ∷ []) []
    ∷ gathered wide 33 17 (pos 34) 2 [] ((26, 0x1000) ∷ [])
    ∷ gathered wide 33 47 (negsuc 0) 0 ((24, 0x8BD4) ∷ (25, 0x1476) ∷ (26, 0x7FFF) ∷ []) ((24, 0x742B) ∷ (25, 0xEB89) ∷ (26, 0x8000) ∷ [])
    ∷ gathered wide 33 47 (pos 0) 1 ((24, 0x85EA) ∷ (25, 0x0A3B) ∷ (26, 0x3FFF) ∷ []) []
    ∷ gathered wide 33 47 (pos 1) 2 [] ((24, 0x3D0A) ∷ (25, 0xFAE2) ∷ (26, 0x6000) ∷ [])
    ∷ gathered wide 33 47 (pos 34) 0 ((26, 0xEFFF) ∷ []) ((26, 0x1000) ∷ [])
    ∷ []

unfoldable pub edges : List (Outcome × Outcome)
edges = one_wide ++ fifteen_wide ++ sixteen_wide ++ seventeen_wide ++ thirty_three_wide ++ two_rows ++ on_sheets
