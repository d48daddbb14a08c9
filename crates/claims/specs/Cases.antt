-- The worked cases: the paper's "A small font and what it does", C1 to C10, and a second table for an error that those let pass.
use Rattle.std.specs.Prelude.{ℕ, List, [], ◌∷◌, ℤ, pos, negsuc, replicate, set}
use Rattle.std.specs.declared.result.Result.TheVariants.{Ok, Err}
use Rattle.words.specs.Refusal.{refusal_of}
use Rattle.words.specs.Word.{bytes_of}
use Rattle.convert.specs.Conversion.{program_output}
use Rattle.paint.specs.declared.Shape.{Shape}
use Rattle.paint.specs.Label.{Call, Reply, reply_of, paint_after}
use Rattle.paint.specs.Sheet.{Sheet}
use Rattle.sheets.specs.Sheet.{fresh_after, join_after, apply_after}
use Rattle.sheets.specs.Calls.{gather_all}

-- what a case does, and what comes of it
pub data Deed : Type 0 where
  convert : List ℕ → Deed
  paint : Call → Deed
  gather : List Call → Deed
  join : List Call → List Call → Deed
  apply : List Call → Deed

pub data Outcome : Type 0 where
  prints : List ℕ → Outcome
  paints : Reply → List ℕ → Outcome
  gathers : List ℕ → List ℕ → Outcome
  applies : List ℕ → Outcome

-- "R = 8, H = 3, W = 4, an all-zero panel"
abbrev pub shape : Shape
shape = record { rowwords = 8; rows = 3; width = 4 }

abbrev pub words : List (ℕ × ℕ) → ℕ → List ℕ
words [] other = replicate 24 other
words (w ∷ ws) other = set (words ws other) w.0 w.1

-- a sheet of words that making it fresh has to write over
abbrev pub lent : Sheet
lent = record { keep = replicate 24 0x1234; flip = replicate 24 0x5678 }

unfoldable pub sheet_from : List Call → Sheet
sheet_from calls = gather_all shape calls (fresh_after shape lent)

unfoldable pub done : Deed → Outcome
done (convert bytes) = prints (program_output bytes)
done (paint call) = paints (reply_of shape (24 ∷ []) call) (paint_after shape call (words [] 0))
done (gather calls) = let sheet = sheet_from calls in gathers sheet.keep sheet.flip
done (join calls more) = let sheet = join_after shape (sheet_from calls) (sheet_from more) in gathers sheet.keep sheet.flip
done (apply calls) = applies (apply_after shape (sheet_from calls) (words [] 0xFFFF))

-- "CU, hexadecimal: 0003 0001; 0041 0004 2000 5000 0000; 0042 0000 0000 8000 8000; 0044 0002 0000 0000 0000."
unfoldable pub small_cu : List ℕ
small_cu =
    0x0003 ∷ 0x0001
    ∷ 0x0041 ∷ 0x0004 ∷ 0x2000 ∷ 0x5000 ∷ 0x0000
    ∷ 0x0042 ∷ 0x0000 ∷ 0x0000 ∷ 0x8000 ∷ 0x8000
    ∷ 0x0044 ∷ 0x0002 ∷ 0x0000 ∷ 0x0000 ∷ 0x0000 ∷ []

-- "exactly these 27 words"
unfoldable pub small_font : List ℕ
small_font =
    0x9000 ∷ 0x0041 ∷ 0x0044 ∷ 0x0004 ∷ 0xFFFF ∷ 0xFFFF ∷ 0x0004 ∷ 0x0003
    ∷ 0x000E ∷ 0x0002 ∷ 0x0001 ∷ 0x0000 ∷ 0x0001
    ∷ 0x4F00 ∷ 0xBF00 ∷ 0x1F00
    ∷ 0x0000 ∷ 0x0003 ∷ 0x0004 ∷ 0x0004 ∷ 0x0004 ∷ 0x0008
    ∷ 0x0104 ∷ 0x0000 ∷ 0xFFFF ∷ 0x0102 ∷ 0x0004 ∷ []

-- "y = 2"; with a mode by its number
abbrev pub label : ℕ → ℤ → ℕ → List ℕ → Call
label strip x mode codes =
    record {
      font = small_font;
      label = record { strip = strip; x = x; y = pos 2; mode = mode };
      text = codes;
    }

abbrev pub ends : ℤ → ℕ → Reply
ends pen substitutes = Ok (record { pen = pen; substitutes = substitutes })

-- the refusal of this number
abbrev pub refused : ℕ → Reply
refused number = Err (refusal_of number)

abbrev pub zeros : List ℕ
zeros = words [] 0

unfoldable pub cases : List (Deed × Outcome)
cases =
    -- C1. The conversion program prints from it exactly these 27 words as bytes
    (convert (bytes_of small_cu), prints (bytes_of small_font))
    -- C2. codes 66 65: word 7 = 0002, word 15 = 000D, word 23 = 0008; pen 5, substitutes 0
    ∷ (paint (label 31 (pos 1) 0 (66 ∷ 65 ∷ [])), paints (ends (pos 5) 0) (words ((7, 0x0002) ∷ (15, 0x000D) ∷ (23, 0x0008) ∷ []) 0))
    -- C3. the same, strip 32: refused 9
    ∷ (paint (label 32 (pos 1) 0 (66 ∷ 65 ∷ [])), paints (refused 9) zeros)
    -- C4. code 67: words 7, 15, 23 = 000F; pen 5, substitutes 1
    ∷ (paint (label 31 (pos 1) 0 (67 ∷ [])), paints (ends (pos 5) 1) (words ((7, 0x000F) ∷ (15, 0x000F) ∷ (23, 0x000F) ∷ []) 0))
    -- C5. code 65, x = 3: word 15 = 0001 only; pen 7
    ∷ (paint (label 31 (pos 3) 0 (65 ∷ [])), paints (ends (pos 7) 0) (words ((15, 0x0001) ∷ []) 0))
    -- C6. code 65, x = -3, strip 0: no dot, pen 1
    ∷ (paint (label 0 (negsuc 2) 0 (65 ∷ [])), paints (ends (pos 1) 0) zeros)
    -- C7. codes 66 66, Invert: no dot, pen 1
    ∷ (paint (label 31 (pos 1) 2 (66 ∷ 66 ∷ [])), paints (ends (pos 1) 0) zeros)
    -- C8. no codes: no dot, pen 1
    ∷ (paint (label 31 (pos 1) 0 []), paints (ends (pos 1) 0) zeros)
    -- C9. code 68: no dot, pen 3, substitutes 0
    ∷ (paint (label 31 (pos 1) 0 (68 ∷ [])), paints (ends (pos 3) 0) zeros)
    -- C10. Fresh sheet, Paint 66 then Erase 66: keep FFF7 at words 15 and 23, FFFF elsewhere, flip 0
    ∷ (
      gather (label 31 (pos 1) 0 (66 ∷ []) ∷ label 31 (pos 1) 1 (66 ∷ []) ∷ []),
      gathers (words ((15, 0xFFF7) ∷ (23, 0xFFF7) ∷ []) 0xFFFF) zeros,
    )
    ∷ []

-- Two errors that those let pass. "Clipping to the panel in place of the strip": strip 31 ends where the panel ends and strip 0 begins
-- where it begins, so C5 and C6 do not tell the two apart. "Joining sheets in the wrong order": C10 joins no two sheets.
unfoldable pub more_cases : List (Deed × Outcome)
more_cases =
    -- as C5, in strip 30: the picture's last dots would fall into strip 31
    (paint (label 30 (pos 3) 0 (65 ∷ [])), paints (ends (pos 7) 0) (words ((15, 0x0010) ∷ []) 0))
    -- as C6, in strip 1: its dots would fall into strip 0
    ∷ (paint (label 1 (negsuc 2) 0 (65 ∷ [])), paints (ends (pos 1) 0) zeros)
    -- as C10, cut in two: the sheet of Paint 66, joined by that of Erase 66
    ∷ (
      join (label 31 (pos 1) 0 (66 ∷ []) ∷ []) (label 31 (pos 1) 1 (66 ∷ []) ∷ []),
      gathers (words ((15, 0xFFF7) ∷ (23, 0xFFF7) ∷ []) 0xFFFF) zeros,
    )
    -- and the sheet of C10, applied to a panel of ones
    ∷ (
      apply (label 31 (pos 1) 0 (66 ∷ []) ∷ label 31 (pos 1) 1 (66 ∷ []) ∷ []),
      applies (words ((15, 0xFFF7) ∷ (23, 0xFFF7) ∷ []) 0xFFFF),
    )
    ∷ []
