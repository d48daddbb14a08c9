-- P5: "Within one character, walk row by row and touch each panel word once, taking the strike bits from two neighbouring words." What the
-- loops of painting and gathering do with one picture. No public contract names it: `proofs/Reaching` says that it is the painting rule.
use Rattle.std.specs.Prelude.{ℕ, zero, suc, ◌+◌, ◌-◌, ◌*◌, ◌/◌, ◌%◌, ◌^◌, ◌≤◌, ◌<◌, min, max, Bool, cond, ◌&&◌, List, eqb, ltb, set}
use Rattle.std.specs.Int.Bits.{bit_and}
use Rattle.words.specs.declared.Mode.{Mode}
use Rattle.words.specs.declared.Mode.TheVariants.{Paint, Erase, Invert}
use Rattle.words.specs.Word.{word}
use Rattle.words.specs.Effect.{effect_of, apply_to}
use Rattle.fonts.specs.declared.Glyph.{Glyph}
use Rattle.paint.specs.declared.Strip.{Strip}
use Rattle.paint.specs.declared.Stroke.{Stroke}
use Rattle.paint.specs.declared.Pen.{Pen}
use Rattle.paint.specs.declared.Reach.{Reach}

-- the rows of the panel that a picture reaches: from the first up to, and without, the second
abbrev pub first_row : Glyph → Stroke → ℕ
first_row g k = min k.rows (k.y - (2048 + g.ascent))

abbrev pub end_row : Glyph → Stroke → ℕ
end_row g k = min k.rows (k.y + g.height - (2048 + g.ascent))

-- where the left column of a picture goes, in columns counted from 4096 left of the panel
abbrev pub left_at : Glyph → Stroke → Pen → ℕ
left_at g k pen = pen.place + g.place + k.strip.from

-- the columns that a picture and its strip share, counted so
unfoldable pub shared : Glyph → Stroke → ℕ → Strip
shared g k left = record { from = max left (k.strip.from + 4096); upto = min (left + g.columns) (k.strip.upto + 4096) }

-- the columns of a word from the one of this place on, and up to it
abbrev pub from_column : ℕ → ℕ
from_column place = 0xFFFF / 2 ^ (place % 16)

abbrev pub upto_column : ℕ → ℕ
upto_column place = 0xFFFF - 0x7FFF / 2 ^ (place % 16)

-- the bit of the font that comes to lie on the first column of a word of the panel, of the picture's top row
abbrev pub bit_under : Glyph → ℕ → ℕ → ℕ
bit_under g left first = 16 * (g.bitmap + first) + g.first - left

-- what a picture reaches that has columns in its strip
unfoldable pub reach_over : Glyph → Stroke → ℕ → Strip → Reach
reach_over g k left columns =
    let first = columns.from / 16 in
    let end = columns.upto - 1 in
    record {
      rows = end_row g k - first_row g k;
      last = end / 16 - first;
      head = from_column columns.from;
      tail = upto_column end;
      at = first_row g k * k.rowwords + first - 256;
      rowwords = k.rowwords;
      source = bit_under g left first / 16 + (first_row g k + 2048 + g.ascent - k.y) * g.raster;
      shift = bit_under g left first % 16;
      raster = g.raster;
    }

abbrev pub nothing : Reach
nothing = record { rows = 0; last = 0; head = 0; tail = 0; at = 0; rowwords = 0; source = 0; shift = 0; raster = 0 }

unfoldable pub reach_of : Glyph → Stroke → Pen → Reach
reach_of g k pen =
    let left = left_at g k pen in
    let columns = shared g k left in
    cond (ltb columns.from columns.upto) (reach_over g k left columns) nothing

-- sixteen bits of two neighbouring words, and of a font from a bit of word i on
abbrev pub two_words : ℕ → ℕ → ℕ → ℕ
two_words high low shift = (high * 65536 + low) / 2 ^ (16 - shift) % 65536

abbrev pub window : List ℕ → ℕ → ℕ → ℕ
window font i shift = two_words (word font i) (word font (i + 1)) shift

-- the marks on word w of a row, whose dots begin in word `from` of the font: masked where the first word and the last are only in part
-- reached
unfoldable pub row_marks : List ℕ → Reach → ℕ → ℕ → ℕ
row_marks font r from w =
    let dots = bit_and (window font (from + w) r.shift) (cond (eqb w 0) r.head 0xFFFF) in
    cond (ltb w r.last) dots (bit_and dots r.tail)

-- a lent slice with marks on word i
abbrev pub marked : Mode → ℕ → ℕ → List ℕ → List ℕ
marked mode marks i lent = set lent i (apply_to (effect_of mode marks) (word lent i))

-- with the marks of a row on n words, from word `at` on
unfoldable pub row_drawn : List ℕ → Reach → Mode → ℕ → ℕ → ℕ → List ℕ → List ℕ
row_drawn font r mode from at zero lent = lent
row_drawn font r mode from at (suc n) lent = marked mode (row_marks font r from n) (at + n) (row_drawn font r mode from at n lent)

-- with those of row n of the picture
abbrev pub nth_row : List ℕ → Reach → Mode → ℕ → List ℕ → List ℕ
nth_row font r mode n lent = row_drawn font r mode (r.source + n * r.raster) (r.at + n * r.rowwords) (suc r.last) lent

-- and with those of its first n rows
unfoldable pub rows_drawn : List ℕ → Reach → Mode → ℕ → List ℕ → List ℕ
rows_drawn font r mode zero lent = lent
rows_drawn font r mode (suc n) lent = nth_row font r mode n (rows_drawn font r mode n lent)

-- what joining it does to the keep of a sheet: what is painted or erased is no longer kept
unfoldable pub rows_kept : List ℕ → Reach → Mode → List ℕ → List ℕ
rows_kept font r Paint lent = rows_drawn font r Erase r.rows lent
rows_kept font r Erase lent = rows_drawn font r Erase r.rows lent
rows_kept font r Invert lent = lent

-- the words of the font that have the dots of a picture, and their neighbours, are all there
unfoldable pub in_file : Reach → ℕ → Bool
in_file r words = ltb (r.source + (r.rows - 1) * r.raster + r.last + 1) words

-- so, and with so many words of each row behind the first
unfoldable pub spans_in : Reach → ℕ → ℕ → Bool
spans_in r last words = eqb r.last last && in_file r words

-- how far the dots of any glyph lie in a font
abbrev pub Nearby : Reach → Type 0
Nearby r = (r.source ≤ 17179869184) × (r.raster ≤ 65535) × (r.shift < 16)

-- what the reach of a picture promises, on a lent slice of so many words
abbrev pub Within : Reach → ℕ → Type 0
Within r room =
    (1 ≤ r.rows) × (r.rows ≤ 256) × (r.last ≤ 255)
    × (r.at + r.rows * r.rowwords + r.last < room + r.rowwords) × (r.rowwords ≤ 128)
    × (r.source ≤ 17179869184) × (r.raster ≤ 65535) × (r.shift < 16) × (r.at ≤ 65535)
