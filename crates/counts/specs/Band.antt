-- How a strip's lit dots are counted: by words, and in painting only in the rows that the label may reach. No public contract names it:
-- `proofs/Bands` says that it is the sum over the strip's dots.
use Rattle.std.specs.Prelude.{ℕ, zero, suc, ◌+◌, ◌-◌, ◌*◌, ◌/◌, ◌≤◌, ◌<◌, min, ◌≡◌, false, cond, ◌||◌, List, [], ◌∷◌, eqb, length, set}
use Rattle.std.specs.Int.Bits.{bit_and}
use Rattle.std.specs.Int.Count.{ones}
use Rattle.words.specs.Word.{word, over}
use Rattle.words.specs.Refusal.{first_of}
use Rattle.words.specs.Effect.{apply_to}
use Rattle.words.specs.Search.{sum_below, some_below}
use Rattle.words.specs.Place.{place_of}
use Rattle.fonts.specs.declared.View.{View}
use Rattle.fonts.specs.declared.Extent.{Extent}
use Rattle.fonts.specs.Strike.{view_of, extent_of}
use Rattle.fonts.specs.Reading.{font_number}
use Rattle.fonts.specs.Face.{face_from}
use Rattle.paint.specs.declared.Shape.{Shape}
use Rattle.paint.specs.declared.Label.{Label}
use Rattle.paint.specs.Panel.{strip_of}
use Rattle.paint.specs.Label.{Call, call_of, number_with, paint_with}
use Rattle.paint.specs.Reach.{from_column, upto_column}
use Rattle.paint.specs.Rule.{panel_dot}
use Rattle.paint.specs.Sheet.{Sheet, effect_at}
use Rattle.counts.specs.declared.Band.{Band}
use Rattle.counts.specs.declared.Rows.{Rows}
use Rattle.counts.specs.declared.LabelCall.{LabelCall}
use Rattle.counts.specs.declared.Tally.{Tally}
use Rattle.counts.specs.Lit.{over_dots, some_over, leaves}

-- the words that hold the columns of a strip, in n rows from a row on
unfoldable pub band_of : Shape → ℕ → ℕ → ℕ → Band
band_of s k row n =
    let strip = strip_of s k in
    record {
      rows = n;
      last = (strip.upto - 1) / 16 - strip.from / 16;
      head = from_column strip.from;
      tail = upto_column (strip.upto - 1);
      at = row * s.rowwords + strip.from / 16;
      rowwords = s.rowwords;
    }

-- the columns of the strip in word w of a row
unfoldable pub mask_of : Band → ℕ → ℕ
mask_of b w = bit_and (cond (eqb w 0) b.head 0xFFFF) (cond (eqb w b.last) b.tail 0xFFFF)

-- the lit dots of the strip in word w of n rows, and in the first m words of all its rows, where f says what each word is
unfoldable pub lit_in_word : Band → (ℕ → ℕ) → ℕ → ℕ → ℕ
lit_in_word b f w n = sum_below n (λ i. ones (bit_and (f (b.at + w + i * b.rowwords)) (mask_of b w)))

unfoldable pub lit_in_words : Band → (ℕ → ℕ) → ℕ → ℕ
lit_in_words b f m = sum_below m (λ w. lit_in_word b f w b.rows)

-- the lit dots of strip k in all its rows
abbrev pub lit_by : Shape → ℕ → (ℕ → ℕ) → ℕ
lit_by s k f = let b = band_of s k 0 s.rows in lit_in_words b f (b.last + 1)

-- what a sheet, applied, makes of word i
abbrev pub applied_word : Sheet → List ℕ → ℕ → ℕ
applied_word sheet panel i = apply_to (effect_at sheet i) (word panel i)

-- four words as one number, the first of them last
abbrev pub four_of : ℕ → ℕ → ℕ → ℕ → ℕ
four_of a b c d = ((d * 65536 + c) * 65536 + b) * 65536 + a

-- those from word i on, where f says what each word is
abbrev pub four_at : (ℕ → ℕ) → ℕ → ℕ
four_at f i = four_of (f i) (f (i + 1)) (f (i + 2)) (f (i + 3))

-- those from word i on are words
abbrev pub AreWords : (ℕ → ℕ) → ℕ → Type 0
AreWords f i = (f i < 65536) × (f (i + 1) < 65536) × (f (i + 2) < 65536) × (f (i + 3) < 65536)

-- the band is within what is lent
abbrev pub Inside : Band → ℕ → Type 0
Inside b room =
    (b.rows ≤ 256) × (b.last ≤ 255) × (b.rowwords ≤ 128) × (b.at ≤ 65535)
    × (b.at + b.rows * b.rowwords + b.last < room + b.rowwords)

-- the lit dots of strip k in n rows of a panel
abbrev pub lit_in : Shape → ℕ → ℕ → ℕ → List ℕ → ℕ
lit_in s k row n panel = over_dots (strip_of s k) row n (panel_dot s panel)

-- a font has been read, and is accepted
abbrev pub Read : View → List ℕ → Type 0
Read v font = (v ≡ view_of font) × (font_number font ≡ 0)

-- the rows that the pictures of a label may reach, with a font that has been read
abbrev pub first_row : Extent → Shape → Label → ℕ
first_row e s l = min s.rows (place_of l.y - (2048 + e.above))

abbrev pub end_row : Extent → Shape → Label → ℕ
end_row e s l = min s.rows (place_of l.y + e.above + e.below - (2048 + e.above))

unfoldable pub rows_reached : View → List ℕ → Shape → Label → Rows
rows_reached v font s l =
    let e = extent_of v font in
    record { first = first_row e s l; count = end_row e s l - first_row e s l }

-- the lit dots of its strip in these
unfoldable pub lit_reached : View → List ℕ → Shape → Label → List ℕ → ℕ
lit_reached v font s l panel = lit_in s l.strip (rows_reached v font s l).first (rows_reached v font s l).count panel

-- and those that the label, painted, leaves lit there
abbrev pub left_reached : View → List ℕ → Shape → Label → List ℕ → List ℕ → ℕ
left_reached v font s l text panel = lit_reached v font s l (paint_with (face_from v font) s l text panel)

-- ---- the same of a label call with its font

-- the call
abbrev pub call_in : LabelCall → Call
call_in c = call_of c.font.now c.label c.text.now

-- a panel accepts it, whatever the font
abbrev pub Accepted : LabelCall → List ℕ → Type 0
Accepted c panel = number_with c.shape (length panel ∷ []) c.label (length c.text.now) ≡ 0

-- the rows that it may reach
abbrev pub rows_of : LabelCall → Rows
rows_of c = rows_reached c.view c.font.now c.shape c.label

-- a panel as it leaves it
abbrev pub as_painted : LabelCall → List ℕ → List ℕ
as_painted c panel = paint_with (face_from c.view c.font.now) c.shape c.label c.text.now panel

-- the dots that it leaves lit in its rows
abbrev pub left_by : LabelCall → List ℕ → ℕ
left_by c panel = left_reached c.view c.font.now c.shape c.label c.text.now panel

-- ---- the counts

-- whatever a label leaves lit of some rows, the count of its strip stays what it may be
abbrev pub Sure : Shape → Tally → Type 0
Sure s t = (more : ℕ) → more ≤ s.width * t.rows.count → leaves (s.width * s.rows) t.held more t.lit ≡ false

-- a lent slice into which n words of a panel, from one place on, are copied to another
unfoldable pub copied_to : List ℕ → ℕ → ℕ → ℕ → List ℕ → List ℕ
copied_to panel from to zero lent = lent
copied_to panel from to (suc n) lent = set (copied_to panel from to n lent) (to + n) (word panel (from + n))

-- what applying and clearing answer, by the dots that they leave lit in each strip, and those that were lit
unfoldable pub settled_number : Shape → List ℕ → (ℕ → ℕ) → (ℕ → ℕ) → ℕ
settled_number s counts left lit =
    first_of ((some_over s counts || some_below 32 (λ k. leaves (s.width * s.rows) (word counts k) (left k) (lit k)), 30) ∷ [])

unfoldable pub settled_counts : List ℕ → (ℕ → ℕ) → (ℕ → ℕ) → List ℕ
settled_counts counts left lit = over 32 (λ k. word counts k + left k - lit k) counts
