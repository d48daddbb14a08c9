-- What the reader looks at for a code in a font of either kind: without an index the two tables, at the code's own place and at the
-- dummy's, and with one the map. `proofs/Struck` and `Mapped` show that it is what every font shows (`Face.glyph_from`).
use Rattle.std.specs.Prelude.{ℕ, ◌-◌, Bool, true, false, cond, not, ◌&&◌, List}
use Rattle.fonts.specs.declared.Header.{Header}
use Rattle.fonts.specs.declared.View.{View}
use Rattle.fonts.specs.declared.Step.{Step}
use Rattle.fonts.specs.declared.Entry.{Entry}
use Rattle.fonts.specs.declared.Named.{Named}
use Rattle.fonts.specs.declared.Glyph.{Glyph}
use Rattle.words.specs.Word.{word}
use Rattle.fonts.specs.Strike.{kerned, codes, first_strike, strike_by, pointers_of, widths_of, map_of}
use Rattle.fonts.specs.Entry.{name_of, entry_with, entry_at, marked, struck, advance_of}
use Rattle.fonts.specs.Face.{in_range, picture_of, entry_in, glyph_by}

-- "from 13 the bitmap"; in a plain file "the bitmap from word 9"
unfoldable pub only_bitmap : Header → ℕ
only_bitmap h = cond (kerned h) 13 9

-- a code from min to max whose own entry says that it exists
unfoldable pub there : Header → Entry → ℕ → Bool
there h own c = in_range h c && struck h own

-- what is drawn for a code, by its own entry and the dummy's
unfoldable pub glyph_over : View → Entry → Entry → ℕ → Glyph
glyph_over v own dummy c =
    let h = v.header in
    picture_of h (record { bitmap = only_bitmap h; body = v.body }) (cond (there h own c) own dummy) (not (there h own c))

-- by the two tables: at a code's own place and at the dummy's
abbrev pub glyph_in : View → List ℕ → List ℕ → ℕ → Glyph
glyph_in v pointers widths c =
    glyph_over v (entry_at pointers widths (c - v.header.min)) (entry_at pointers widths (codes v.header)) c

-- what the two tables of a file say of a code, and of the dummy
abbrev pub own_entry : View → List ℕ → ℕ → Entry
own_entry v ws c = entry_at (pointers_of (first_strike v) ws) (widths_of v.header ws) (c - v.header.min)

abbrev pub dummy_entry : View → List ℕ → Entry
dummy_entry v ws = entry_at (pointers_of (first_strike v) ws) (widths_of v.header ws) (codes v.header)

-- the step of the pen over what is drawn for a code, by its own entry and the dummy's advance
unfoldable pub step_by : Header → Entry → ℕ → ℕ → Step
step_by h own dummy c =
    cond (there h own c)
    (record { advance = advance_of h own; substitute = false })
    (record { advance = dummy; substitute = true })

-- what is shown for a code, where a table tells where the bitmaps begin; and what the tables say there
abbrev pub glyph_tabled : View → List ℕ → List ℕ → ℕ → Glyph
glyph_tabled v bitmaps ws c = glyph_by v.header (strike_by v bitmaps ws) ws c

abbrev pub entry_tabled : View → List ℕ → List ℕ → ℕ → Entry
entry_tabled v bitmaps ws k = entry_in v.header (strike_by v bitmaps ws) ws k

-- with an index, the place of what is drawn for a code in the map and the width entries: its own, or the dummy's
unfoldable pub mapped_place : Header → List ℕ → ℕ → ℕ
mapped_place h ws c =
    let k = c - h.min in
    cond (in_range h c && not (marked h (name_of (word (map_of h ws) k)).missing (word (widths_of h ws) k))) k (codes h)

-- what the map and the width entries say at one place
abbrev pub named_at : List ℕ → List ℕ → ℕ → Bool → Named
named_at map widths k substitute = record { entry = word map k; width = word widths k; substitute = substitute }

-- of what is drawn for a code: at its own place, or at the dummy's
unfoldable pub named_in : Header → List ℕ → List ℕ → ℕ → Named
named_in h map widths c =
    let k = c - h.min in
    cond (in_range h c && not (marked h (name_of (word map k)).missing (word widths k)))
    (named_at map widths k false)
    (named_at map widths (codes h) true)

-- the picture that is named so
unfoldable pub glyph_named : View → List ℕ → List ℕ → Named → Glyph
glyph_named v bitmaps ws n =
    let s = strike_by v bitmaps ws (name_of n.entry).body in
    picture_of v.header s (entry_with (pointers_of s ws) (name_of n.entry).code n.width) n.substitute
