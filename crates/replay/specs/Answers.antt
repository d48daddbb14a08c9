-- The line that each call answers, by the table of docs/REPLAY.md: what is put into the text.
use Rattle.std.specs.Prelude.{◌≡◌, ℕ, Bool, false, cond, List, [], ◌∷◌, ◌++◌, length, eqb, Option, Some, None, codes, pos, ◌-ℤ◌}
use Rattle.std.specs.Prelude.{Result, Ok, Err}
use Rattle.words.specs.declared.refusal.Refusal.{Refusal}
use Rattle.fonts.specs.declared.Glyph.{Glyph}
use Rattle.fonts.specs.declared.View.{View}
use Rattle.fonts.specs.Reading.{font_number, reading_of}
use Rattle.fonts.specs.Face.{glyph_from, dots_of, row_of}
use Rattle.paint.specs.Sheet.{Sheet, sheet_of}
use Rattle.paint.specs.Label.{reply_of, measure_of, paint_after}
use Rattle.sheets.specs.Sheet.{fresh_number, fresh_after, join_number, join_after, apply_number, apply_after}
use Rattle.sheets.specs.Sheet.{gather_reply, gather_after}
use Rattle.counts.specs.declared.Painted.{Painted}
use Rattle.counts.specs.Lit.{Counted}
use Rattle.counts.specs.Calls.{paint_counted, painted_of, apply_counted, clear_counted}
use Rattle.convert.specs.Conversion.{conversion_of, conversion_number, words_written, output_after}
use Rattle.replay.specs.declared.list.Line.{Line}
use Rattle.replay.specs.declared.names.Register.{Register}
use Rattle.replay.specs.declared.names.Register.TheVariants.{Font, Cu, Panel, Out, Keep1, Flip1, Keep2, Flip2, File, Counts}
use Rattle.replay.specs.declared.names.Command.{Command}
use Rattle.replay.specs.declared.names.Command.TheVariants.{Set, Show, Written, Convert, Check, Glyph as GlyphCall, Dots, Row, Measure}
use Rattle.replay.specs.declared.names.Command.TheVariants.{Paint, PaintLit, Fresh, Gather, Join, Apply, ApplyLit, Clear, Other}
use Rattle.replay.specs.declared.registers.Slices.{Slices}
use Rattle.replay.specs.declared.registers.Registers.{Registers}
use Rattle.replay.specs.declared.text.Digits.{Digits}
use Rattle.replay.specs.declared.text.Digits.TheVariants.{Two, Four}
use Rattle.replay.specs.Names.{register_named}
use Rattle.replay.specs.Lines.{values_of, number_of, signed_of}
use Rattle.replay.specs.Registers.{chosen, holds, slices, registers, registers_with, registers_reading, registers_written, with_counts}
use Rattle.replay.specs.Text.{name_bytes, number_bytes, signed_bytes, value_bytes, list_bytes}
use Rattle.replay.specs.Calls.{shape_of, text_of, gather_call, paint_call, reply_bytes, counts_in, count_words}

-- ---- calls that read the font

-- "Where the font is refused, N and six zeros": a picture with nothing in it, of which the place, counted from 2048, is 0 too
unfoldable pub no_glyph : Glyph
no_glyph = record {
  bitmap = 0;
  raster = 0;
  first = 0;
  columns = 0;
  ascent = 0;
  height = 0;
  place = 2048;
  advance = 0;
  substitute = false;
}

unfoldable pub glyph_read : Result View Refusal → List ℕ → ℕ → Glyph
glyph_read (Ok view) font code = glyph_from view font code
glyph_read (Err refusal) font code = no_glyph

unfoldable pub glyph_of : List ℕ → ℕ → Glyph
glyph_of font code = glyph_read (reading_of font) font code

-- a place from the pen, which a font counts from 2048 to its left
unfoldable pub place_bytes : ℕ → List ℕ
place_bytes place = signed_bytes (pos place -ℤ pos 2048)

-- "1 for a substitute or 0"
unfoldable pub one_if : Bool → ℕ
one_if b = cond b 1 0

-- COLUMNS PLACE MOVE SUBSTITUTE ASCENT HEIGHT
unfoldable pub glyph_bytes : Glyph → List ℕ
glyph_bytes g =
    number_bytes g.columns
    ++ (place_bytes g.place
    ++ (number_bytes g.advance ++ (number_bytes (one_if g.substitute) ++ (number_bytes g.ascent ++ number_bytes g.height))))

-- how each of these answers but `row` begins
unfoldable pub head_bytes : List ℕ → List ℕ → List ℕ
head_bytes word font = word ++ number_bytes (font_number font)

unfoldable pub check_answer : List ℕ → List ℕ
check_answer font = head_bytes (codes "check") font ++ (10 ∷ [])

unfoldable pub glyph_answer : Line → List ℕ → List ℕ
glyph_answer line font = head_bytes (codes "glyph") font ++ (glyph_bytes (glyph_of font (number_of line 0)) ++ (10 ∷ []))

unfoldable pub dots_answer : Line → List ℕ → List ℕ
dots_answer line font =
    head_bytes (codes "dots") font
    ++ (value_bytes Four (dots_of font (glyph_of font (number_of line 0)) (number_of line 1) (number_of line 2)) ++ (10 ∷ []))

unfoldable pub row_answer : Line → List ℕ → List ℕ
row_answer line font = codes "row" ++ (list_bytes Four (row_of font (number_of line 0) (number_of line 1)) ++ (10 ∷ []))

-- ---- calls on a label

unfoldable pub measure_answer : Line → List ℕ → List ℕ
measure_answer line font = reply_bytes (codes "measure") (measure_of font (signed_of line 0) (text_of line))

unfoldable pub paint_answer : Line → Registers → List ℕ
paint_answer line r = reply_bytes (codes "paint")
    (reply_of (shape_of line 0) (length r.panel.items ∷ []) (paint_call line r.font.items))

-- "painting a label on `panel`"
abbrev pub with_panel : List ℕ → Registers → Registers
with_panel panel r = registers r.font r.cu (holds panel) r.out r.one r.two r.file r.counts r.written

unfoldable pub registers_painted : Line → Registers → Registers
registers_painted line r = with_panel (paint_after (shape_of line 0) (paint_call line r.font.items) r.panel.items) r

-- ---- calls on sheets

unfoldable pub refusal_bytes : List ℕ → ℕ → List ℕ
refusal_bytes word number = word ++ (number_bytes number ++ (10 ∷ []))

abbrev pub sheet_in : Slices → Sheet
sheet_in slices = sheet_of slices.keep.items slices.flip.items

-- sheet S
abbrev pub sheet_number : ℕ → Registers → Sheet
sheet_number number r = sheet_in (chosen number r.one r.two)

abbrev pub line_sheet : Line → Registers → Sheet
line_sheet line r = sheet_number (number_of line 0) r

unfoldable pub fresh_answer : Line → Registers → List ℕ
fresh_answer line r = refusal_bytes (codes "fresh") (fresh_number (shape_of line 1) (line_sheet line r))

unfoldable pub gather_answer : Line → Registers → List ℕ
gather_answer line r =
    reply_bytes (codes "gather") (gather_reply (shape_of line 1) (gather_call line r.font.items) (line_sheet line r))

unfoldable pub join_answer : Line → Registers → List ℕ
join_answer line r = refusal_bytes (codes "join") (join_number (shape_of line 0) (sheet_in r.one) (sheet_in r.two))

-- a sheet as a call leaves it
abbrev pub slices_of : Sheet → Slices
slices_of sheet = slices (holds sheet.keep) (holds sheet.flip)

abbrev pub with_sheets : Slices → Slices → Registers → Registers
with_sheets one two r = registers r.font r.cu r.panel r.out one two r.file r.counts r.written

-- sheet S, which a call alters; the other stays, and so does every other register
unfoldable pub with_sheet_number : ℕ → Sheet → Registers → Registers
with_sheet_number number sheet r = cond (eqb number 2) (with_sheets r.one (slices_of sheet) r) (with_sheets (slices_of sheet) r.two r)

unfoldable pub registers_freshened : Line → Registers → Registers
registers_freshened line r =
    with_sheet_number (number_of line 0) (fresh_after (shape_of line 1) (line_sheet line r)) r

unfoldable pub registers_gathered : Line → Registers → Registers
registers_gathered line r =
    with_sheet_number (number_of line 0) (gather_after (shape_of line 1) (gather_call line r.font.items) (line_sheet line r)) r

-- sheet 2 "onto sheet 1, which changes; sheet 2 stays"
abbrev pub with_sheet : Sheet → Registers → Registers
with_sheet sheet r = with_sheets (slices_of sheet) r.two r

unfoldable pub registers_joined : Line → Registers → Registers
registers_joined line r = with_sheet (join_after (shape_of line 0) (sheet_in r.one) (sheet_in r.two)) r

unfoldable pub registers_applied : Line → Registers → Registers
registers_applied line r = with_panel (apply_after (shape_of line 1) (line_sheet line r) r.panel.items) r

unfoldable pub apply_answer : Line → Registers → List ℕ
apply_answer line r = refusal_bytes (codes "apply") (apply_number (shape_of line 1) (line_sheet line r) r.panel.items)

-- ---- calls with counts: `paintlit N PEN SUBSTITUTES`, `applylit N`, `clear N`

unfoldable pub counts_held : Registers → List ℕ
counts_held r = counts_in r.counts.items

-- what each leaves, "on `panel`, with `counts`": its number, the panel and the counts
unfoldable pub paint_lit : Line → Registers → Counted
paint_lit line r = paint_counted (shape_of line 0) (paint_call line r.font.items) r.panel.items (counts_held r)

unfoldable pub apply_lit : Line → Registers → Counted
apply_lit line r = apply_counted (shape_of line 1) (line_sheet line r) r.panel.items (counts_held r)

unfoldable pub clear_lit : Line → Registers → Counted
clear_lit line r = clear_counted (shape_of line 0) r.panel.items (counts_held r)

-- and what painting answers
unfoldable pub paint_lit_reply : Line → Registers → Painted
paint_lit_reply line r = painted_of (shape_of line 0) (paint_call line r.font.items) r.panel.items (counts_held r)

unfoldable pub paint_lit_answer : Line → Registers → List ℕ
paint_lit_answer line r = reply_bytes (codes "paintlit") (paint_lit_reply line r).reply

unfoldable pub apply_lit_answer : Line → Registers → List ℕ
apply_lit_answer line r = refusal_bytes (codes "applylit") (apply_lit line r).number

unfoldable pub clear_answer : Line → Registers → List ℕ
clear_answer line r = refusal_bytes (codes "clear") (clear_lit line r).number

-- the panel and the counts are those that the call leaves: "Each call with counts leaves all 64 words in it"
abbrev pub registers_lit : Counted → Registers → Registers
registers_lit c r = with_counts (count_words c.counts) (with_panel c.panel r)

-- ---- the conversion: `convert N WRITTEN`

unfoldable pub conversion_bytes : ℕ → ℕ → List ℕ
conversion_bytes number written = codes "convert" ++ (number_bytes number ++ (number_bytes written ++ (10 ∷ [])))

abbrev pub conversion_in : Registers → Result ℕ Refusal
conversion_in r = conversion_of r.cu.items (length r.out.items)

unfoldable pub convert_answer : Registers → List ℕ
convert_answer r = conversion_bytes (conversion_number (conversion_in r)) (words_written (conversion_in r))

-- `out` as the conversion leaves it, and the words that it wrote, which are kept
abbrev pub with_out : List ℕ → Registers → Registers
with_out out r = registers r.font r.cu r.panel (holds out) r.one r.two r.file r.counts r.written

unfoldable pub registers_converted : Registers → Registers
registers_converted r = registers_written (words_written (conversion_in r)) (with_out (output_after r.cu.items r.out.items) r)

-- ---- `show REGISTER` answers `REGISTER WORDS`, "of `file`: BYTES"

unfoldable pub words_of : Register → Registers → List ℕ
words_of Font r = r.font.items
words_of Cu r = r.cu.items
words_of Panel r = r.panel.items
words_of Out r = r.out.items
words_of Keep1 r = r.one.keep.items
words_of Flip1 r = r.one.flip.items
words_of Keep2 r = r.two.keep.items
words_of Flip2 r = r.two.flip.items
words_of File r = r.file.items
words_of Counts r = r.counts.items

unfoldable pub digits_of : Register → Digits
digits_of Font = Four
digits_of Cu = Four
digits_of Panel = Four
digits_of Out = Four
digits_of Keep1 = Four
digits_of Flip1 = Four
digits_of Keep2 = Four
digits_of Flip2 = Four
digits_of File = Two
digits_of Counts = Four

unfoldable pub register_bytes : Option Register → Registers → List ℕ
register_bytes (Some register) r = list_bytes (digits_of register) (words_of register r)
register_bytes None r = []

unfoldable pub show_answer : ℕ → Registers → List ℕ
show_answer name r = name_bytes name ++ (register_bytes (register_named name) r ++ (10 ∷ []))

-- ---- a line: "Commands that set a register, and say nothing", and calls

unfoldable pub answer_of : Command → Line → Registers → List ℕ
answer_of (Set register) line r = []
answer_of Show line r = show_answer line.name r
answer_of Written line r = []
answer_of Convert line r = convert_answer r
answer_of Check line r = check_answer r.font.items
answer_of GlyphCall line r = glyph_answer line r.font.items
answer_of Dots line r = dots_answer line r.font.items
answer_of Row line r = row_answer line r.font.items
answer_of Measure line r = measure_answer line r.font.items
answer_of Paint line r = paint_answer line r
answer_of PaintLit line r = paint_lit_answer line r
answer_of Fresh line r = fresh_answer line r
answer_of Gather line r = gather_answer line r
answer_of Join line r = join_answer line r
answer_of Apply line r = apply_answer line r
answer_of ApplyLit line r = apply_lit_answer line r
answer_of Clear line r = clear_answer line r
answer_of Other line r = []

-- and what the line leaves the registers as
unfoldable pub Leaves : Command → Line → Registers → Registers → Type 0
Leaves (Set register) line r left = left ≡ registers_with register (values_of line.values) r
Leaves Show line r left = left ≡ r
Leaves Written line r left = left ≡ registers_reading r
Leaves Convert line r left = left ≡ registers_converted r
Leaves Check line r left = left ≡ r
Leaves GlyphCall line r left = left ≡ r
Leaves Dots line r left = left ≡ r
Leaves Row line r left = left ≡ r
Leaves Measure line r left = left ≡ r
Leaves Paint line r left = left ≡ registers_painted line r
Leaves PaintLit line r left = left ≡ registers_lit (paint_lit line r) r
Leaves Fresh line r left = left ≡ registers_freshened line r
Leaves Gather line r left = left ≡ registers_gathered line r
Leaves Join line r left = left ≡ registers_joined line r
Leaves Apply line r left = left ≡ registers_applied line r
Leaves ApplyLit line r left = left ≡ registers_lit (apply_lit line r) r
Leaves Clear line r left = left ≡ registers_lit (clear_lit line r) r
Leaves Other line r left = left ≡ r
