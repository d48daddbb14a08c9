-- A label call: its refusals, its reply and what it leaves on the panel or the sheet. What ends in `With` speaks of a font that has been
-- read, by its face; the rest of a call that has a file.
use Rattle.std.specs.Prelude.{ℕ, ◌+◌, ◌*◌, ◌≡◌, cond, ◌||◌, ◌&&◌, List, [], ◌∷◌, ltb, leb, eqb, ℤ, pos, length}
use Rattle.words.specs.declared.Effect.{Effect}
use Rattle.words.specs.Word.{words_of}
use Rattle.std.specs.declared.result.Result.{Result}
use Rattle.std.specs.declared.result.Result.TheVariants.{Ok, Err}
use Rattle.words.specs.declared.refusal.Refusal.{Refusal}
use Rattle.words.specs.Refusal.{first_of, or_else, returned, answered}
use Rattle.words.specs.Place.{outside, number_at}
use Rattle.words.specs.Effect.{altered}
use Rattle.fonts.specs.Reading.{font_number}
use Rattle.fonts.specs.Face.{Face, face_of}
use Rattle.fontbytes.specs.File.{file_number}
use Rattle.paint.specs.declared.Shape.{Shape}
use Rattle.paint.specs.declared.Label.{Label}
use Rattle.paint.specs.declared.Pen.{Pen}
use Rattle.paint.specs.declared.Finish.{Finish}
use Rattle.paint.specs.Panel.{panel_words, panel_number, one_row}
use Rattle.paint.specs.Pen.{pen_at, pen_along, steps_of, stroke_of, label_effect}
use Rattle.paint.specs.Sheet.{Sheet, lengths, joined}

-- "A label call has a font, shape, strip, starting pen x in strip columns, baseline row y, mode, and label bytes used as codes."
-- The shape stands apart, since one panel size serves a list of calls.
pub record Call : Type 0 where
  pub font : List ℕ
  pub label : Label
  pub text : List ℕ

abbrev pub call_of : List ℕ → Label → List ℕ → Call
call_of font label text = record { font = font; label = label; text = text }

-- "9 strip over 31; 10 x or y not -1024..1023; 11 label over 64 bytes; 12 mode number over 2"
unfoldable pub label_number : Label → ℕ → ℕ
label_number l bytes =
    first_of
    ((ltb 31 l.strip, 9)
    ∷ (outside l.x || outside l.y, 10)
    ∷ (ltb 64 bytes, 11)
    ∷ (ltb 2 l.mode, 12)
    ∷ [])

-- the panel's number, then the label's own. The lent slices are given by their lengths
unfoldable pub number_with : Shape → List ℕ → Label → ℕ → ℕ
number_with s lent l bytes = or_else (panel_number s lent) (label_number l bytes)

-- the font's numbers, then those
unfoldable pub call_number : Shape → List ℕ → Call → ℕ
call_number s lent call = or_else (font_number call.font) (number_with s lent call.label (length call.text))

-- the pen after an accepted call
unfoldable pub last_pen : Face → ℤ → List ℕ → Pen
last_pen face x text = pen_along (steps_of face) (pen_at x) text

-- "The reply is the last pen and the substitutes."
abbrev pub finish_of : Pen → Finish
finish_of pen = record { pen = number_at pen.place; substitutes = pen.substitutes }

-- what painting, gathering and measuring answer
abbrev pub Reply : Type 0
Reply = Result Finish Refusal

abbrev pub reply_for : ℕ → Pen → Reply
reply_for number pen = answered number (finish_of pen)

unfoldable pub reply_with : Face → Shape → List ℕ → Label → List ℕ → Reply
reply_with face s lent l text = reply_for (number_with s lent l (length text)) (last_pen face l.x text)

unfoldable pub reply_of : Shape → List ℕ → Call → Reply
reply_of s lent call = reply_for (call_number s lent call) (last_pen (face_of call.font) call.label.x call.text)

-- "returns its number, pen 0, substitutes 0": the paper's number and values for each answer
abbrev pub reply_number : Reply → ℕ
reply_number reply = returned reply

abbrev pub reply_pen : Reply → ℤ
reply_pen (Ok finish) = finish.pen
reply_pen (Err refusal) = pos 0

abbrev pub reply_substitutes : Reply → ℕ
reply_substitutes (Ok finish) = finish.substitutes
reply_substitutes (Err refusal) = 0

-- so what a reply tells: the number; beside 0 the pen and the substitutes, beside any other zeros
abbrev pub Tells : Reply → ℕ → Pen → Type 0
Tells reply number last =
    (reply_number reply ≡ number)
    × (reply_pen reply ≡ cond (eqb number 0) (number_at last.place) (pos 0))
    × (reply_substitutes reply ≡ cond (eqb number 0) last.substitutes 0)

abbrev pub TellsWith : Reply → Face → Shape → List ℕ → Label → List ℕ → Type 0
TellsWith reply face s lent l text = Tells reply (number_with s lent l (length text)) (last_pen face l.x text)

abbrev pub TellsCall : Reply → Shape → List ℕ → Call → Type 0
TellsCall reply s lent call = Tells reply (call_number s lent call) (last_pen (face_of call.font) call.label.x call.text)

-- what an accepted label does to word i of the panel
unfoldable pub effect_with : Face → Shape → Label → List ℕ → ℕ → Effect
effect_with face s l text i = label_effect face (stroke_of s l) (pen_at l.x) text i

abbrev pub call_effect : Shape → Call → ℕ → Effect
call_effect s call = effect_with (face_of call.font) s call.label call.text

-- the lent panel after painting: "alters nothing lent" where it is refused, and nothing past R × H
unfoldable pub paint_with : Face → Shape → Label → List ℕ → List ℕ → List ℕ
paint_with face s l text panel =
    cond (eqb (number_with s (length panel ∷ []) l (length text)) 0)
    (altered 0 (panel_words s) (effect_with face s l text) panel)
    panel

-- the words of one row, with what the label paints on that row of the panel
unfoldable pub row_with : Face → Shape → Label → List ℕ → ℕ → List ℕ → List ℕ
row_with face s l text row words =
    cond (leb row 255 && eqb (number_with (one_row s) (length words ∷ []) l (length text)) 0)
    (altered 0 s.rowwords (λ w. effect_with face s l text (row * s.rowwords + w)) words)
    words

unfoldable pub paint_after : Shape → Call → List ℕ → List ℕ
paint_after s call panel =
    cond (eqb (call_number s (length panel ∷ []) call) 0)
    (altered 0 (panel_words s) (call_effect s call) panel)
    panel

-- "Gathering a label joins its effect onto the sheet and replies as painting does."
unfoldable pub join_with : Face → Shape → Label → List ℕ → Sheet → Sheet
join_with face s l text sheet =
    cond (eqb (number_with s (lengths sheet) l (length text)) 0) (joined s (effect_with face s l text) sheet) sheet

-- "Measuring takes a font, x and a label and gives an accepted painting's reply with no panel; of 8 to 12 only 10, for x, and 11
-- can refuse it."
unfoldable pub measure_number : ℤ → ℕ → ℕ
measure_number x bytes = first_of ((outside x, 10) ∷ (ltb 64 bytes, 11) ∷ [])

unfoldable pub measure_with : Face → ℤ → List ℕ → Reply
measure_with face x text = reply_for (measure_number x (length text)) (last_pen face x text)

-- the number of the font's refusal first
unfoldable pub number_after : ℕ → ℤ → ℕ → ℕ
number_after font x bytes = or_else font (measure_number x bytes)

unfoldable pub measure_for : ℕ → List ℕ → ℤ → List ℕ → Reply
measure_for number font x text = reply_for (number_after number x (length text)) (last_pen (face_of font) x text)

abbrev pub TellsMeasure : Reply → ℕ → List ℕ → ℤ → List ℕ → Type 0
TellsMeasure reply number font x text = Tells reply (number_after number x (length text)) (last_pen (face_of font) x text)

abbrev pub measure_of : List ℕ → ℤ → List ℕ → Reply
measure_of font = measure_for (font_number font) font

-- "The desk firmware is in C and hands font and label as bytes; it checks and measures that way."
abbrev pub measure_file : List ℕ → ℤ → List ℕ → Reply
measure_file bytes = measure_for (file_number bytes) (words_of bytes)
