-- The pen, and where the dots of a picture land: the paper's "Panel, strips, pen", its second half.
use Rattle.std.specs.Prelude.{ℕ, ◌+◌, ◌-◌, ◌*◌, ◌/◌, ◌%◌, ◌≤◌, Bool, cond, ◌&&◌, List, [], ◌∷◌, leb, ltb, ℤ}
use Rattle.words.specs.declared.Effect.{Effect}
use Rattle.words.specs.Word.{word_of}
use Rattle.words.specs.Place.{place_of}
use Rattle.words.specs.declared.Mode.TheVariants.{Erase}
use Rattle.words.specs.Effect.{identity, effect_of, join_of, mode_of, altered}
use Rattle.fonts.specs.declared.Glyph.{Glyph}
use Rattle.fonts.specs.declared.Step.{Step}
use Rattle.fonts.specs.declared.Header.{Header}
use Rattle.fonts.specs.Face.{Face, step_of}
use Rattle.fonts.specs.Kinds.{step_by}
use Rattle.fonts.specs.Entry.{entry_at}
use Rattle.paint.specs.declared.Shape.{Shape}
use Rattle.paint.specs.declared.Strip.{Strip}
use Rattle.paint.specs.declared.Label.{Label}
use Rattle.paint.specs.declared.Stroke.{Stroke}
use Rattle.paint.specs.declared.Pen.{Pen}
use Rattle.paint.specs.Panel.{strip_of}

-- "starting pen x in strip columns"
abbrev pub pen_at : ℤ → Pen
pen_at x = record { place = place_of x; substitutes = 0 }

-- "Each step of the pen yields a new pen from the old one"
unfoldable pub pen_after : Pen → Step → Pen
pen_after pen step =
    record {
      place = pen.place + step.advance;
      substitutes = cond step.substitute (pen.substitutes + 1) pen.substitutes;
    }

-- the pen after a text, by the step over each code
unfoldable pub pen_along : (ℕ → Step) → Pen → List ℕ → Pen
pen_along step pen [] = pen
pen_along step pen (c ∷ text) = pen_along step (pen_after pen (step c)) text

-- the step over each code, by the tables of a font without an index and the dummy's advance
abbrev pub steps_in : Header → List ℕ → List ℕ → ℕ → ℕ → Step
steps_in h pointers widths dummy c = step_by h (entry_at pointers widths (c - h.min)) dummy c

-- the step over what a face shows for a code
abbrev pub steps_of : Face → ℕ → Step
steps_of face c = step_of (face.glyph c)

-- a place that no pen passes: 64 steps of at most 65,535 from a start of at most 65,536
abbrev pub farthest : ℕ
farthest = 4259840

-- a pen that a text may start from
abbrev pub Starting : Pen → Type 0
Starting pen = (pen.place ≤ 65536) × (pen.substitutes ≤ 65536)

-- a pen that has not gone farther than a text goes from such a start, with no more substitutes than it may have
abbrev pub Near : Pen → Type 0
Near pen = (pen.place ≤ farthest) × (pen.substitutes ≤ 65600)

-- what the characters of one label share
unfoldable pub stroke_of : Shape → Label → Stroke
stroke_of s l =
    record {
      rowwords = s.rowwords;
      rows = s.rows;
      strip = strip_of s l.strip;
      y = place_of l.y;
      mode = mode_of l.mode;
    }

-- the same on a panel that is one row of another: the baseline counts from that row
unfoldable pub stroke_in_row : Shape → Label → ℕ → Stroke
stroke_in_row s l row =
    record {
      rowwords = s.rowwords;
      rows = s.rows;
      strip = strip_of s l.strip;
      y = place_of l.y - row;
      mode = mode_of l.mode;
    }

-- the same by Erase
unfoldable pub erasing : Stroke → Stroke
erasing k = record { rowwords = k.rowwords; rows = k.rows; strip = k.strip; y = k.y; mode = Erase }

-- the words of the panel under a stroke
abbrev pub stroke_words : Stroke → ℕ
stroke_words k = k.rowwords * k.rows

-- what a shape that 8 does not refuse, and a lent slice that is long enough, promise of a stroke
abbrev pub Drawable : Stroke → ℕ → Type 0
Drawable k room =
    (1 ≤ k.rowwords) × (k.rowwords ≤ 128) × (k.rows ≤ 256)
    × (k.strip.from ≤ k.strip.upto) × (k.strip.upto ≤ 16 * k.rowwords)
    × (k.y ≤ 65536) × (stroke_words k ≤ room)

-- the words of one row of the panel, altered by their effects
abbrev pub in_row : (ℕ → Effect) → Stroke → ℕ → List ℕ → List ℕ
in_row effect k row lent = altered (row * k.rowwords) k.rowwords effect lent

-- all the words of the panel, altered by their effects
abbrev pub on_panel : (ℕ → Effect) → Stroke → List ℕ → List ℕ
on_panel effect k lent = altered 0 (stroke_words k) effect lent

-- so where it settles what is there, and else nothing
abbrev pub kept_if : Bool → (ℕ → Effect) → Stroke → List ℕ → List ℕ
kept_if settles effect k lent = cond settles (on_panel effect k lent) lent

-- "Dots outside the strip or the panel are dropped": 1 for a column of the strip
unfoldable pub in_strip : Strip → ℕ → ℕ
in_strip strip column = cond (leb strip.from column && ltb column strip.upto) 1 0

-- the dot that a row of a picture has at a place, where its left column is at the place `left`
unfoldable pub dot_along : (ℕ → ℕ) → ℕ → ℕ → ℕ
dot_along dot left at = cond (leb left at) (dot (at - left)) 0

-- The dot that a picture puts on a row and column of the panel. "Picture row r lands on panel row y - ascent + r"; its left column goes to
-- the pen and the glyph's place, in strip columns. y counts from 2048 above the panel, pen and place together from 4096 left of the strip.
unfoldable pub mark : (Glyph → ℕ → ℕ → ℕ) → Stroke → Pen → Glyph → ℕ → ℕ → ℕ
mark dot k pen g row column =
    let down = row + 2048 + g.ascent in
    let across = column + 4096 - k.strip.from in
    cond (leb k.y down) (dot_along (dot g (down - k.y)) (pen.place + g.place) across * in_strip k.strip column) 0

-- the marks of a picture on sixteen columns of a row of the panel, from a column on
unfoldable pub mask_from : (Glyph → ℕ → ℕ → ℕ) → Stroke → Pen → Glyph → ℕ → ℕ → ℕ
mask_from dot k pen g row column = word_of (λ j. mark dot k pen g row (column + j))

-- the marks of a picture on word i of the panel, which is sixteen columns of one row
unfoldable pub mask_at : (Glyph → ℕ → ℕ → ℕ) → Stroke → Pen → Glyph → ℕ → ℕ
mask_at dot k pen g i = mask_from dot k pen g (i / k.rowwords) (16 * (i % k.rowwords))

-- what a picture does to word i of the panel
unfoldable pub picture_effect : (Glyph → ℕ → ℕ → ℕ) → Stroke → Pen → Glyph → ℕ → Effect
picture_effect dot k pen g i = effect_of k.mode (mask_at dot k pen g i)

-- "Characters are drawn in order: Paint sets, Erase clears, Invert flips each dot of the picture that is 1. Overlapping characters in
-- Invert flip twice." What a text does to word i of the panel
unfoldable pub label_effect : Face → Stroke → Pen → List ℕ → ℕ → Effect
label_effect face k pen [] i = identity
label_effect face k pen (c ∷ text) i =
    let g = face.glyph c in
    join_of (picture_effect face.dot k pen g i) (label_effect face k (pen_after pen (step_of g)) text i)

-- the same by Erase
abbrev pub erased_by : Face → Stroke → Pen → List ℕ → ℕ → Effect
erased_by face k pen text i = label_effect face (erasing k) pen text i
