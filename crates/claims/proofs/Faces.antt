-- Two fonts that show for every code the same dots at the same place, and move the pen alike, paint, gather and measure every label alike.
-- Where their pictures lie in their files plays no part.
use Prim.Native.Nat.{ℕ, ◌+◌, ◌-◌, ◌*◌, ◌/◌, ◌%◌}
use mathlib.Core.Path.{◌≡◌, refl, ap, ap₂, ◌∙◌}
use mathlib.Core.Bool.{cond}
use mathlib.Core.List.{List, [], ◌∷◌}
use lib.Dec.{eqb, leb}
use lib.IntN.{ℤ}
use lib.ListN.{length}
use Rattle.words.specs.declared.Effect.{Effect}
use Rattle.words.specs.Word.{word_of}
use Rattle.words.specs.Refusal.{or_else}
use Rattle.words.specs.Effect.{effect_of, join_of, altered}
use Rattle.fonts.specs.declared.Step.{Step}
use Rattle.fonts.specs.Reading.{font_number}
use Rattle.fonts.specs.Face.{Face, step_of, face_of}
use Rattle.paint.specs.declared.Shape.{Shape}
use Rattle.paint.specs.declared.Label.{Label}
use Rattle.paint.specs.declared.Stroke.{Stroke}
use Rattle.paint.specs.declared.Pen.{Pen}
use Rattle.paint.specs.Panel.{panel_words}
use Rattle.paint.specs.Pen.{pen_at, pen_after, steps_of, stroke_of, in_strip, dot_along, mark, mask_from, mask_at, picture_effect}
use Rattle.paint.specs.Pen.{label_effect}
use Rattle.paint.specs.Sheet.{Sheet, lengths, joined}
use Rattle.paint.specs.Label.{call_of, number_with, call_number, last_pen, reply_for, reply_of, effect_with, paint_after, join_with}
use Rattle.paint.specs.Label.{number_after, measure_for, measure_of}
use Rattle.paint.proofs.Along.{along-same}
use Rattle.sheets.specs.Sheet.{gather_after}
use Rattle.counts.specs.Lit.{counted_of}
use Rattle.counts.specs.Calls.{paint_counted}

-- all that a label depends on
pub record Alike (f g : Face) : Type 0 where
  pub ascent : (c : ℕ) → (f.glyph c).ascent ≡ (g.glyph c).ascent
  pub place : (c : ℕ) → (f.glyph c).place ≡ (g.glyph c).place
  pub step : (c : ℕ) → step_of (f.glyph c) ≡ step_of (g.glyph c)
  pub dot : (c r j : ℕ) → f.dot (f.glyph c) r j ≡ g.dot (g.glyph c) r j

module _ (f g : Face) (alike : Alike f g) where
  mark-alike : (k : Stroke) (pen : Pen) (c row column : ℕ)
      → mark f.dot k pen (f.glyph c) row column ≡ mark g.dot k pen (g.glyph c) row column
  unfolding mark
  mark-alike k pen c row column =
      λ i.
      let down = row + 2048 + alike.ascent c i in
      cond (leb k.y down)
      (dot_along (λ j. alike.dot c (down - k.y) j i) (pen.place + alike.place c i) (column + 4096 - k.strip.from)
      * in_strip k.strip column)
      0

  picture-alike : (k : Stroke) (pen : Pen) (c w : ℕ)
      → picture_effect f.dot k pen (f.glyph c) w ≡ picture_effect g.dot k pen (g.glyph c) w
  unfolding picture_effect mask_at mask_from
  picture-alike k pen c w =
      λ i. effect_of k.mode (word_of (λ j. mark-alike k pen c (w / k.rowwords) (16 * (w % k.rowwords) + j) i))

  label-alike : (k : Stroke) (text : List ℕ) (pen : Pen) (w : ℕ) → label_effect f k pen text w ≡ label_effect g k pen text w
  unfolding label_effect
  label-alike k [] pen w = refl
  label-alike k (c ∷ text) pen w =
      ap₂ join_of (picture-alike k pen c w)
      (label-alike k text (pen_after pen (step_of (f.glyph c))) w
      ∙ ap (λ (step : Step). label_effect g k (pen_after pen step) text w) (alike.step c))

  pub effect-alike : (s : Shape) (l : Label) (text : List ℕ) → effect_with f s l text ≡ effect_with g s l text
  unfolding effect_with
  effect-alike s l text = λ i w. label-alike (stroke_of s l) text (pen_at l.x) w i

  pub pen-alike : (x : ℤ) (text : List ℕ) → last_pen f x text ≡ last_pen g x text
  unfolding last_pen
  pen-alike x text = along-same (steps_of f) (steps_of g) alike.step text (pen_at x)

  -- a label joined onto a sheet
  pub join-alike : (s : Shape) (l : Label) (text : List ℕ) (sheet : Sheet) → join_with f s l text sheet ≡ join_with g s l text sheet
  unfolding join_with
  join-alike s l text sheet =
      ap (λ (e : ℕ → Effect). cond (eqb (number_with s (lengths sheet) l (length text)) 0) (joined s e sheet) sheet) (effect-alike s l text)

-- two files that are both accepted, or refused by the same number
module _ (a b : List ℕ) (alike : Alike (face_of a) (face_of b)) (number : font_number a ≡ font_number b) where
  number-alike : (s : Shape) (lent : List ℕ) (l : Label) (text : List ℕ)
      → call_number s lent (call_of a l text) ≡ call_number s lent (call_of b l text)
  unfolding call_number
  number-alike s lent l text = ap (λ (n : ℕ). or_else n (number_with s lent l (length text))) number

  pub paint-alike : (s : Shape) (l : Label) (text panel : List ℕ)
      → paint_after s (call_of a l text) panel ≡ paint_after s (call_of b l text) panel
  unfolding paint_after
  paint-alike s l text panel =
      ap₂ (λ (n : ℕ) (e : ℕ → Effect). cond (eqb n 0) (altered 0 (panel_words s) e panel) panel)
      (number-alike s (length panel ∷ []) l text) (effect-alike (face_of a) (face_of b) alike s l text)

  pub reply-alike : (s : Shape) (lent : List ℕ) (l : Label) (text : List ℕ)
      → reply_of s lent (call_of a l text) ≡ reply_of s lent (call_of b l text)
  unfolding reply_of
  reply-alike s lent l text = ap₂ reply_for (number-alike s lent l text) (pen-alike (face_of a) (face_of b) alike l.x text)

  pub gather-alike : (s : Shape) (l : Label) (text : List ℕ) (sheet : Sheet)
      → gather_after s (call_of a l text) sheet ≡ gather_after s (call_of b l text) sheet
  unfolding gather_after
  gather-alike s l text sheet =
      ap₂ (λ (n : ℕ) (e : ℕ → Effect). cond (eqb n 0) (joined s e sheet) sheet)
      (number-alike s (lengths sheet) l text) (effect-alike (face_of a) (face_of b) alike s l text)

  pub measure-alike : (x : ℤ) (text : List ℕ) → measure_of a x text ≡ measure_of b x text
  unfolding measure_for
  measure-alike x text =
      ap₂ (λ (n : ℕ) (pen : Pen). reply_for (number_after n x (length text)) pen) number (pen-alike (face_of a) (face_of b) alike x text)

  -- with counts: the number, the panel and the counts
  pub counted-alike : (s : Shape) (l : Label) (text panel counts : List ℕ)
      → paint_counted s (call_of a l text) panel counts ≡ paint_counted s (call_of b l text) panel counts
  counted-alike s l text panel counts =
      ap₂ (λ (n : ℕ) (after : List ℕ). counted_of s n panel after counts)
      (number-alike s (length panel ∷ []) l text) (paint-alike s l text panel)
