-- A label on one row of a panel: it is the label on a panel of one row, with the baseline counted from that row.
use Prim.Native.Nat.{ℕ, ◌+◌, ◌-◌, ◌*◌, ◌<◌, ◌≤◌}
use mathlib.Core.Path.{◌≡◌, refl, sym, ap, ap₂, ◌∙◌}
use mathlib.Core.Bool.{Bool, true, false, cond, ◌&&◌}
use mathlib.Core.List.{List, [], ◌∷◌}
use native.Mathlib.Nat.{zero-add, zero-mul, mul-one}
use native.Mathlib.Omega.{arith}
use lib.Dec.{leb, eqb}
use lib.IntN.{ℤ, pos, negsuc}
use lib.ListN.{length}
use borrow.Author.Tests.{leb-true, leb-false, le-leb, lt-leb, ltb-false, ne_eqb}
use Rattle.words.specs.declared.Effect.{Effect}
use Rattle.words.specs.Word.{word_of}
use Rattle.words.specs.Place.{outside, place_of}
use Rattle.words.specs.Effect.{effect_of, join_of, altered, mode_of}
use Rattle.words.proofs.Signs.{place-le}
use Rattle.words.proofs.Altering.{altered-same}
use Rattle.fonts.specs.declared.Glyph.{Glyph}
use Rattle.fonts.specs.Face.{Face, step_of}
use Rattle.paint.specs.declared.Shape.{Shape}
use Rattle.paint.specs.declared.Label.{Label}
use Rattle.paint.specs.declared.Stroke.{Stroke}
use Rattle.paint.specs.declared.Pen.{Pen}
use Rattle.paint.specs.Panel.{one_row}
use Rattle.paint.specs.Pen.{pen_at, pen_after, stroke_of, stroke_in_row, Drawable, on_panel}
use Rattle.paint.specs.Pen.{dot_along, in_strip, mark, mask_from, picture_effect, label_effect}
use Rattle.paint.specs.Label.{number_with, effect_with, row_with}
use Rattle.paint.proofs.Rows.{picture-at}

-- a place that is accepted is not far above the panel, so that a row can be taken from it
pub place-least : (x : ℤ) → outside x ≡ false → 1024 ≤ place_of x
unfolding outside place_of
place-least (pos n) h = rw h (omega arith)
place-least (negsuc n) h = let small = ltb-false 1023 n h in rw h (omega arith)

-- a test of two numbers, each grown by the same
both-grown : (a b row : ℕ) → leb a b ≡ leb (a + row) (b + row)
both-grown a b row = by_first (leb a b) refl
  where
    by_first : (t : Bool) → leb a b ≡ t → leb a b ≡ leb (a + row) (b + row)
    by_first true e = let h = leb-true a b e in e ∙ sym (le-leb (a + row) (b + row) (omega (arith, h)))
    by_first false e = let h = leb-false a b e in e ∙ sym (lt-leb (a + row) (b + row) (omega (arith, h)))

module _ (s : Shape) (l : Label) (row : ℕ) (near : row ≤ place_of l.y) where
  abbrev one : Stroke
  one = stroke_in_row (one_row s) l row

  abbrev whole : Stroke
  whole = stroke_of s l

  mark-in-row : (dot : Glyph → ℕ → ℕ → ℕ) (pen : Pen) (g : Glyph) (column : ℕ)
      → mark dot one pen g 0 column ≡ mark dot whole pen g row column
  unfolding mark stroke_in_row stroke_of
  mark-in-row dot pen g column =
      let y = place_of l.y in
      let grown : leb (y - row) (0 + 2048 + g.ascent) ≡ leb y (row + 2048 + g.ascent) =
      let back : y - row + row ≡ y = omega (arith, near) in
      let lower : 0 + 2048 + g.ascent + row ≡ row + 2048 + g.ascent = omega arith in
      both-grown (y - row) (0 + 2048 + g.ascent) row ∙ ap₂ leb back lower in
      let rest : 0 + 2048 + g.ascent - (y - row) ≡ row + 2048 + g.ascent - y = omega (arith, near) in
      let across = column + 4096 - whole.strip.from in
      λ i. cond (grown i) (dot_along (dot g (rest i)) (pen.place + g.place) across * in_strip whole.strip column) 0

  picture-in-row : (dot : Glyph → ℕ → ℕ → ℕ) (pen : Pen) (g : Glyph) (w : ℕ) → w < s.rowwords
      → picture_effect dot one pen g w ≡ picture_effect dot whole pen g (row * s.rowwords + w)
  unfolding stroke_in_row stroke_of mask_from
  picture-in-row dot pen g w less =
      ap (picture_effect dot one pen g) (sym (ap (λ (n : ℕ). n + w) (zero-mul s.rowwords) ∙ zero-add w))
      ∙ picture-at dot one pen g 0 w less
      ∙ (λ i. effect_of (mode_of l.mode) (word_of (λ j. mark-in-row dot pen g (16 * w + j) i)))
      ∙ sym (picture-at dot whole pen g row w less)

  pub label-in-row : (face : Face) (text : List ℕ) (pen : Pen) (w : ℕ) → w < s.rowwords
      → label_effect face one pen text w ≡ label_effect face whole pen text (row * s.rowwords + w)
  unfolding label_effect
  label-in-row face [] pen w less = refl
  label-in-row face (c ∷ text) pen w less =
      ap₂ join_of (picture-in-row face.dot pen (face.glyph c) w less)
      (label-in-row face text (pen_after pen (step_of (face.glyph c))) w less)

-- what a shape of one row promises of its stroke
pub drawable-in-row : (s : Shape) (l : Label) (row room : ℕ) → Drawable (stroke_of s l) room → Drawable (stroke_in_row s l row) room
unfolding stroke_of stroke_in_row
drawable-in-row s l row room d =
    let low = place-le l.y in
    (d.0, d.1, d.2, d.3, d.4, omega (arith, low), d.6)

-- the row, by its place and its number
module _ (face : Face) (s : Shape) (l : Label) (text : List ℕ) (row : ℕ) (words : List ℕ) where
  abbrev number : ℕ
  number = number_with (one_row s) (length words ∷ []) l (length text)

  pub row-far : 255 < row → words ≡ row_with face s l text row words
  unfolding row_with
  row-far far = rw (lt-leb row 255 far)

  pub row-refused : (n : ℕ) → n ≡ number → (n ≡ 0 → ⊥) → words ≡ row_with face s l text row words
  unfolding row_with
  row-refused n e some = by_place (leb row 255)
    where
      painted : List ℕ
      painted = altered 0 s.rowwords (λ w. effect_with face s l text (row * s.rowwords + w)) words

      by_place : (t : Bool) → words ≡ cond (t && eqb number 0) painted words
      by_place true = rw (← e) (rw (ne_eqb n 0 some))
      by_place false = refl

  pub row-painted : row ≤ 255 → 0 ≡ number → outside l.y ≡ false
      → on_panel (label_effect face (stroke_in_row (one_row s) l row) (pen_at l.x) text) (stroke_in_row (one_row s) l row) words
      ≡ row_with face s l text row words
  unfolding row_with effect_with stroke_in_row
  row-painted small good there =
      let least = place-least l.y there in
      let one : ℕ → Effect = label_effect face (stroke_in_row (one_row s) l row) (pen_at l.x) text in
      ap (λ (n : ℕ). altered 0 n one words) (mul-one s.rowwords)
      ∙ altered-same 0 s.rowwords one (λ w. label_effect face (stroke_of s l) (pen_at l.x) text (row * s.rowwords + w)) words
      (λ j less. label-in-row s l row (omega (arith, small, least)) face text (pen_at l.x) (0 + j) (omega (arith, less)))
      ∙ rw (le-leb row 255 small) (rw (← good))
