-- The rows that a label may reach: they are on the panel, and in every other row of its strip painting changes nothing.
use Prim.Native.Nat.{ℕ, ◌+◌, ◌-◌, ◌*◌, ◌/◌, ◌%◌, ◌<◌, ◌≤◌}
use mathlib.Core.Path.{◌≡◌, refl, sym, ap, ap₂, ◌∙◌}
use mathlib.Core.Bool.{false}
use mathlib.Core.List.{List, [], ◌∷◌}
use native.Mathlib.Nat.{zero-add, add-mul, one-mul, mul_comm, mul-le-mul_right}
use native.Mathlib.Omega.{arith}
use lib.ListN.{length}
use Rattle.words.specs.declared.Effect.{Effect}
use Rattle.words.specs.Word.{word, bit_of}
use Rattle.words.specs.Search.{sum_below}
use Rattle.words.specs.Effect.{identity, join_of, apply_to}
use Rattle.words.proofs.Effects.{identity-join, apply-identity}
use Rattle.words.proofs.Altering.{AllWords, from_zero}
use Rattle.fonts.specs.declared.View.{View}
use Rattle.paint.specs.declared.Shape.{Shape}
use Rattle.paint.specs.declared.Label.{Label}
use Rattle.fonts.specs.Strike.{extent_of}
use Rattle.fonts.specs.Face.{Face, face_from, step_of}
use Rattle.fonts.proofs.Extents.{glyph-rise, glyph-fall}
use Rattle.fonts.proofs.Dots.{dot-past}
use Rattle.paint.specs.declared.Stroke.{Stroke}
use Rattle.paint.specs.declared.Pen.{Pen}
use Rattle.paint.specs.declared.Strip.{Strip}
use Rattle.paint.specs.Panel.{strip_of, panel_words, bad_panel}
use Rattle.paint.specs.Label.{number_with, effect_with, paint_with}
use Rattle.paint.specs.Pen.{pen_at, pen_after, stroke_of, picture_effect, label_effect}
use Rattle.paint.proofs.Accepted.{good-panel, accepted-label}
use Rattle.paint.proofs.Replies.{panel-good}
use Rattle.paint.proofs.Marks.{mask-above, mask-under}
use Rattle.paint.proofs.Rows.{picture-at, no-marks}
use Rattle.paint.specs.Rule.{panel_dot}
use Rattle.counts.specs.declared.Rows.{Rows}
use Rattle.counts.specs.Lit.{over_dots, lit}
use Rattle.counts.specs.Band.{first_row, end_row, rows_reached, lit_in, lit_reached}
use Rattle.counts.proofs.Sums.{dots-same, dots-split, dots-le}
use Rattle.counts.proofs.Balance.{panel-dot}
use Rattle.counts.proofs.Settling.{strip-within}

pub reached-below : (v : View) (font : List ℕ) (s : Shape) (l : Label)
    → (rows_reached v font s l).first + (rows_reached v font s l).count ≤ s.rows
unfolding rows_reached
reached-below v font s l = omega arith

-- they have no more dots than that
pub reached-most : (v : View) (font : List ℕ) (s : Shape) (l : Label) (panel : List ℕ)
    → lit_reached v font s l panel ≤ s.width * (rows_reached v font s l).count
unfolding lit_reached
reached-most v font s l panel =
    let rows = rows_reached v font s l in
    let wide : ((strip_of s l.strip).upto - (strip_of s l.strip).from) * rows.count ≡ s.width * rows.count =
    ap (λ (n : ℕ). n * rows.count) (omega arith) in
    let most = dots-le (strip_of s l.strip) rows.first rows.count (panel_dot s panel)
    (λ i j. let bit = panel-dot s panel i j in omega (arith, bit)) in
    omega (arith, wide, most)

-- counted row by row
module _ (s : Shape) (k row : ℕ) (panel : List ℕ) where
  pub no_rows : 0 ≡ lit_in s k row 0 panel
  unfolding over_dots sum_below
  no_rows = refl

  pub one-row-more : (i sum one : ℕ) → sum ≡ lit_in s k row i panel → one ≡ lit_in s k (row + i) 1 panel
      → sum + one ≡ lit_in s k row (i + 1) panel
  one-row-more i sum one so_far counted =
      ap₂ ◌+◌ so_far counted ∙ sym (dots-split (strip_of s k) row i 1 (panel_dot s panel))

-- ---- the other rows

module _ (v : View) (font : List ℕ) (s : Shape) (l : Label) where
  abbrev face : Face
  face = face_from v font

  abbrev stroke : Stroke
  stroke = stroke_of s l

  -- a text does nothing to a word that no picture of the font does anything to
  text-idle : (i : ℕ) → ((pen : Pen) (c : ℕ) → picture_effect face.dot stroke pen (face.glyph c) i ≡ identity)
      → (text : List ℕ) (pen : Pen) → label_effect face stroke pen text i ≡ identity
  unfolding label_effect
  text-idle i none [] pen = refl
  text-idle i none (c ∷ text) pen =
      ap₂ join_of (none pen c) (text-idle i none text (pen_after pen (step_of (face.glyph c))))
      ∙ identity-join identity (omega arith, omega arith)

  module _ (row w : ℕ) (across : w < s.rowwords) (on : row < s.rows) where
    above-idle : row < first_row (extent_of v font) s l → (pen : Pen) (c : ℕ)
        → picture_effect face.dot stroke pen (face.glyph c) (row * s.rowwords + w) ≡ identity
    unfolding stroke_of
    above-idle above pen c =
        let rise = glyph-rise v font c in
        picture-at face.dot stroke pen (face.glyph c) row w across
        ∙ no-marks stroke.mode _ (sym (mask-above face.dot stroke pen (face.glyph c) row (16 * w) (omega (arith, above, rise))))

    under-idle : end_row (extent_of v font) s l ≤ row → (pen : Pen) (c : ℕ)
        → picture_effect face.dot stroke pen (face.glyph c) (row * s.rowwords + w) ≡ identity
    unfolding stroke_of face_from
    under-idle under pen c =
        let rise = glyph-rise v font c in
        let fall = glyph-fall v font c in
        picture-at face.dot stroke pen (face.glyph c) row w across
        ∙ no-marks stroke.mode _
        (mask-under face.dot stroke pen (face.glyph c) row (16 * w) (λ r j h. dot-past font (face.glyph c) r j h)
        (omega (arith, under, on, rise, fall)))

-- so painting leaves the dots of the other rows, and a strip's lit dots change by what changes in the rows that are reached
module _ (v : View) (font : List ℕ) (s : Shape) (l : Label) (text panel : List ℕ)
    (accepted : number_with s (length panel ∷ []) l (length text) ≡ 0) (words : AllWords panel) where
  abbrev after : List ℕ
  after = paint_with (face_from v font) s l text panel

  good : bad_panel s (length panel ∷ []) ≡ false
  good = panel-good s (length panel ∷ []) l (length text) (sym accepted)

  word-stays : (i : ℕ) → i < panel_words s → label_effect (face_from v font) (stroke_of s l) (pen_at l.x) text i ≡ identity
      → word after i ≡ word panel i
  unfolding paint_with effect_with
  word-stays i less idle =
      rw accepted
      (from_zero (effect_with (face_from v font) s l text) panel (panel_words s) i less (good-panel s (length panel) good).long
      ∙ ap (λ (e : Effect). apply_to e (word panel i)) idle
      ∙ apply-identity (word panel i) (words i))

  abbrev rows : Rows
  rows = rows_reached v font s l

  module _ (row column : ℕ) (on : row < s.rows) (across : column < 16 * s.rowwords) where
    in-panel : row * s.rowwords + column / 16 < panel_words s
    in-panel =
        let down : (row + 1) * s.rowwords ≤ s.rows * s.rowwords = mul-le-mul_right s.rowwords (omega (arith, on)) in
        let up = add-mul row 1 s.rowwords in
        let one = one-mul s.rowwords in
        let turned = mul_comm s.rows s.rowwords in
        omega (arith, down, up, one, turned, across)

    dot-stays-above : row < rows.first → panel_dot s after row column ≡ panel_dot s panel row column
    unfolding panel_dot rows_reached
    dot-stays-above above =
        ap (λ (d : ℕ). bit_of d (column % 16))
        (word-stays _ in-panel
        (text-idle v font s l _ (above-idle v font s l row (column / 16) (omega (arith, across)) on above) text (pen_at l.x)))

    dot-stays-under : rows.first + rows.count ≤ row → panel_dot s after row column ≡ panel_dot s panel row column
    unfolding panel_dot rows_reached
    dot-stays-under under =
        ap (λ (d : ℕ). bit_of d (column % 16))
        (word-stays _ in-panel
        (text-idle v font s l _ (under-idle v font s l row (column / 16) (omega (arith, across)) on (omega (arith, under, on))) text
        (pen_at l.x)))

  -- the lit dots of the label's strip: those above the rows that are reached, those in them, and those below
  abbrev strip : Strip
  strip = strip_of s l.strip

  abbrev below : ℕ
  below = s.rows - (rows.first + rows.count)

  in_parts : (p : List ℕ) → lit s l.strip p
      ≡ over_dots strip 0 rows.first (panel_dot s p) + lit_reached v font s l p
      + over_dots strip (0 + (rows.first + rows.count)) below (panel_dot s p)
  unfolding lit lit_reached
  in_parts p =
      let f = panel_dot s p in
      let low = reached-below v font s l in
      let whole : s.rows ≡ rows.first + rows.count + below = omega (arith, low) in
      ap (λ (n : ℕ). over_dots strip 0 n f) whole
      ∙ dots-split strip 0 (rows.first + rows.count) below f
      ∙ ap (λ (n : ℕ). n + over_dots strip (0 + (rows.first + rows.count)) below f)
      (dots-split strip 0 rows.first rows.count f
      ∙ ap (λ (r : ℕ). over_dots strip 0 rows.first f + over_dots strip r rows.count f) (zero-add rows.first))

  pub reached-alone : lit s l.strip after + lit_reached v font s l panel ≡ lit s l.strip panel + lit_reached v font s l after
  reached-alone =
      let low = reached-below v font s l in
      let one = (accepted-label s (length panel) l (length text) (sym accepted)).strip in
      let fits = strip-within s l.strip (length panel) good one in
      let top = dots-same strip 0 rows.first (panel_dot s after) (panel_dot s panel)
      (λ i j from upto left right. dot-stays-above i j (omega (arith, upto, low)) (omega (arith, right, fits)) (omega (arith, upto))) in
      let foot = dots-same strip (0 + (rows.first + rows.count)) below (panel_dot s after) (panel_dot s panel)
      (λ i j from upto left right. dot-stays-under i j (omega (arith, upto, low)) (omega (arith, right, fits)) (omega (arith, from))) in
      let now = in_parts after in
      let before = in_parts panel in
      omega (arith, top, foot, now, before)
