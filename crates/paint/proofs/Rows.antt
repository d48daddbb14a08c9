-- The rows of the panel under a picture.
use Prim.Native.Nat.{ℕ, ◌+◌, ◌-◌, ◌*◌, ◌/◌, ◌%◌, ◌<◌, ◌≤◌, min}
use mathlib.Core.Path.{◌≡◌, sym, ap, ap₂, ◌∙◌}
use mathlib.Core.List.{List}
use native.Mathlib.Nat.{zero-add, add-mul, suc-mul, mul_comm, add-sub_of_le, div-lt_iff_lt-mul, le-div_iff_mul-le}
use native.Mathlib.Numerals.{add-one}
use native.Mathlib.Omega.{arith}
use Rattle.words.specs.declared.Effect.{Effect}
use Rattle.words.specs.declared.Mode.{Mode}
use Rattle.words.specs.declared.Mode.TheVariants.{Paint, Erase, Invert}
use Rattle.words.specs.Effect.{identity, effect_of, altered, OfWords}
use Rattle.words.proofs.Effects.{mode-words}
use Rattle.words.proofs.Rows.{row_of, word-of-row}
use Rattle.words.proofs.Altering.{AllWords, altered-idle, altered-words, altered-on}
use Rattle.words.proofs.Clearing.{Carried}
use Rattle.fonts.specs.declared.Glyph.{Glyph}
use Rattle.fonts.specs.Face.{dot_of}
use Rattle.fonts.proofs.Dots.{dot-bit, dot-past}
use Rattle.paint.specs.declared.Stroke.{Stroke}
use Rattle.paint.specs.declared.Pen.{Pen}
use Rattle.paint.specs.Pen.{stroke_words, mask_from, mask_at, picture_effect, in_row, on_panel}
use Rattle.paint.proofs.Marks.{mask-above, mask-under, mask_lt}

-- the effect on a word, by its row and its place in the row
pub picture-at : (dot : Glyph → ℕ → ℕ → ℕ) (k : Stroke) (pen : Pen) (g : Glyph) (row w : ℕ) → w < k.rowwords
    → picture_effect dot k pen g (row * k.rowwords + w) ≡ effect_of k.mode (mask_from dot k pen g row (16 * w))
unfolding picture_effect mask_at
picture-at dot k pen g row w h =
    ap₂ (λ (r c : ℕ). effect_of k.mode (mask_from dot k pen g r (16 * c)))
    (row_of row k.rowwords w h) (word-of-row row k.rowwords w h)

-- ---- which words a picture leaves alone

pub no-marks : (mode : Mode) (mask : ℕ) → mask ≡ 0 → effect_of mode mask ≡ identity
no-marks Paint mask e = ap (effect_of Paint) e
no-marks Erase mask e = ap (effect_of Erase) e
no-marks Invert mask e = ap (effect_of Invert) e

module _ {f : Effect → Effect} (way : Carried f) (dot : Glyph → ℕ → ℕ → ℕ) (k : Stroke) (pen : Pen) (g : Glyph)
    (bits : (r j : ℕ) → dot g r j < 2)
    (past : (r j : ℕ) → g.height ≤ r → dot g r j ≡ 0)
    (lent : List ℕ) (words : AllWords lent) where
  abbrev effect : ℕ → Effect
  effect i = f (picture_effect dot k pen g i)

  -- a word without a mark
  unmarked : (i : ℕ) → mask_at dot k pen g i ≡ 0 → effect i ≡ identity
  unfolding picture_effect
  unmarked i e = ap f (no-marks k.mode _ e) ∙ way.still

  pub effect_words : (i : ℕ) → OfWords (effect i)
  unfolding picture_effect mask_at
  effect_words i =
      way.words _ (mode-words k.mode _ (mask_lt dot k pen g (i / k.rowwords) (16 * (i % k.rowwords)) bits))

  after-words : (from n : ℕ) → AllWords (altered from n effect lent)
  after-words from n = altered-words from n effect lent effect_words words

  -- the rows above it
  pub above-idle : (rows : ℕ) → 0 < k.rowwords → rows ≤ k.y - (2048 + g.ascent) → altered 0 (rows * k.rowwords) effect lent ≡ lent
  unfolding mask_at
  above-idle rows some h =
      altered-idle 0 (rows * k.rowwords) effect lent words
      (λ j less.
      let i = 0 + j in
      let row : i / k.rowwords < rows = (div-lt_iff_lt-mul some).1 (rw (zero-add j) less) in
      unmarked i (sym (mask-above dot k pen g (i / k.rowwords) (16 * (i % k.rowwords)) (omega arith))))

  -- the rows below it
  pub under-idle : (end : ℕ) → 0 < k.rowwords → end ≡ min k.rows (k.y + g.height - (2048 + g.ascent))
      → altered 0 (end * k.rowwords) effect lent ≡ on_panel effect k lent
  unfolding mask_at
  under-idle end some h =
      let rest = (k.rows - end) * k.rowwords in
      let le : end ≤ k.rows = omega arith in
      let whole : end * k.rowwords + rest ≡ stroke_words k =
      sym (add-mul end (k.rows - end) k.rowwords) ∙ ap (λ (n : ℕ). n * k.rowwords) (add-sub_of_le le)
      ∙ mul_comm k.rows k.rowwords in
      sym
      (altered-idle (0 + end * k.rowwords) rest effect (altered 0 (end * k.rowwords) effect lent) (after-words 0 (end * k.rowwords))
      (λ j less.
      let i = 0 + end * k.rowwords + j in
      let from : end ≤ i / k.rowwords = (le-div_iff_mul-le some).1 (omega arith) in
      let upto : i / k.rowwords < k.rows = (div-lt_iff_lt-mul some).1 (omega (arith, whole, mul_comm k.rows k.rowwords)) in
      unmarked i (mask-under dot k pen g (i / k.rowwords) (16 * (i % k.rowwords)) past (omega arith))))
      ∙ sym (altered-on 0 (end * k.rowwords) rest effect lent)
      ∙ ap (λ (n : ℕ). altered 0 n effect lent) whole

-- one row more
pub row_more : (k : Stroke) (effect : ℕ → Effect) (row : ℕ) (now lent : List ℕ) → now ≡ altered 0 (row * k.rowwords) effect lent
    → in_row effect k row now ≡ altered 0 ((row + 1) * k.rowwords) effect lent
row_more k effect row now lent same =
    let at = row * k.rowwords in
    ap (altered at k.rowwords effect) same
    ∙ ap (λ (i : ℕ). altered i k.rowwords effect (altered 0 at effect lent)) (sym (zero-add at))
    ∙ sym (altered-on 0 at k.rowwords effect lent)
    ∙ ap (λ (n : ℕ). altered 0 n effect lent) (sym (ap (λ (n : ℕ). n * k.rowwords) (add-one row) ∙ suc-mul row k.rowwords))

-- ---- what a loop alters with the dots of a font: over the words of a row, and over the rows

module _ {f : Effect → Effect} (way : Carried f) (font : List ℕ) (k : Stroke) (pen : Pen) (g : Glyph) (lent : List ℕ) where
  abbrev marks : ℕ → Effect
  marks i = f (picture_effect (dot_of font) k pen g i)

  module _ (words : AllWords lent) where
    pub picture-begins : (row : ℕ) → 0 < k.rowwords → row ≤ k.y - (2048 + g.ascent) → lent ≡ altered 0 (row * k.rowwords) marks lent
    picture-begins row some first =
        sym (above-idle way (dot_of font) k pen g (dot-bit font g) (dot-past font g) lent words row some first)

    pub picture-ends : (row end : ℕ) (now : List ℕ) → 0 < k.rowwords → row ≡ end
        → end ≡ min k.rows (k.y + g.height - (2048 + g.ascent))
        → now ≡ altered 0 (row * k.rowwords) marks lent → now ≡ on_panel marks k lent
    picture-ends row end now some there last same =
        same
        ∙ ap (λ (n : ℕ). altered 0 (n * k.rowwords) marks lent) there
        ∙ under-idle way (dot_of font) k pen g (dot-bit font g) (dot-past font g) lent words end some last
