-- What a label would leave lit, found out on a copy of the strip's words in one row: these are the words that painting leaves there.
use Prim.Native.Nat.{ℕ, ◌+◌, ◌*◌, ◌<◌, ◌≤◌}
use mathlib.Core.Path.{◌≡◌, refl, sym, ap, ap₂, ◌∙◌}
use mathlib.Core.Bool.{Bool, true, false, cond, ◌||◌, ◌&&◌}
use mathlib.Core.List.{List, [], ◌∷◌}
use native.Mathlib.Nat.{zero-mul, mul-one, mul_comm, add-mul, one-mul, mul-le-mul_right}
use native.Mathlib.Omega.{arith}
use lib.Bits.{bit_and}
use lib.Count.{ones}
use lib.Dec.{eqb, ltb, leb}
use lib.ListN.{length}
use borrow.Author.Tests.{le-ltb, le-leb}
use Rattle.words.specs.Word.{word}
use Rattle.words.specs.Refusal.{first_of, or_else, not_within}
use Rattle.words.specs.Effect.{apply_to, altered}
use Rattle.words.proofs.Altering.{from_zero, altered-length}
use Rattle.words.proofs.Passed.{neither}
use Rattle.words.proofs.Search.{sum_same}
use Rattle.fonts.specs.Face.{Face}
use Rattle.paint.specs.declared.Shape.{Shape}
use Rattle.paint.specs.declared.Label.{Label}
use Rattle.paint.specs.Panel.{panel_words, one_row, bad_sides, bad_shape, some_short, bad_panel, panel_number}
use Rattle.paint.specs.Label.{number_with, effect_with, paint_with, row_with}
use Rattle.paint.proofs.Accepted.{good-panel, accepted-label}
use Rattle.paint.proofs.Replies.{panel-good, label-good}
use Rattle.counts.specs.declared.Band.{Band}
use Rattle.counts.specs.Band.{band_of, mask_of, lit_in_word, lit_in_words, lit_in, copied_to, Inside}
use Rattle.counts.proofs.Bands.{band-dots}
use Rattle.counts.proofs.Copying.{copied-length, copied_at}
use Rattle.counts.proofs.Settling.{good-width, strip-within, inside-rows}

-- ---- a panel of one row is accepted where the whole one is

one-within : not_within 1 256 1 ≡ false
unfolding not_within
one-within = refl

one-row-good : (s : Shape) (room : ℕ) → bad_panel s (room ∷ []) ≡ false → bad_panel (one_row s) (128 ∷ []) ≡ false
unfolding bad_panel bad_shape bad_sides some_short
one-row-good s room e =
    let shape = (neither (bad_shape s) (some_short s (room ∷ [])) e).0 in
    let sides-strips = neither (bad_sides s) (ltb (16 * s.rowwords) (32 * s.width)) shape in
    let rows-width = neither (not_within 1 128 s.rowwords || not_within 1 256 s.rows) (not_within 1 64 s.width) sides-strips.0 in
    let words = (neither (not_within 1 128 s.rowwords) (not_within 1 256 s.rows) rows-width.0).0 in
    let narrow = (good-panel s room e).narrow in
    let one = mul-one s.rowwords in
    rw (words, one-within, rows-width.1, sides-strips.1, le-ltb 128 (s.rowwords * 1) (omega (arith, narrow, one)))

pub one-row-accepted : (s : Shape) (room : ℕ) (l : Label) (bytes : ℕ) → number_with s (room ∷ []) l bytes ≡ 0
    → 0 ≡ number_with (one_row s) (128 ∷ []) l bytes
unfolding number_with panel_number first_of or_else
one-row-accepted s room l bytes e =
    let good = one-row-good s room (panel-good s (room ∷ []) l bytes (sym e)) in
    rw good (sym (label-good s (room ∷ []) l bytes (sym e)))

pub alone-inside : (s : Shape) (room k : ℕ) → bad_panel s (room ∷ []) ≡ false → k ≤ 31 → Inside (band_of s k 0 1) 128
unfolding band_of
alone-inside s room k good one = inside-rows (one_row s) k 128 (one-row-good s room good) one 0 1 (omega arith)

-- ---- a band of one row, where its words stand elsewhere

module _ (s : Shape) (k row : ℕ) where
  abbrev alone : Band
  alone = band_of s k 0 1

  abbrev there : Band
  there = band_of s k row 1

  first-row : (at i : ℕ) → i < 1 → at + i * s.rowwords ≡ at
  first-row at i less =
      let none : i ≡ 0 = omega (arith, less) in
      let zero-rows = ap (λ (n : ℕ). n * s.rowwords) none ∙ zero-mul s.rowwords in
      omega (arith, zero-rows)

  pub band-moved : (f g : ℕ → ℕ) → ((w : ℕ) → w ≤ there.last → f (alone.at + w) ≡ g (there.at + w))
      → lit_in_words alone f (alone.last + 1) ≡ lit_in_words there g (there.last + 1)
  unfolding lit_in_words lit_in_word band_of mask_of
  band-moved f g same =
      sum_same (there.last + 1) _ _ (λ w few. sum_same 1 _ _ (λ i less.
      ap (λ (d : ℕ). ones (bit_and d (mask_of there w)))
      (ap f (first-row (alone.at + w) i less) ∙ same w (omega (arith, few)) ∙ sym (ap g (first-row (there.at + w) i less)))))

-- ---- the words that painting the copy leaves

module _ (face : Face) (s : Shape) (l : Label) (text panel : List ℕ) (row : ℕ)
    (accepted : number_with s (length panel ∷ []) l (length text) ≡ 0) (below : row < s.rows) where
  abbrev k : ℕ
  k = l.strip

  abbrev from : Band
  from = band_of s k row 1

  abbrev to : Band
  to = band_of s k 0 1

  good : bad_panel s (length panel ∷ []) ≡ false
  good = panel-good s (length panel ∷ []) l (length text) (sym accepted)

  own-strip : k ≤ 31
  own-strip = (accepted-label s (length panel) l (length text) (sym accepted)).strip

  place_is : from.at ≡ row * s.rowwords + to.at
  unfolding band_of
  place_is = let none = zero-mul s.rowwords in omega (arith, none)

  pub in-one-row : to.at + from.last < s.rowwords
  unfolding band_of
  in-one-row =
      let none = zero-mul s.rowwords in
      let fits = strip-within s k (length panel) good own-strip in
      let wide = (good-width s (length panel) good).0 in
      omega (arith, none, fits, wide)

  pub in-panel : from.at + from.last < panel_words s
  in-panel =
      let at = place_is in
      let line = in-one-row in
      let down : (row + 1) * s.rowwords ≤ s.rows * s.rowwords = mul-le-mul_right s.rowwords (omega (arith, below)) in
      let up = add-mul row 1 s.rowwords in
      let one = one-mul s.rowwords in
      let turned = mul_comm s.rows s.rowwords in
      omega (arith, at, line, down, up, one, turned)

  module _ (space : List ℕ) (long : length space ≡ 128) where
    abbrev copied : List ℕ
    copied = copied_to panel from.at to.at (from.last + 1) space

    copied-long : length copied ≡ 128
    copied-long = copied-length panel from.at to.at (from.last + 1) space ∙ long

    pub row-long : length (row_with face s l text row copied) ≡ 128
    unfolding row_with
    row-long = by-test (leb row 255 && eqb (number_with (one_row s) (length copied ∷ []) l (length text)) 0)
      where
        painted : List ℕ
        painted = altered 0 s.rowwords (λ w. effect_with face s l text (row * s.rowwords + w)) copied

        by-test : (t : Bool) → length (cond t painted copied) ≡ 128
        by-test true = altered-length 0 (λ w. effect_with face s l text (row * s.rowwords + w)) copied s.rowwords ∙ copied-long
        by-test false = copied-long

    left_word : (w : ℕ) → w ≤ from.last
        → word (row_with face s l text row copied) (to.at + w) ≡ word (paint_with face s l text panel) (from.at + w)
    unfolding row_with paint_with
    left_word w few =
        let p = good-panel s (length panel) good in
        let low = p.low in
        let line = in-one-row in
        let lent = in-panel in
        let size = copied-long in
        let narrow = p.narrow in
        let passes = one-row-accepted s (length panel) l (length text) accepted in
        let at = place_is in
        let index : row * s.rowwords + (to.at + w) ≡ from.at + w = omega (arith, at) in
        let held = copied_at panel from.at to.at (from.last + 1) space w (omega (arith, few)) (omega (arith, long, line, narrow)) in
        let alone = from_zero (λ i. effect_with face s l text (row * s.rowwords + i)) copied s.rowwords (to.at + w)
        (omega (arith, line, few))
        (omega (arith, size, narrow)) in
        let whole = from_zero (effect_with face s l text) panel (panel_words s) (from.at + w) (omega (arith, lent, few)) p.long in
        rw (le-leb row 255 (omega (arith, low, below)), copied-long)
        (rw (← passes) (rw accepted
        (alone ∙ ap₂ (λ (i d : ℕ). apply_to (effect_with face s l text i) d) index held ∙ sym whole)))

    pub left_alone : lit_in_words to (word (row_with face s l text row copied)) (to.last + 1)
        ≡ lit_in s k row 1 (paint_with face s l text panel)
    left_alone =
        band-moved s k row (word (row_with face s l text row copied)) (word (paint_with face s l text panel)) left_word
        ∙ band-dots s k row 1 (good-width s (length panel) good).0 (paint_with face s l text panel)
