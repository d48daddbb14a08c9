-- Where a picture settles, its dots are no longer kept: keep changes as by Erase. Where it does not, keep stays.
use Prim.Native.Nat.{ℕ, ◌≤◌}
use mathlib.Core.Path.{◌≡◌, refl, sym, ap, ◌∙◌}
use mathlib.Core.Bool.{Bool, true, false, cond}
use mathlib.Core.List.{List}
use lib.ListN.{length}
use Rattle.words.specs.declared.Effect.{Effect}
use Rattle.words.specs.declared.Mode.{Mode}
use Rattle.words.specs.declared.Mode.TheVariants.{Paint, Erase, Invert}
use Rattle.words.specs.Effect.{cleared}
use Rattle.words.proofs.Altering.{AllWords, altered-length}
use Rattle.fonts.specs.declared.Glyph.{Glyph}
use Rattle.fonts.specs.Face.{Face, dot_of}
use Rattle.paint.specs.declared.Stroke.{Stroke}
use Rattle.paint.specs.declared.Pen.{Pen}
use Rattle.paint.specs.Pen.{Drawable, erasing, stroke_words, on_panel, kept_if, picture_effect, label_effect}
use Rattle.paint.specs.Reach.{shared, reach_over, reach_of, rows_drawn, rows_kept}
use Rattle.paint.specs.declared.Reach.{Reach}
use Rattle.paint.proofs.Drawing.{nothing-drawn, stays}
use Rattle.paint.proofs.Reaching.{flip-drawn, keep-drawn}
use Rattle.paint.proofs.Keeping.{Clears, picture-cleared, keep-erased, keep-stays, erasing-drawable}

-- both cases
pub kept-if : (t : Bool) (effect : ℕ → Effect) (k : Stroke) (lent after : List ℕ)
    → (t ≡ true → after ≡ on_panel effect k lent) → (t ≡ false → after ≡ lent) → after ≡ kept_if t effect k lent
kept-if true effect k lent after settles stays = settles refl
kept-if false effect k lent after settles stays = stays refl

pub kept-length : (t : Bool) (effect : ℕ → Effect) (k : Stroke) (lent after : List ℕ) → after ≡ kept_if t effect k lent
    → length after ≡ length lent
kept-length true effect k lent after kept = ap length kept ∙ altered-length 0 effect lent (stroke_words k)
kept-length false effect k lent after kept = ap length kept

module _ (t : Bool) (effect : ℕ → Effect) (k : Stroke) (lent after : List ℕ) (kept : after ≡ kept_if t effect k lent) where
  pub kept-erased : t ≡ true → after ≡ on_panel effect k lent
  kept-erased sure = kept ∙ ap (λ (t : Bool). kept_if t effect k lent) sure

  pub kept-stays : t ≡ false → after ≡ lent
  kept-stays not = kept ∙ ap (λ (t : Bool). kept_if t effect k lent) not

-- what can be drawn on can be in other words too, where these are enough
pub other-room : (k : Stroke) (n m : ℕ) → Drawable k n → stroke_words k ≤ m → Drawable k m
other-room k n m d enough = (d.0, d.1, d.2, d.3, d.4, d.5, enough)

-- the mode does not change what a picture reaches
reach-erasing : (g : Glyph) (k : Stroke) (pen : Pen) → reach_of g (erasing k) pen ≡ reach_of g k pen
unfolding erasing reach_of shared reach_over
reach-erasing g k pen = refl

-- Paint and Erase clear as Erase does, and so do the loops
clears-by : (mode : Mode) → (mode ≡ Invert → ⊥) → Clears mode
clears-by Paint not mask = refl
clears-by Erase not mask = refl
clears-by Invert not mask = absurd (not refl)

kept-by : (font : List ℕ) (r : Reach) (lent : List ℕ) (mode : Mode) → (mode ≡ Invert → ⊥)
    → rows_drawn font r Erase r.rows lent ≡ rows_kept font r mode lent
unfolding rows_kept
kept-by font r lent Paint not = refl
kept-by font r lent Erase not = refl
kept-by font r lent Invert not = absurd (not refl)

module _ (font : List ℕ) (pen : Pen) (g : Glyph) (all : AllWords font) (behind : 1 ≤ g.bitmap) (lent : List ℕ) (words : AllWords lent) where
  settled-by : (k : Stroke) → (k.mode ≡ Invert → ⊥) → Drawable k (length lent)
      → rows_drawn font (reach_of g k pen) Erase (reach_of g k pen).rows lent
      ≡ on_panel (picture_effect (dot_of font) (erasing k) pen g) k lent
  settled-by k not drawable =
      let face : Face = record { glyph = λ c. g; dot = dot_of font } in
      kept-by font (reach_of g k pen) lent k.mode not
      ∙ keep-drawn font k pen g all behind lent words drawable
      ∙ (λ t. on_panel (λ i. picture-cleared face k i (clears-by k.mode not) pen g t) k lent)

module _ (font : List ℕ) (k : Stroke) (pen : Pen) (g : Glyph) (all : AllWords font) (behind : 1 ≤ g.bitmap)
    (lent : List ℕ) (words : AllWords lent) (drawable : Drawable k (length lent)) where
  pub settled : rows_drawn font (reach_of g k pen) Erase (reach_of g k pen).rows lent
      ≡ on_panel (picture_effect (dot_of font) (erasing k) pen g) k lent
  unfolding erasing
  settled = by_mode k.mode refl
    where
      by_mode : (mode : Mode) → k.mode ≡ mode
          → rows_drawn font (reach_of g k pen) Erase (reach_of g k pen).rows lent
          ≡ on_panel (picture_effect (dot_of font) (erasing k) pen g) k lent
      by_mode Paint is = settled-by font pen g all behind lent words k (λ inverts. cc) drawable
      by_mode Erase is = settled-by font pen g all behind lent words k (λ inverts. cc) drawable
      by_mode Invert is =
          (λ t. rows_drawn font (sym (reach-erasing g k pen) t) Erase (sym (reach-erasing g k pen) t).rows lent)
          ∙ settled-by font pen g all behind lent words (erasing k) (λ inverts. cc)
          (erasing-drawable k (erasing k) (length lent) refl drawable)

-- ---- what the loops draw of a picture's reach is the picture, on flip and on keep

module _ (font : List ℕ) (k : Stroke) (pen : Pen) (g : Glyph) (all : AllWords font) (behind : 1 ≤ g.bitmap)
    (r : Reach) (is : r ≡ reach_of g k pen) where
  module _ (lent : List ℕ) (words : AllWords lent) (drawable : Drawable k (length lent)) where
    pub flip-marked : (after : List ℕ) → after ≡ rows_drawn font r k.mode r.rows lent
        → after ≡ on_panel (picture_effect (dot_of font) k pen g) k lent
    flip-marked after drew =
        drew ∙ ap (λ (r : Reach). rows_drawn font r k.mode r.rows lent) is ∙ flip-drawn font k pen g all behind lent words drawable

    -- where it reaches no row nothing changes
    pub flip-none : r.rows ≡ 0 → lent ≡ on_panel (picture_effect (dot_of font) k pen g) k lent
    flip-none none =
        flip-marked lent
        (nothing-drawn font r k.mode lent ∙ ap (λ (n : ℕ). rows_drawn font r k.mode n lent) (sym none))

  module _ (t : Bool) (lent : List ℕ) (words : AllWords lent) (drawable : t ≡ true → Drawable k (length lent)) where
    pub keep-marked : (after : List ℕ) → after ≡ cond t (rows_drawn font r Erase r.rows lent) lent
        → after ≡ kept_if t (picture_effect (dot_of font) (erasing k) pen g) k lent
    keep-marked after drew =
        kept-if t _ k lent after
        (λ settles. drew ∙ ap (λ (t : Bool). cond t (rows_drawn font r Erase r.rows lent) lent) settles
        ∙ ap (λ (r : Reach). rows_drawn font r Erase r.rows lent) is ∙ settled font k pen g all behind lent words (drawable settles))
        (λ not. drew ∙ ap (λ (t : Bool). cond t (rows_drawn font r Erase r.rows lent) lent) not)

    pub keep-none : r.rows ≡ 0 → lent ≡ kept_if t (picture_effect (dot_of font) (erasing k) pen g) k lent
    keep-none none =
        keep-marked lent
        (stays t lent
        ∙ ap (λ (drawn : List ℕ). cond t drawn lent)
        (nothing-drawn font r Erase lent ∙ ap (λ (n : ℕ). rows_drawn font r Erase n lent) (sym none)))

-- a text that settles by Paint and by Erase, and not by Invert: what its effect clears is no longer kept
module _ (face : Face) (k : Stroke) (pen : Pen) (text lent after : List ℕ) where
  pub kept-by-clearing : Clears k.mode → after ≡ on_panel (label_effect face (erasing k) pen text) k lent
      → after ≡ on_panel (cleared (label_effect face k pen text)) k lent
  unfolding erasing
  kept-by-clearing settles kept = kept ∙ keep-erased face k pen text lent settles

  pub kept-by-invert : k.mode ≡ Invert → AllWords lent → after ≡ lent → after ≡ on_panel (cleared (label_effect face k pen text)) k lent
  kept-by-invert inverts words kept = kept ∙ keep-stays face k pen text lent inverts words
