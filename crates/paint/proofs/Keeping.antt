-- What a text clears of the keep of a sheet: by Paint and Erase what Erase would clear, and by Invert nothing.
use Prim.Native.Nat.{ℕ}
use mathlib.Core.Path.{◌≡◌, refl, sym, ap, ap₂, ◌∙◌}
use mathlib.Core.List.{List, [], ◌∷◌}
use native.Mathlib.Omega.{arith}
use Rattle.words.specs.declared.Mode.{Mode}
use Rattle.words.specs.declared.Mode.TheVariants.{Invert}
use Rattle.words.specs.Effect.{identity, erase_of, effect_of, join_of, clearing, cleared}
use Rattle.words.proofs.Clearing.{clears}
use Rattle.words.proofs.Effects.{identity-join}
use Rattle.words.proofs.Altering.{AllWords, altered-idle}
use Rattle.fonts.specs.declared.Glyph.{Glyph}
use Rattle.fonts.specs.Face.{Face, step_of}
use Rattle.paint.specs.declared.Stroke.{Stroke}
use Rattle.paint.specs.declared.Pen.{Pen}
use Rattle.paint.specs.Pen.{Drawable, pen_after, erasing, stroke_words, on_panel, mark, mask_from, mask_at, picture_effect, label_effect}

-- a mode clears as Erase does
abbrev pub Clears : Mode → Type 0
Clears mode = (mask : ℕ) → clearing (effect_of mode mask) ≡ erase_of mask

module _ (face : Face) (k : Stroke) (i : ℕ) where
  -- by Paint and Erase
  module _ (settles : Clears k.mode) where
    pub picture-cleared : (pen : Pen) (g : Glyph)
        → clearing (picture_effect face.dot k pen g i) ≡ picture_effect face.dot (erasing k) pen g i
    unfolding picture_effect erasing mask_at mask_from mark
    picture-cleared pen g = settles (mask_at face.dot k pen g i)

    pub text-cleared : (text : List ℕ) (pen : Pen) → clearing (label_effect face k pen text i) ≡ label_effect face (erasing k) pen text i
    unfolding label_effect
    text-cleared [] pen = refl
    text-cleared (c ∷ text) pen =
        clears.joins (picture_effect face.dot k pen (face.glyph c) i)
        (label_effect face k (pen_after pen (step_of (face.glyph c))) text i)
        ∙ ap₂ join_of (picture-cleared pen (face.glyph c)) (text-cleared text (pen_after pen (step_of (face.glyph c))))

  -- by Invert
  module _ (mode : k.mode ≡ Invert) where
    picture-kept : (pen : Pen) (g : Glyph) → clearing (picture_effect face.dot k pen g i) ≡ identity
    unfolding picture_effect
    picture-kept pen g = ap (λ (m : Mode). clearing (effect_of m (mask_at face.dot k pen g i))) mode

    pub text-kept : (text : List ℕ) (pen : Pen) → clearing (label_effect face k pen text i) ≡ identity
    unfolding label_effect
    text-kept [] pen = refl
    text-kept (c ∷ text) pen =
        clears.joins (picture_effect face.dot k pen (face.glyph c) i)
        (label_effect face k (pen_after pen (step_of (face.glyph c))) text i)
        ∙ ap₂ join_of (picture-kept pen (face.glyph c)) (text-kept text (pen_after pen (step_of (face.glyph c))))
        ∙ identity-join identity (omega arith, omega arith)

module _ (face : Face) (k : Stroke) (pen : Pen) (text lent : List ℕ) where
  pub keep-erased : Clears k.mode
      → on_panel (label_effect face (erasing k) pen text) (erasing k) lent ≡ on_panel (cleared (label_effect face k pen text)) k lent
  unfolding erasing
  keep-erased settles = λ t. on_panel (λ i. sym (text-cleared face k i settles text pen) t) k lent

  pub keep-stays : k.mode ≡ Invert → AllWords lent → lent ≡ on_panel (cleared (label_effect face k pen text)) k lent
  keep-stays mode words =
      sym (altered-idle 0 (stroke_words k) (cleared (label_effect face k pen text)) lent words (λ i less. text-kept face k _ mode text pen))

-- what can be drawn on by one mode can be by Erase
pub erasing-drawable : (k e : Stroke) (room : ℕ) → e ≡ erasing k → Drawable k room → Drawable e room
unfolding erasing
erasing-drawable k e room is drawable = rw is drawable
