-- A text that is marked, one character at a time: where a loop over it is, by the marks that are still to be made.
use Prim.Native.Nat.{ℕ, ◌+◌, ◌<◌, ◌≤◌}
use mathlib.Core.Path.{◌≡◌, refl, sym, ap, ◌∙◌}
use mathlib.Core.Bool.{Bool, true, false}
use mathlib.Core.List.{List}
use lib.ListN.{length, get_or, drop}
use Rattle.words.proofs.Altering.{AllWords}
use Rattle.words.proofs.Clearing.{whole}
use Rattle.fonts.specs.declared.Glyph.{Glyph}
use Rattle.fonts.specs.Face.{Face, step_of}
use Rattle.paint.specs.declared.Pen.{Pen}
use Rattle.paint.specs.declared.Stroke.{Stroke}
use Rattle.paint.specs.Pen.{pen_after, pen_along, steps_of, erasing, stroke_words, on_panel, kept_if, picture_effect}
use Rattle.paint.specs.Pen.{label_effect, erased_by}
use Rattle.paint.proofs.Along.{Gone, along-turn, along-done, gone-nowhere, gone-on}
use Rattle.paint.proofs.Labels.{drawn, pictured, drawn-turn, drawn-done}
use Rattle.paint.proofs.Settling.{kept-if, kept-erased, kept-stays}

module _ (settles : Bool) (face : Face) (k : Stroke) (text : List ℕ) (start : Pen) (keep-lent flip-lent : List ℕ) where
  -- flip, with the whole text on it, is what stands there now with the rest of the text on it, from this pen; and so is keep by Erase where
  -- the text settles, and else as it was lent
  pub record So (pen : Pen) (i : ℕ) (keep flip : List ℕ) : Type 0 where
    pub keep-words : AllWords keep
    pub flip-words : AllWords flip
    pub erased : settles ≡ true → drawn whole face (erasing k) start text keep-lent ≡ drawn whole face (erasing k) pen (drop i text) keep
    pub stays : settles ≡ false → keep ≡ keep-lent
    pub flipped : drawn whole face k start text flip-lent ≡ drawn whole face k pen (drop i text) flip
    pub along : pen_along (steps_of face) start text ≡ pen_along (steps_of face) pen (drop i text)
    pub gone : Gone start pen i

  pub begun : AllWords keep-lent → AllWords flip-lent → So start 0 keep-lent flip-lent
  begun keep-words flip-words =
      record {
        keep-words = keep-words;
        flip-words = flip-words;
        erased = λ settles. refl;
        stays = λ not. refl;
        flipped = refl;
        along = refl;
        gone = gone-nowhere _;
      }

  module _ (pen : Pen) (i : ℕ) (keep flip : List ℕ) (so : So pen i keep flip) where
    module _ (here : i < length text) (g : Glyph) (shown : g ≡ face.glyph (get_or text i 0)) (next : Pen)
        (moved : next ≡ pen_after pen (step_of g)) where
      pen-moved : next ≡ pen_after pen (step_of (face.glyph (get_or text i 0)))
      pen-moved = moved ∙ ap (λ (g : Glyph). pen_after pen (step_of g)) shown

      pub so-far : (keep-next flip-next : List ℕ) → AllWords keep-next → AllWords flip-next
          → (settles ≡ true → stroke_words k ≤ length keep) → stroke_words k ≤ length flip
          → keep-next ≡ kept_if settles (picture_effect face.dot (erasing k) pen g) k keep
          → flip-next ≡ on_panel (picture_effect face.dot k pen g) k flip
          → (next.place ≤ pen.place + 65535) × (next.substitutes ≤ pen.substitutes + 1)
          → So next (i + 1) keep-next flip-next
      unfolding erasing
      so-far keep-next flip-next keep-words flip-words keep-room flip-room kept marks near =
          record {
            keep-words = keep-words;
            flip-words = flip-words;
            erased = λ sure. so.erased sure ∙ drawn-turn whole face (erasing k) text i pen next keep keep-next here
                (keep-room sure) pen-moved
                (kept-erased settles _ k keep keep-next kept sure
                ∙ ap (λ (g : Glyph). pictured whole face (erasing k) pen g keep) shown);
            stays = λ not. kept-stays settles _ k keep keep-next kept not ∙ so.stays not;
            flipped = so.flipped ∙ drawn-turn whole face k text i pen next flip flip-next here flip-room pen-moved
                (marks ∙ ap (λ (g : Glyph). pictured whole face k pen g flip) shown);
            along = so.along ∙ along-turn (steps_of face) text i pen next here pen-moved;
            gone = gone-on start pen next i so.gone near;
          }

    module _ (past : length text ≤ i) where
      pub last-is : pen ≡ pen_along (steps_of face) start text
      last-is = sym (so.along ∙ along-done (steps_of face) text i pen past)

      pub keep-is : keep ≡ kept_if settles (erased_by face k start text) k keep-lent
      unfolding erasing
      keep-is =
          kept-if settles _ k keep-lent keep
          (λ sure. sym (so.erased sure ∙ drawn-done whole face (erasing k) text i pen keep past so.keep-words)) so.stays

      pub flip-is : flip ≡ on_panel (label_effect face k start text) k flip-lent
      flip-is = sym (so.flipped ∙ drawn-done whole face k text i pen flip past so.flip-words)
