-- The reply of a call, and what it leaves in lent memory, once its number is known.
use Prim.Native.Nat.{ℕ, ◌≤◌, min}
use mathlib.Core.Path.{◌≡◌, refl, sym, ap, ◌∙◌}
use mathlib.Core.Bool.{true, false}
use mathlib.Core.List.{List, [], ◌∷◌}
use lib.ListN.{length}
use lib.Dec.{ltb}
use lib.IntN.{ℤ}
use native.Mathlib.Omega.{arith}
use borrow.Author.Tests.{ne_eqb, eqb-false, ltb-false}
use Rattle.std.specs.declared.result.Result.TheVariants.{Ok, Err}
use Rattle.words.specs.declared.refusal.Refusal.{Refusal}
use Rattle.words.specs.Refusal.{number_of, first_of, or_else}
use Rattle.words.proofs.Refusals.{number-not-0, answered-value, answered-refusal}
use Rattle.words.specs.Effect.{altered}
use Rattle.words.specs.Place.{outside}
use Rattle.words.proofs.Chain.{stage-stops, stage-goes-on}
use Rattle.words.proofs.Passed.{passed, stages-passed}
use Rattle.fonts.specs.declared.View.{View}
use Rattle.fonts.specs.Strike.{view_of}
use Rattle.fonts.specs.Reading.{font_number}
use Rattle.fonts.specs.Face.{Face, face_from, face_of}
use Rattle.paint.specs.declared.Shape.{Shape}
use Rattle.paint.specs.declared.Label.{Label}
use Rattle.paint.specs.declared.Pen.{Pen}
use Rattle.paint.specs.Panel.{panel_words, bad_panel, panel_number}
use Rattle.paint.specs.Label.{Call, label_number, number_with, call_number, last_pen, finish_of, reply_for, reply_with, reply_of}
use Rattle.paint.specs.Label.{effect_with, paint_with, paint_after, join_with, measure_number, number_after, measure_with, measure_for}
use Rattle.paint.specs.Sheet.{Sheet, lengths, joined}
use Rattle.paint.proofs.Slices.{good-number, shorter-number}

pub replies-done : (number : ℕ) (pen last : Pen) → 0 ≡ number → pen ≡ last → Ok (finish_of pen) ≡ reply_for number last
replies-done number pen last e same = ap (λ (p : Pen). Ok (finish_of p)) same ∙ answered-value number (finish_of last) e

-- what measuring that is not refused promises of x and of the text
pub measure-good : (x : ℤ) (bytes : ℕ) → measure_number x bytes ≡ 0 → (outside x ≡ false) × (bytes ≤ 64)
unfolding measure_number first_of
measure-good x bytes e =
    let place = passed (outside x) 10 _ (omega arith) e in
    (place.0, ltb-false 64 bytes (passed (ltb 64 bytes) 11 _ (omega arith) place.1).0)

-- ---- with a font that has been read

module _ (face : Face) (x : ℤ) (text : List ℕ) where
  pub measuring-refused : (refusal : Refusal) → number_of refusal ≡ measure_number x (length text) → Err refusal ≡ measure_with face x text
  unfolding measure_with
  measuring-refused refusal e = answered-refusal refusal _ _ e

  pub measuring-done : (pen : Pen) → 0 ≡ measure_number x (length text) → pen ≡ last_pen face x text
      → Ok (finish_of pen) ≡ measure_with face x text
  unfolding measure_with
  measuring-done pen e last = replies-done _ pen _ e last

module _ (face : Face) (s : Shape) (l : Label) (text : List ℕ) where
  pub panel-stays : (refusal : Refusal) (panel : List ℕ) → number_of refusal ≡ number_with s (length panel ∷ []) l (length text)
      → panel ≡ paint_with face s l text panel
  unfolding paint_with
  panel-stays refusal panel e = rw (← e) (rw (ne_eqb (number_of refusal) 0 (number-not-0 refusal)))

  pub panel-painted : (after panel : List ℕ) → 0 ≡ number_with s (length panel ∷ []) l (length text)
      → after ≡ altered 0 (panel_words s) (effect_with face s l text) panel → after ≡ paint_with face s l text panel
  unfolding paint_with
  panel-painted after panel e h = rw (← e) h

  pub sheet-stays : (refusal : Refusal) (sheet : Sheet) → number_of refusal ≡ number_with s (lengths sheet) l (length text)
      → sheet ≡ join_with face s l text sheet
  unfolding join_with
  sheet-stays refusal sheet e = rw (← e) (rw (ne_eqb (number_of refusal) 0 (number-not-0 refusal)))

  pub sheet-joined : (sheet : Sheet) → 0 ≡ number_with s (lengths sheet) l (length text)
      → joined s (effect_with face s l text) sheet ≡ join_with face s l text sheet
  unfolding join_with
  sheet-joined sheet e = rw (← e)

-- ---- the font's number first

module _ (font : List ℕ) where
  -- a font that is accepted leaves the number to what comes after it
  pub font-passed : (rest : ℕ) → font_number font ≡ 0 → rest ≡ or_else (font_number font) rest
  font-passed rest good = stage-goes-on rest _ _ _ (sym good) refl refl

  pub font-refuses : (refusal : Refusal) (rest : ℕ) → number_of refusal ≡ font_number font
      → number_of refusal ≡ or_else (font_number font) rest
  font-refuses refusal rest e = stage-stops (number_of refusal) _ rest e (number-not-0 refusal)

  pub face-read : (v : View) → v ≡ view_of font → face_from v font ≡ face_of font
  unfolding face_of
  face-read v same = ap (λ (w : View). face_from w font) same

  module _ (v : View) (good : font_number font ≡ 0) (same : v ≡ view_of font) where
    module _ (s : Shape) (l : Label) (text : List ℕ) where
      abbrev call : Call
      call = record { font = font; label = l; text = text }

      pub number_read : (lent : List ℕ) → number_with s lent l (length text) ≡ call_number s lent call
      unfolding call_number
      number_read lent = font-passed (number_with s lent l (length text)) good

      pub reply-read : (lent : List ℕ) → reply_with (face_from v font) s lent l text ≡ reply_of s lent call
      unfolding reply_with reply_of
      reply-read lent =
          ap (λ (face : Face). reply_for (number_with s lent l (length text)) (last_pen face l.x text)) (face-read v same)
          ∙ ap (λ (n : ℕ). reply_for n (last_pen (face_of font) l.x text)) (number_read lent)

      pub paint-read : (panel : List ℕ) → paint_with (face_from v font) s l text panel ≡ paint_after s call panel
      unfolding paint_after paint_with
      paint-read panel = rw (face-read v same, number_read (length panel ∷ []))

-- ---- a font that is refused

module _ (call : Call) (refusal : Refusal) (e : number_of refusal ≡ font_number call.font) where
  pub number-refused : (s : Shape) (lent : List ℕ) → number_of refusal ≡ call_number s lent call
  unfolding call_number
  number-refused s lent = font-refuses call.font refusal _ e

  pub reply-refused : (s : Shape) (lent : List ℕ) → Err refusal ≡ reply_of s lent call
  unfolding reply_of
  reply-refused s lent = answered-refusal refusal _ _ (number-refused s lent)

  pub paint-refused : (s : Shape) (panel : List ℕ) → panel ≡ paint_after s call panel
  unfolding paint_after
  paint-refused s panel = rw (← number-refused s (length panel ∷ [])) (rw (ne_eqb (number_of refusal) 0 (number-not-0 refusal)))

-- measuring, where the font in words or in bytes has this number
module _ (number : ℕ) (font : List ℕ) (x : ℤ) (text : List ℕ) where
  module _ (refusal : Refusal) (e : number_of refusal ≡ number) where
    pub measure-number-refused : number_of refusal ≡ number_after number x (length text)
    unfolding number_after
    measure-number-refused = stage-stops (number_of refusal) number _ e (number-not-0 refusal)

    pub measure-refused : Err refusal ≡ measure_for number font x text
    unfolding measure_for
    measure-refused = answered-refusal refusal _ _ measure-number-refused

  module _ (good : number ≡ 0) where
    pub measure-number-read : measure_number x (length text) ≡ number_after number x (length text)
    unfolding number_after
    measure-number-read = stage-goes-on _ 0 number _ (sym good) refl refl

    pub measured : (v : View) → v ≡ view_of font → measure_with (face_from v font) x text ≡ measure_for number font x text
    unfolding measure_with measure_for
    measured v same =
        ap (λ (face : Face). reply_for (measure_number x (length text)) (last_pen face x text)) (face-read font v same)
        ∙ ap (λ (n : ℕ). reply_for n (last_pen (face_of font) x text)) measure-number-read

-- ---- 8, and then the label's own numbers

module _ (s : Shape) (lent : List ℕ) (l : Label) (bytes : ℕ) where
  pub by-panel : bad_panel s lent ≡ true → 8 ≡ number_with s lent l bytes
  unfolding number_with panel_number first_of
  by-panel bad = stage-stops 8 _ _ (rw bad) (λ z. absurd (eqb-false 8 0 refl z))

  pub by-label : (n : ℕ) → bad_panel s lent ≡ false → n ≡ label_number l bytes → n ≡ number_with s lent l bytes
  unfolding number_with panel_number first_of
  by-label n good own = stage-goes-on n 0 _ _ (rw good) refl own

  -- what an accepted number promises
  pub panel-good : 0 ≡ number_with s lent l bytes → bad_panel s lent ≡ false
  unfolding number_with
  panel-good e = good-number s lent (sym (stages-passed _ _ (sym e)).0)

  pub label-good : 0 ≡ number_with s lent l bytes → label_number l bytes ≡ 0
  unfolding number_with
  label-good e = (stages-passed _ _ (sym e)).1

-- the shorter of two lent slices decides for both
pub shorter-with : (s : Shape) (a b : ℕ) (l : Label) (bytes : ℕ) → number_with s (min a b ∷ []) l bytes ≡ number_with s (a ∷ b ∷ []) l bytes
unfolding number_with
shorter-with s a b l bytes = ap (λ (m : ℕ). or_else m (label_number l bytes)) (shorter-number s a b [])
