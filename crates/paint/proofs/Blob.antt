-- P1, for labels. In a plain font whose dummy has no columns an absent code leaves every dot of the panel, leaves the pen, and adds one
-- substitute: among other codes (`among-…`, of which several go one by one), and in a label of such codes (`alone-…`).
use Prim.Native.Nat.{ℕ, ◌+◌, ◌*◌, ◌/◌, ◌%◌, ◌<◌, ◌≤◌}
use mathlib.Core.Path.{◌≡◌, refl, sym, ap, ◌∙◌}
use mathlib.Core.Bool.{Bool, true, false, cond}
use mathlib.Core.List.{List, [], ◌∷◌, ◌++◌}
use native.Mathlib.Nat.{add-zero, zero-add}
use native.Mathlib.Omega.{arith}
use lib.Dec.{eqb}
use lib.IntN.{ℤ}
use lib.ListN.{length}
use Rattle.words.specs.declared.Effect.{Effect}
use Rattle.words.specs.Effect.{identity, join_of, altered}
use Rattle.words.specs.Place.{outside}
use Rattle.words.proofs.Effects.{identity-join}
use Rattle.words.proofs.Altering.{AllWords, altered-idle}
use Rattle.words.proofs.Passed.{either_way, stages-passed}
use Rattle.words.proofs.Chain.{stage-goes-on}
use Rattle.words.proofs.Whole.{place-number}
use Rattle.fonts.specs.declared.Glyph.{Glyph}
use Rattle.fonts.specs.declared.Step.{Step}
use Rattle.fonts.specs.Face.{Face, face_of, step_of}
use Rattle.fonts.specs.Blob.{NoBlob, Absent, AllAbsent, Blank}
use Rattle.fonts.proofs.Blob.{absent-blank}
use Rattle.paint.specs.declared.Shape.{Shape}
use Rattle.paint.specs.declared.Label.{Label}
use Rattle.paint.specs.declared.Stroke.{Stroke}
use Rattle.paint.specs.declared.Pen.{Pen}
use Rattle.std.specs.declared.result.Result.TheVariants.{Ok}
use Rattle.words.specs.Refusal.{answered}
use Rattle.paint.specs.Panel.{panel_words}
use Rattle.paint.specs.Pen.{pen_at, pen_after, pen_along, steps_of, stroke_of, mark, mask_from, mask_at, picture_effect, label_effect}
use Rattle.paint.specs.Label.{Reply}
use Rattle.paint.specs.Label.{call_of, call_number, number_with, last_pen, reply_for, reply_of, reply_number, reply_pen, reply_substitutes}
use Rattle.paint.specs.Label.{effect_with, call_effect, paint_after, number_after, measure_for}
use Rattle.paint.proofs.Marks.{mask-none}
use Rattle.paint.proofs.Rows.{no-marks}
use Rattle.paint.proofs.Accepted.{good-label, shorter-label, shorter-measure}
use Rattle.paint.proofs.Replies.{measure-good}
use Rattle.paint.proofs.Demand.{label-words, face-bit}

-- the pen where it stands, with some substitutes more
abbrev counting : ℕ → Pen → Pen
counting n pen = record { place = pen.place; substitutes = pen.substitutes + n }

-- ---- the pen

counts-on : (t : Bool) (n : ℕ) → cond t (n + 1 + 1) (n + 1) ≡ cond t (n + 1) n + 1
counts-on true n = refl
counts-on false n = refl

moves-alike : (pen : Pen) (step : Step) → pen_after (counting 1 pen) step ≡ counting 1 (pen_after pen step)
unfolding pen_after
moves-alike pen step = λ i. record { place = pen.place + step.advance; substitutes = counts-on step.substitute pen.substitutes i }

goes-alike : (steps : ℕ → Step) (text : List ℕ) (pen : Pen) → pen_along steps (counting 1 pen) text ≡ counting 1 (pen_along steps pen text)
unfolding pen_along
goes-alike steps [] pen = refl
goes-alike steps (c ∷ text) pen =
    ap (λ (p : Pen). pen_along steps p text) (moves-alike pen (steps c)) ∙ goes-alike steps text (pen_after pen (steps c))

module _ (face : Face) (c : ℕ) (blank : Blank face c) where
  stands : (pen : Pen) → pen_after pen (steps_of face c) ≡ counting 1 pen
  unfolding pen_after
  stands pen = rw (blank.still, blank.counted, add-zero)

  pen-among : (before after : List ℕ) (pen : Pen)
      → pen_along (steps_of face) pen (before ++ c ∷ after) ≡ counting 1 (pen_along (steps_of face) pen (before ++ after))
  unfolding pen_along
  pen-among [] after pen = ap (λ (p : Pen). pen_along (steps_of face) p after) (stands pen) ∙ goes-alike (steps_of face) after pen
  pen-among (b ∷ before) after pen = pen-among before after (pen_after pen (steps_of face b))

-- ---- the dots

module _ (face : Face) (bits : (g : Glyph) (r j : ℕ) → face.dot g r j < 2) (k : Stroke) (i : ℕ) where
  -- what a text does depends on where the pen stands, and not on what it has counted
  draws-alike : (text : List ℕ) (pen : Pen) → label_effect face k (counting 1 pen) text i ≡ label_effect face k pen text i
  unfolding label_effect picture_effect mask_at mask_from mark
  draws-alike [] pen = refl
  draws-alike (c ∷ text) pen =
      let g = face.glyph c in
      ap (join_of (picture_effect face.dot k pen g i))
      (ap (λ (p : Pen). label_effect face k p text i) (moves-alike pen (step_of g)) ∙ draws-alike text (pen_after pen (step_of g)))

  module _ (c : ℕ) (blank : Blank face c) where
    no-picture : (pen : Pen) → picture_effect face.dot k pen (face.glyph c) i ≡ identity
    unfolding picture_effect mask_at
    no-picture pen =
        no-marks k.mode _ (mask-none face.dot k pen (face.glyph c) (i / k.rowwords) (16 * (i % k.rowwords)) blank.nothing)

    draws-among : (before after : List ℕ) (pen : Pen)
        → label_effect face k pen (before ++ c ∷ after) i ≡ label_effect face k pen (before ++ after) i
    unfolding label_effect
    draws-among [] after pen =
        ap (λ (e : Effect). join_of e (label_effect face k (pen_after pen (steps_of face c)) after i)) (no-picture pen)
        ∙ identity-join _ (label-words face bits k after (pen_after pen (steps_of face c)) i)
        ∙ ap (λ (p : Pen). label_effect face k p after i) (stands face c blank pen)
        ∙ draws-alike after pen
    draws-among (b ∷ before) after pen =
        let g = face.glyph b in
        ap (join_of (picture_effect face.dot k pen g i)) (draws-among before after (pen_after pen (step_of g)))

-- ---- among other codes

-- a text of one code fewer is shorter
one_fewer : (before after : List ℕ) (c : ℕ) → length (before ++ after) ≤ length (before ++ c ∷ after)
one_fewer [] after c = omega arith
one_fewer (b ∷ before) after c = let rest = one_fewer before after c in omega arith

-- two accepted replies, of which the first has the pen of the second and one substitute more
abbrev pub OneMore : Reply → Reply → Type 0
OneMore reply other =
    (reply_number reply ≡ 0) × (reply_number other ≡ 0)
    × (reply_pen reply ≡ reply_pen other) × (reply_substitutes reply ≡ reply_substitutes other + 1)

replies-one-more : (number fewer : ℕ) (pen last : Pen) → number ≡ 0 → fewer ≡ 0 → pen ≡ counting 1 last
    → OneMore (reply_for number pen) (reply_for fewer last)
unfolding answered
replies-one-more number fewer pen last good still counted = rw (good, still, counted) (refl, refl, refl, refl)

module _ (font : List ℕ) (bare : NoBlob font) (before after : List ℕ) (c : ℕ) (absent : Absent font c) where
  abbrev with : List ℕ
  with = before ++ c ∷ after

  abbrev without : List ℕ
  without = before ++ after

  blank : Blank (face_of font) c
  blank = absent-blank font bare c absent

  pen-counts : (x : ℤ) → last_pen (face_of font) x with ≡ counting 1 (last_pen (face_of font) x without)
  unfolding last_pen
  pen-counts x = pen-among (face_of font) c blank before after (pen_at x)

  module _ (s : Shape) (l : Label) where
    -- the code does nothing to any word of a panel or of a sheet
    pub among-effect : (i : ℕ) → call_effect s (call_of font l with) i ≡ call_effect s (call_of font l without) i
    unfolding effect_with
    among-effect i = draws-among (face_of font) (face-bit font) (stroke_of s l) i c blank before after (pen_at l.x)

    module _ (lent : List ℕ) (accepted : call_number s lent (call_of font l with) ≡ 0) where
      pub among-accepted : call_number s lent (call_of font l without) ≡ 0
      unfolding call_number number_with
      among-accepted =
          let good = stages-passed _ _ accepted in
          let own = stages-passed _ _ good.1 in
          let short = shorter-label l (length with) (length without) (one_fewer before after c) own.1 in
          sym (stage-goes-on 0 _ _ _ (sym good.0) refl (stage-goes-on 0 _ _ _ (sym own.0) refl (sym short)))

      -- painting and gathering leave the pen, and add one substitute
      pub among-reply : OneMore (reply_of s lent (call_of font l with)) (reply_of s lent (call_of font l without))
      unfolding reply_of
      among-reply = replies-one-more _ _ _ _ accepted among-accepted (pen-counts l.x)

    -- painting leaves every dot
    pub among-panel : (panel : List ℕ) → call_number s (length panel ∷ []) (call_of font l with) ≡ 0
        → paint_after s (call_of font l with) panel ≡ paint_after s (call_of font l without) panel
    unfolding paint_after
    among-panel panel accepted =
        rw (accepted, among-accepted (length panel ∷ []) accepted)
        (ap (λ (e : ℕ → Effect). altered 0 (panel_words s) e panel) (λ t i. among-effect i t))

  -- measuring, where the font in words or in bytes has this number
  pub among-measure : (number : ℕ) (x : ℤ) → number_after number x (length with) ≡ 0
      → OneMore (measure_for number font x with) (measure_for number font x without)
  unfolding measure_for number_after
  among-measure number x accepted =
      let good = stages-passed _ _ accepted in
      let short = shorter-measure x (length with) (length without) (one_fewer before after c) good.1 in
      replies-one-more _ _ _ _ accepted (sym (stage-goes-on 0 _ _ _ (sym good.0) refl (sym short))) (pen-counts x)

-- ---- a label of absent codes

module _ (font : List ℕ) (bare : NoBlob font) where
  pen-alone : (text : List ℕ) (pen : Pen) → AllAbsent font text → pen_along (steps_of (face_of font)) pen text ≡ counting (length text) pen
  unfolding pen_along AllAbsent
  pen-alone [] pen none = λ t. record { place = pen.place; substitutes = sym (add-zero pen.substitutes) t }
  pen-alone (c ∷ text) pen none =
      let more : pen.substitutes + 1 + length text ≡ pen.substitutes + length (c ∷ text) = omega arith in
      ap (λ (p : Pen). pen_along (steps_of (face_of font)) p text) (stands (face_of font) c (absent-blank font bare c none.0) pen)
      ∙ pen-alone text (counting 1 pen) none.1
      ∙ (λ t. record { place = pen.place; substitutes = more t })

  draws-alone : (k : Stroke) (i : ℕ) (text : List ℕ) (pen : Pen) → AllAbsent font text → label_effect (face_of font) k pen text i ≡ identity
  unfolding label_effect AllAbsent
  draws-alone k i [] pen none = refl
  draws-alone k i (c ∷ text) pen none =
      draws-among (face_of font) (face-bit font) k i c (absent-blank font bare c none.0) [] text pen ∙ draws-alone k i text pen none.1

  module _ (text : List ℕ) (absent : AllAbsent font text) where
    replies-alone : (number : ℕ) (x : ℤ) → number ≡ 0 → outside x ≡ false
        → reply_for number (last_pen (face_of font) x text) ≡ Ok (record { pen = x; substitutes = length text })
    unfolding answered last_pen
    replies-alone number x accepted near =
        rw (accepted, pen-alone text (pen_at x) absent)
        (λ t. Ok (record { pen = place-number x near t; substitutes = zero-add (length text) t }))

    -- the pen stays at x, and every code is a substitute
    pub alone-reply : (s : Shape) (lent : List ℕ) (l : Label) → call_number s lent (call_of font l text) ≡ 0
        → reply_of s lent (call_of font l text) ≡ Ok (record { pen = l.x; substitutes = length text })
    unfolding reply_of call_number number_with
    alone-reply s lent l accepted =
        let own = (stages-passed _ _ (stages-passed _ _ accepted).1).1 in
        replies-alone _ l.x accepted (good-label l (length text) own).place

    pub alone-measure : (number : ℕ) (x : ℤ) → number_after number x (length text) ≡ 0
        → measure_for number font x text ≡ Ok (record { pen = x; substitutes = length text })
    unfolding measure_for number_after
    alone-measure number x accepted = replies-alone _ x accepted (measure-good x (length text) (stages-passed _ _ accepted).1).0

    -- nothing is done to any word of a panel or of a sheet
    pub alone-effect : (s : Shape) (l : Label) (i : ℕ) → call_effect s (call_of font l text) i ≡ identity
    unfolding effect_with
    alone-effect s l i = draws-alone (stroke_of s l) i text (pen_at l.x) absent

    -- so no dot of a panel differs, whether the call is accepted or not
    pub alone-panel : (s : Shape) (l : Label) (panel : List ℕ) → AllWords panel → paint_after s (call_of font l text) panel ≡ panel
    unfolding paint_after
    alone-panel s l panel words =
        either_way (eqb (call_number s (length panel ∷ []) (call_of font l text)) 0) _ panel
        (altered-idle 0 (panel_words s) _ panel words (λ j less. alone-effect s l (0 + j)))
