-- Demand 2: a label changes exactly the dots that the painting rule names inside its strip, and no others. And: measuring and painting
-- agree.
use Prim.Native.Nat.{ℕ, ◌+◌, ◌-◌, ◌*◌, ◌/◌, ◌%◌, ◌<◌, ◌≤◌, min}
use mathlib.Core.Path.{◌≡◌, refl, sym, ap, ap₂, ◌∙◌}
use mathlib.Core.Bool.{Bool, true, false, cond}
use mathlib.Core.List.{List, [], ◌∷◌}
use native.Mathlib.Nat.{zero-add}
use native.Mathlib.Omega.{arith}
use lib.Bits.{differ}
use lib.IntN.{ℤ, pos, ◌+ℤ◌}
use lib.ListN.{length}
use borrow.Author.Tests.{le-ltb}
use Rattle.words.specs.declared.Mode.{Mode}
use Rattle.words.specs.declared.Mode.TheVariants.{Paint, Erase, Invert}
use Rattle.words.specs.Word.{word, bit_of, word_of}
use Rattle.words.specs.Refusal.{first_of}
use Rattle.words.specs.Place.{outside, number_at}
use Rattle.words.specs.Effect.{effect_of, mode_of, apply_to, altered, OfWords}
use Rattle.words.proofs.Digits.{bit_not, bit-zero, bit-ones, bit-digit}
use Rattle.words.proofs.BitLaws.{on-digit}
use Rattle.words.proofs.Bits.{bit-word-of}
use Rattle.words.proofs.Passed.{stages-passed}
use Rattle.words.proofs.Chain.{stage-goes-on}
use Rattle.words.proofs.Whole.{same_number, pos-is, sum_is, number-at, place-number}
use Rattle.words.proofs.Effects.{apply-identity, apply-join, apply-bit, mode-words, join-words}
use Rattle.words.proofs.Rows.{row_of, word-of-row, row_room}
use Rattle.words.proofs.Altering.{AllWords, altered-past, from_zero, apply-lt}
use Rattle.fonts.specs.declared.Glyph.{Glyph}
use Rattle.fonts.specs.Reading.{font_number}
use Rattle.fonts.specs.Face.{Face, face_of, face_from, step_of}
use Rattle.fonts.proofs.Dots.{dot-bit}
use Rattle.paint.specs.declared.Shape.{Shape}
use Rattle.paint.specs.declared.Label.{Label}
use Rattle.paint.specs.declared.Stroke.{Stroke}
use Rattle.paint.specs.declared.Pen.{Pen}
use Rattle.std.specs.declared.result.Result.TheVariants.{Ok}
use Rattle.words.specs.Refusal.{answered}
use Rattle.paint.specs.Panel.{panel_words, strip_of}
use Rattle.paint.specs.Label.{Call, label_number, number_with, call_number, effect_with, call_effect, paint_after}
use Rattle.paint.specs.Label.{last_pen, reply_for, reply_of, measure_number, number_after, measure_for, measure_of}
use Rattle.paint.specs.Pen.{pen_at, pen_after, pen_along, steps_of, stroke_of, mark, mask_from, mask_at, picture_effect, label_effect}
use Rattle.paint.specs.Pen.{in_strip}
use Rattle.paint.specs.Rule.{panel_dot, Character, characters_from, characters_of, pen_behind, substitutes_in, landing, Lands}
use Rattle.paint.specs.Rule.{dot_under, dot_under_all, dot_after, Each}
use Rattle.paint.proofs.Marks.{mark-bit, mask_lt, strip-right-of, strip-left-of}
use Rattle.paint.proofs.Landing.{landed, landing-bit, landing-beside, landing-mark}
use Rattle.paint.proofs.Replies.{panel-good, label-good}
use Rattle.paint.proofs.Accepted.{GoodPanel, good-panel, good-label}

-- ---- one dot under one effect

-- the truth table of each mode, over a dot of the mask and a dot of the panel
paints : (m d : ℕ) → m < 2 → d < 2 → differ (min d (1 - m)) m ≡ dot_under Paint m d
unfolding dot_under
paints m d hm hd =
    on-digit (λ (x : ℕ). differ (min d (1 - x)) x ≡ dot_under Paint x d)
    (on-digit (λ (z : ℕ). differ (min z 1) 0 ≡ dot_under Paint 0 z) refl refl d hd)
    (on-digit (λ (z : ℕ). differ (min z 0) 1 ≡ dot_under Paint 1 z) refl refl d hd) m hm

erases : (m d : ℕ) → m < 2 → d < 2 → differ (min d (1 - m)) 0 ≡ dot_under Erase m d
unfolding dot_under
erases m d hm hd =
    on-digit (λ (x : ℕ). differ (min d (1 - x)) 0 ≡ dot_under Erase x d)
    (on-digit (λ (z : ℕ). differ (min z 1) 0 ≡ dot_under Erase 0 z) refl refl d hd)
    (on-digit (λ (z : ℕ). differ (min z 0) 0 ≡ dot_under Erase 1 z) refl refl d hd) m hm

inverts : (m d : ℕ) → m < 2 → d < 2 → differ (min d 1) m ≡ dot_under Invert m d
unfolding dot_under
inverts m d hm hd =
    on-digit (λ (x : ℕ). differ (min d 1) x ≡ dot_under Invert x d)
    (on-digit (λ (z : ℕ). differ (min z 1) 0 ≡ dot_under Invert 0 z) refl refl d hd)
    (on-digit (λ (z : ℕ). differ (min z 1) 1 ≡ dot_under Invert 1 z) refl refl d hd) m hm

effect-bit : (mode : Mode) (mask d j : ℕ) → mask < 65536 → j < 16
    → bit_of (apply_to (effect_of mode mask) d) j ≡ dot_under mode (bit_of mask j) (bit_of d j)
effect-bit Paint mask d j hm hj =
    apply-bit (effect_of Paint mask) d j ∙ ap (λ (k : ℕ). differ (min (bit_of d j) k) (bit_of mask j)) (bit_not mask j hm hj)
    ∙ paints (bit_of mask j) (bit_of d j) (bit-digit mask j) (bit-digit d j)
effect-bit Erase mask d j hm hj =
    apply-bit (effect_of Erase mask) d j ∙ ap₂ (λ (k f : ℕ). differ (min (bit_of d j) k) f) (bit_not mask j hm hj) (bit-zero j)
    ∙ erases (bit_of mask j) (bit_of d j) (bit-digit mask j) (bit-digit d j)
effect-bit Invert mask d j hm hj =
    apply-bit (effect_of Invert mask) d j ∙ ap (λ (k : ℕ). differ (min (bit_of d j) k) (bit_of mask j)) (bit-ones j hj)
    ∙ inverts (bit_of mask j) (bit_of d j) (bit-digit mask j) (bit-digit d j)

-- ---- one dot under a text

-- by the marks that painting makes
unfoldable dot_under_label : Face → Stroke → Pen → List ℕ → ℕ → ℕ → ℕ → ℕ
dot_under_label face k pen [] row column dot = dot
dot_under_label face k pen (c ∷ text) row column dot =
    let g = face.glyph c in
    let under = dot_under k.mode (mark face.dot k pen g row column) dot in
    dot_under_label face k (pen_after pen (step_of g)) text row column under

pen-moved : (place advance : ℕ) → number_at place +ℤ pos advance ≡ number_at (place + advance)
pen-moved place advance =
    same_number _ _ (omega (arith, sum_is (number_at place) (pos advance), number-at place, number-at (place + advance), pos-is advance))

-- and so by the rule, where 10 does not refuse y
module _ (face : Face) (s : Shape) (l : Label) (known : outside l.y ≡ false) (row column : ℕ) where
  abbrev dot-of : Character → ℕ
  dot-of ch = landing face.dot s l ch row column

  by-the-rule : (text : List ℕ) (pen : Pen) (x : ℤ) (dot : ℕ) → x ≡ number_at pen.place
      → dot_under_label face (stroke_of s l) pen text row column dot
      ≡ dot_under_all (mode_of l.mode) dot-of (characters_from face x text) dot
  unfolding dot_under_label dot_under_all characters_from stroke_of pen_after
  by-the-rule [] pen x dot same = refl
  by-the-rule (c ∷ text) pen x dot same =
      let g = face.glyph c in
      let next = pen_after pen (step_of g) in
      let drawn : Character = record { glyph = g; pen = x } in
      ap (λ (m : ℕ). dot_under_label face (stroke_of s l) next text row column (dot_under (mode_of l.mode) m dot))
      (sym (landing-mark face.dot s l drawn row column pen known same))
      ∙ by-the-rule text next (x +ℤ pos g.advance) (dot_under (mode_of l.mode) (dot-of drawn) dot)
      (ap (λ (z : ℤ). z +ℤ pos g.advance) same ∙ pen-moved pen.place g.advance)

module _ (face : Face) (bits : (g : Glyph) (r j : ℕ) → face.dot g r j < 2) (k : Stroke) where
  mask-at-lt : (pen : Pen) (g : Glyph) (i : ℕ) → mask_at face.dot k pen g i < 65536
  unfolding mask_at
  mask-at-lt pen g i = mask_lt face.dot k pen g (i / k.rowwords) (16 * (i % k.rowwords)) (bits g)

  -- an effect of a text is one of words
  pub label-words : (text : List ℕ) (pen : Pen) (i : ℕ) → OfWords (label_effect face k pen text i)
  unfolding label_effect picture_effect
  label-words [] pen i = (omega arith, omega arith)
  label-words (c ∷ text) pen i =
      let g = face.glyph c in
      join-words _ _ (mode-words k.mode _ (mask-at-lt pen g i)) (label-words text (pen_after pen (step_of g)) i)

  module _ (row column : ℕ) (across : column < 16 * k.rowwords) where
    abbrev place : ℕ
    place = row * k.rowwords + column / 16

    -- the bit of a picture's mask is the mark on the row and column
    mask-bit : (pen : Pen) (g : Glyph) → bit_of (mask_at face.dot k pen g place) (column % 16) ≡ mark face.dot k pen g row column
    unfolding mask_at mask_from
    mask-bit pen g =
        let w = column / 16 in
        let inside : w < k.rowwords = omega arith in
        let whole : 16 * w + column % 16 ≡ column = omega arith in
        ap₂ (λ (r c : ℕ). bit_of (word_of (λ j. mark face.dot k pen g r (16 * c + j))) (column % 16))
        (row_of row k.rowwords w inside) (word-of-row row k.rowwords w inside)
        ∙ bit-word-of (λ j. mark face.dot k pen g row (16 * w + j)) (λ j. mark-bit face.dot k pen g row (16 * w + j) (bits g))
        (column % 16) (omega arith)
        ∙ ap (mark face.dot k pen g row) whole

    label-bit : (text : List ℕ) (pen : Pen) (d : ℕ) → d < 65536
        → bit_of (apply_to (label_effect face k pen text place) d) (column % 16)
        ≡ dot_under_label face k pen text row column (bit_of d (column % 16))
    unfolding label_effect dot_under_label picture_effect
    label-bit [] pen d h = ap (λ (x : ℕ). bit_of x (column % 16)) (apply-identity d h)
    label-bit (c ∷ text) pen d h =
        let g = face.glyph c in
        let next = pen_after pen (step_of g) in
        let mask = mask_at face.dot k pen g place in
        let first = effect_of k.mode mask in
        let small : mask < 65536 = mask-at-lt pen g place in
        ap (λ (x : ℕ). bit_of x (column % 16)) (apply-join first (label_effect face k next text place) d)
        ∙ label-bit text next (apply_to first d) (apply-lt first d (mode-words k.mode mask small) h)
        ∙ ap (dot_under_label face k next text row column)
        (effect-bit k.mode mask d (column % 16) small (omega arith)
        ∙ ap (λ (m : ℕ). dot_under k.mode m (bit_of d (column % 16))) (mask-bit pen g))

-- ---- what an accepted call promises

module _ (s : Shape) (room : ℕ) (call : Call) (accepted : 0 ≡ call_number s (room ∷ []) call) where
  pub font-accepted : font_number call.font ≡ 0
  unfolding call_number
  font-accepted = (stages-passed _ _ (sym accepted)).0

  own-accepted : 0 ≡ number_with s (room ∷ []) call.label (length call.text)
  unfolding call_number
  own-accepted = sym (stages-passed _ _ (sym accepted)).1

  pub panel-accepted : GoodPanel s room
  panel-accepted = good-panel s room (panel-good s (room ∷ []) call.label (length call.text) own-accepted)

  pub label-accepted : label_number call.label (length call.text) ≡ 0
  label-accepted = label-good s (room ∷ []) call.label (length call.text) own-accepted

-- every dot of a font is 0 or 1
pub face-bit : (font : List ℕ) (g : Glyph) (r j : ℕ) → (face_of font).dot g r j < 2
unfolding face_of face_from
face-bit font g r j = dot-bit font g r j

-- ---- demand 2

module _ (s : Shape) (call : Call) (panel : List ℕ) (words : AllWords panel) (accepted : 0 ≡ call_number s (length panel ∷ []) call) where
  painted : paint_after s call panel ≡ altered 0 (panel_words s) (call_effect s call) panel
  unfolding paint_after
  painted = rw (← accepted)

  -- after an accepted painting each dot of the panel is what the paper's rule makes of it
  pub painted-dot : (row column : ℕ) → row < s.rows → column < 16 * s.rowwords
      → panel_dot s (paint_after s call panel) row column ≡ dot_after s call row column (panel_dot s panel row column)
  unfolding panel_dot dot_after effect_with stroke_of
  painted-dot row column down across =
      let good = panel-accepted s (length panel) call accepted in
      let own = good-label call.label (length call.text) (label-accepted s (length panel) call accepted) in
      let i = row * s.rowwords + column / 16 in
      let room = row_room row s.rows s.rowwords (panel_words s) down (omega arith) in
      let here : i < panel_words s = omega arith in
      ap (λ (p : List ℕ). bit_of (word p i) (column % 16)) painted
      ∙ ap (λ (d : ℕ). bit_of d (column % 16)) (from_zero (call_effect s call) panel (panel_words s) i here good.long)
      ∙ label-bit (face_of call.font) (face-bit call.font) (stroke_of s call.label) row column across
      call.text (pen_at call.label.x) (word panel i) (words i)
      ∙ by-the-rule (face_of call.font) s call.label own.baseline row column
      call.text (pen_at call.label.x) call.label.x _ (sym (place-number call.label.x own.place))

  -- and no word past the panel differs
  pub past-panel : (i : ℕ) → panel_words s ≤ i → word (paint_after s call panel) i ≡ word panel i
  past-panel i h = ap (λ (p : List ℕ). word p i) painted ∙ altered-past 0 (call_effect s call) panel (panel_words s) i (omega arith)

-- a dot of the panel that no picture's dot falls on stays
no-picture : (mode : Mode) (d : ℕ) → dot_under mode 0 d ≡ d
unfolding dot_under
no-picture Paint d = refl
no-picture Erase d = refl
no-picture Invert d = refl

-- so a dot that no character's picture lands on stays
stays : (mode : Mode) (lands : Character → ℕ) (chs : List Character) (dot : ℕ) → Each (λ (ch : Character). lands ch ≡ 0) chs
    → dot_under_all mode lands chs dot ≡ dot
unfolding dot_under_all Each
stays mode lands [] dot none = refl
stays mode lands (ch ∷ chs) dot none =
    stays mode lands chs _ none.1 ∙ ap (λ (m : ℕ). dot_under mode m dot) none.0 ∙ no-picture mode dot

module _ (s : Shape) (call : Call) (row column dot : ℕ) where
  abbrev dots : Glyph → ℕ → ℕ → ℕ
  dots = (face_of call.font).dot

  abbrev landed-by : Character → ℕ
  landed-by ch = landing dots s call.label ch row column

  no-dot : (ch : Character) → (Lands dots s call.label ch row column → ⊥) → landed-by ch ≡ 0
  no-dot ch none =
      on-digit (λ (b : ℕ). landed-by ch ≡ b → landed-by ch ≡ 0) (λ e. e)
      (λ e. absurd (none (landed dots s call.label ch row column e)))
      (landed-by ch) (landing-bit dots s call.label ch row column (face-bit call.font ch.glyph)) refl

  none-land : (chs : List Character) → Each (λ (ch : Character). Lands dots s call.label ch row column → ⊥) chs
      → Each (λ (ch : Character). landed-by ch ≡ 0) chs
  unfolding Each
  none-land [] none = tt
  none-land (ch ∷ chs) none = (no-dot ch none.0, none-land chs none.1)

  -- "and no others": a dot of the panel on which no dot of any character's picture lands is as it was
  pub others-stay : Each (λ (ch : Character). Lands dots s call.label ch row column → ⊥) (characters_of call)
      → dot_after s call row column dot ≡ dot
  unfolding dot_after
  others-stay none = stays (mode_of call.label.mode) landed-by (characters_of call) dot (none-land (characters_of call) none)

  beside-all : in_strip (strip_of s call.label.strip) column ≡ 0 → (chs : List Character)
      → Each (λ (ch : Character). landed-by ch ≡ 0) chs
  unfolding Each
  beside-all out [] = tt
  beside-all out (ch ∷ chs) = (landing-beside dots s call.label ch row column out, beside-all out chs)

  beside : in_strip (strip_of s call.label.strip) column ≡ 0 → dot_after s call row column dot ≡ dot
  unfolding dot_after
  beside out = stays (mode_of call.label.mode) landed-by (characters_of call) dot (beside-all out (characters_of call))

  -- no dot outside the strip differs
  pub left-of-strip : column < (strip_of s call.label.strip).from → dot_after s call row column dot ≡ dot
  left-of-strip h = beside (strip-right-of (strip_of s call.label.strip) column h)

  pub right-of-strip : (strip_of s call.label.strip).upto ≤ column → dot_after s call row column dot ≡ dot
  right-of-strip h = beside (strip-left-of (strip_of s call.label.strip) column h)

-- ---- the reply, by the rule

pen-behind : (face : Face) (text : List ℕ) (pen : Pen) (x : ℤ) → x ≡ number_at pen.place
    → number_at (pen_along (steps_of face) pen text).place ≡ pen_behind face x text
unfolding pen_along pen_behind pen_after
pen-behind face [] pen x same = sym same
pen-behind face (c ∷ text) pen x same =
    pen-behind face text (pen_after pen (steps_of face c)) (x +ℤ pos (face.glyph c).advance)
    (ap (λ (z : ℤ). z +ℤ pos (face.glyph c).advance) same ∙ pen-moved pen.place (face.glyph c).advance)

one_more : (t : Bool) (n m : ℕ) → cond t (n + 1) n + m ≡ n + (cond t 1 0 + m)
one_more true n m = omega arith
one_more false n m = omega arith

substitutes-behind : (face : Face) (text : List ℕ) (pen : Pen)
    → (pen_along (steps_of face) pen text).substitutes ≡ pen.substitutes + substitutes_in face text
unfolding pen_along substitutes_in pen_after
substitutes-behind face [] pen = omega arith
substitutes-behind face (c ∷ text) pen =
    substitutes-behind face text (pen_after pen (steps_of face c))
    ∙ one_more (face.glyph c).substitute pen.substitutes (substitutes_in face text)

-- an accepted call's reply: the last pen is x and all advances, and the substitutes are the codes that the dummy stood in for
pub reply-rule : (s : Shape) (room : ℕ) (call : Call) → 0 ≡ call_number s (room ∷ []) call
    → reply_of s (room ∷ []) call
    ≡ Ok (record {
      pen = pen_behind (face_of call.font) call.label.x call.text;
      substitutes = substitutes_in (face_of call.font) call.text;
    })
unfolding reply_of answered last_pen
reply-rule s room call accepted =
    let own = good-label call.label (length call.text) (label-accepted s room call accepted) in
    let face = face_of call.font in
    rw (← accepted)
    (ap₂ (λ (z : ℤ) (n : ℕ). Ok (record { pen = z; substitutes = n }))
    (pen-behind face call.text (pen_at call.label.x) call.label.x (sym (place-number call.label.x own.place)))
    (substitutes-behind face call.text (pen_at call.label.x) ∙ zero-add (substitutes_in face call.text)))

-- ---- measuring and painting agree

pub measure-agrees : (s : Shape) (room : ℕ) (call : Call) → 0 ≡ call_number s (room ∷ []) call
    → reply_of s (room ∷ []) call ≡ measure_of call.font call.label.x call.text
unfolding reply_of measure_for number_after measure_number first_of
measure-agrees s room call accepted =
    let own = good-label call.label (length call.text) (label-accepted s room call accepted) in
    ap (λ (n : ℕ). reply_for n (last_pen (face_of call.font) call.label.x call.text))
    (sym accepted
    ∙ stage-goes-on 0 _ _ _ (sym (font-accepted s room call accepted)) refl (rw (own.place, le-ltb 64 (length call.text) own.short)))

pub call-words : (s : Shape) (call : Call) (i : ℕ) → OfWords (call_effect s call i)
unfolding effect_with
call-words s call i = label-words (face_of call.font) (face-bit call.font) (stroke_of s call.label) call.text _ i
