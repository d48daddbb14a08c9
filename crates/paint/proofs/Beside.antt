-- What a label leaves alone: every dot of a word that lies outside the label's strip.
use Prim.Native.Nat.{ℕ, ◌+◌, ◌*◌, ◌/◌, ◌%◌, ◌<◌}
use mathlib.Core.Path.{◌≡◌, ◌∙◌}
use mathlib.Core.List.{List, [], ◌∷◌}
use Rattle.words.specs.Effect.{Leaves}
use Rattle.words.proofs.Bits.{bit-word-of}
use Rattle.words.proofs.Effects.{mode-leaves}
use Rattle.words.proofs.DotByDot.{identity-leaves, join-leaves}
use Rattle.fonts.specs.declared.Glyph.{Glyph}
use Rattle.fonts.specs.Face.{Face, face_of, step_of}
use Rattle.paint.specs.declared.Shape.{Shape}
use Rattle.paint.specs.declared.Stroke.{Stroke}
use Rattle.paint.specs.declared.Pen.{Pen}
use Rattle.paint.specs.Panel.{strip_of}
use Rattle.paint.specs.Label.{Call, effect_with, call_effect}
use Rattle.paint.specs.Pen.{pen_after, stroke_of, mark, mask_from, mask_at, picture_effect, label_effect, in_strip}
use Rattle.paint.proofs.Marks.{mark-bit, mark-beside, mask_lt}
use Rattle.paint.proofs.Demand.{face-bit}

-- the column of the panel that dot j of word i lies on, where a row has so many words
abbrev pub column_in : ℕ → ℕ → ℕ → ℕ
column_in rowwords i j = 16 * (i % rowwords) + j

abbrev pub column_of : Shape → ℕ → ℕ → ℕ
column_of s = column_in s.rowwords

label-leaves : (face : Face) → ((g : Glyph) (r j : ℕ) → face.dot g r j < 2) → (k : Stroke) (text : List ℕ) (pen : Pen) (i j : ℕ)
    → j < 16 → in_strip k.strip (column_in k.rowwords i j) ≡ 0 → Leaves (label_effect face k pen text i) j
unfolding label_effect picture_effect mask_at mask_from
label-leaves face bits k [] pen i j less out = identity-leaves j less
label-leaves face bits k (c ∷ text) pen i j less out =
    let g = face.glyph c in
    let row = i / k.rowwords in
    let start = 16 * (i % k.rowwords) in
    let no-mark =
    bit-word-of (λ n. mark face.dot k pen g row (start + n)) (λ n. mark-bit face.dot k pen g row (start + n) (bits g)) j less
    ∙ mark-beside face.dot k pen g row (start + j) out in
    join-leaves _ _ j
    (mode-leaves k.mode _ j (mask_lt face.dot k pen g row start (bits g)) less no-mark)
    (label-leaves face bits k text (pen_after pen (step_of g)) i j less out)

pub call-leaves : (s : Shape) (call : Call) (i j : ℕ) → j < 16 → in_strip (strip_of s call.label.strip) (column_of s i j) ≡ 0
    → Leaves (call_effect s call i) j
unfolding effect_with stroke_of
call-leaves s call i j less out =
    label-leaves (face_of call.font) (face-bit call.font) (stroke_of s call.label) call.text _ i j less out
