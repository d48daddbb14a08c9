-- P1, for sheets: gathering an absent code of a plain font whose dummy has no columns leaves the sheet as it is. What it replies is
-- painting's reply (`paint: proofs/Blob`).
use Prim.Native.Nat.{ℕ}
use mathlib.Core.Path.{◌≡◌, ap, ◌∙◌}
use mathlib.Core.List.{List, ◌∷◌, ◌++◌}
use lib.Dec.{eqb}
use Rattle.words.specs.declared.Effect.{Effect}
use Rattle.words.specs.Effect.{join_of}
use Rattle.words.proofs.Effects.{join-identity}
use Rattle.words.proofs.Over.{over-idle}
use Rattle.words.proofs.Passed.{either_way}
use Rattle.fonts.specs.Blob.{NoBlob, Absent, AllAbsent}
use Rattle.paint.specs.declared.Shape.{Shape}
use Rattle.paint.specs.declared.Label.{Label}
use Rattle.paint.specs.Panel.{panel_words}
use Rattle.paint.specs.Sheet.{Sheet, lengths, effect_at, written, joined}
use Rattle.paint.specs.Label.{call_of, call_number, call_effect}
use Rattle.paint.proofs.Blob.{among-effect, among-accepted, alone-effect}
use Rattle.sheets.specs.Sheet.{gather_after}
use Rattle.sheets.proofs.Holding.{Lent, held-words}

pub among-sheet : (font : List ℕ) (bare : NoBlob font) (before after : List ℕ) (c : ℕ) (absent : Absent font c)
    → (s : Shape) (l : Label) (sheet : Sheet) → call_number s (lengths sheet) (call_of font l (before ++ c ∷ after)) ≡ 0
    → gather_after s (call_of font l (before ++ c ∷ after)) sheet ≡ gather_after s (call_of font l (before ++ after)) sheet
unfolding gather_after
among-sheet font bare before after c absent s l sheet accepted =
    rw (accepted, among-accepted font bare before after c absent s l (lengths sheet) accepted)
    (ap (λ (e : ℕ → Effect). joined s e sheet) (λ t i. among-effect font bare before after c absent s l i t))

pub alone-sheet : (font : List ℕ) (bare : NoBlob font) (text : List ℕ) → AllAbsent font text
    → (s : Shape) (l : Label) (sheet : Sheet) → Lent s sheet → gather_after s (call_of font l text) sheet ≡ sheet
unfolding gather_after written
alone-sheet font bare text absent s l sheet lent =
    either_way (eqb (call_number s (lengths sheet) (call_of font l text)) 0) _ sheet nothing-joined
  where
    stays : (i : ℕ) → join_of (effect_at sheet i) (call_effect s (call_of font l text) i) ≡ effect_at sheet i
    stays i =
        ap (join_of (effect_at sheet i)) (alone-effect font bare text absent s l i)
        ∙ join-identity (effect_at sheet i) (held-words s sheet lent i)

    nothing-joined : joined s (call_effect s (call_of font l text)) sheet ≡ sheet
    nothing-joined = λ t. record {
      keep = over-idle (panel_words s) _ sheet.keep (λ i less. ap (λ (e : Effect). e.keep) (stays i)) t;
      flip = over-idle (panel_words s) _ sheet.flip (λ i less. ap (λ (e : Effect). e.flip) (stays i)) t;
    }
