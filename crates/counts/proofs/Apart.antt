-- Painting leaves the dots of the other strips as they are, so nothing is gained or lost there.
use Prim.Native.Nat.{ℕ, ◌-◌, ◌*◌, ◌<◌, ◌≤◌}
use mathlib.Core.Path.{◌≡◌, refl, sym, ap, ◌∙◌}
use mathlib.Core.Bool.{Bool, true, false, cond}
use mathlib.Core.List.{List, [], ◌∷◌}
use native.Mathlib.Omega.{arith}
use lib.Dec.{eqb, ltb}
use lib.ListN.{length}
use borrow.Author.Tests.{eqb-true, ltb-true, ltb-false}
use Rattle.words.proofs.BitLaws.{on-digit}
use Rattle.words.proofs.Passed.{either_way}
use Rattle.words.proofs.Altering.{AllWords}
use Rattle.paint.specs.declared.Shape.{Shape}
use Rattle.paint.specs.declared.Strip.{Strip}
use Rattle.paint.specs.Panel.{strip_of}
use Rattle.paint.specs.Label.{Call, call_number, paint_after}
use Rattle.paint.specs.Rule.{panel_dot, dot_after}
use Rattle.paint.proofs.Accepted.{strip-fits}
use Rattle.paint.proofs.Demand.{panel-accepted, painted-dot, left-of-strip, right-of-strip}
use Rattle.paint.proofs.Marks.{strip-holds}
use Rattle.paint.proofs.Strips.{strips-apart}
use Rattle.counts.specs.Lit.{gained, lost}
use Rattle.counts.specs.Calls.{painting, plain_number, plain_after}
use Rattle.counts.proofs.Sums.{dots-none}
use Rattle.counts.proofs.Balance.{panel-dot}
use Rattle.counts.proofs.Truth.{refused-idle}

-- a dot of strip k after a call: what the rule makes of it, or as it was where the call is refused
module _ (s : Shape) (call : Call) (panel : List ℕ) (words : AllWords panel) (k : ℕ) (small : k ≤ 31) (row column : ℕ)
    (down : row < s.rows) (from : (strip_of s k).from ≤ column) (upto : column < (strip_of s k).upto) where
  abbrev made : Bool → ℕ
  made t = cond t (dot_after s call row column (panel_dot s panel row column)) (panel_dot s panel row column)

  pub strip-dot : panel_dot s (paint_after s call panel) row column ≡ made (eqb (call_number s (length panel ∷ []) call) 0)
  unfolding plain_number plain_after
  strip-dot = by_number (eqb (call_number s (length panel ∷ []) call) 0) refl
    where
      by_number : (t : Bool) → eqb (call_number s (length panel ∷ []) call) 0 ≡ t
          → panel_dot s (paint_after s call panel) row column ≡ made t
      by_number true e =
          let accepted = sym (eqb-true (call_number s (length panel ∷ []) call) 0 e) in
          let fits = strip-fits k s.width s.rowwords small (panel-accepted s (length panel) call accepted).strips in
          painted-dot s call panel words accepted row column down (omega arith)
      by_number false e = ap (λ (p : List ℕ). panel_dot s p row column) (refused-idle s (painting call) panel e)

-- a dot of another strip than the call's
module _ (s : Shape) (call : Call) (panel : List ℕ) (words : AllWords panel) (k : ℕ) (small : k ≤ 31)
    (other : call.label.strip ≡ k → ⊥) where
  abbrev own : Strip
  own = strip_of s call.label.strip

  abbrev after : List ℕ
  after = paint_after s call panel

  other-column : (row column dot : ℕ) → (strip_of s k).from ≤ column → column < (strip_of s k).upto → dot_after s call row column dot ≡ dot
  other-column row column dot from upto = by_place (ltb column own.from) (ltb column own.upto) refl refl
    where
      by_place : (t u : Bool) → ltb column own.from ≡ t → ltb column own.upto ≡ u → dot_after s call row column dot ≡ dot
      by_place true u e f = left-of-strip s call row column dot (ltb-true column own.from e)
      by_place false true e f =
          absurd (other (strips-apart s call.label.strip k column
          (strip-holds own column (ltb-false column own.from e) (ltb-true column own.upto f))
          (strip-holds (strip_of s k) column from upto)))
      by_place false false e f = right-of-strip s call row column dot (ltb-false column own.upto f)

  pub other-dot : (row column : ℕ) → row < s.rows → (strip_of s k).from ≤ column → column < (strip_of s k).upto
      → panel_dot s after row column ≡ panel_dot s panel row column
  other-dot row column down from upto =
      strip-dot s call panel words k small row column down from upto
      ∙ either_way (eqb (call_number s (length panel ∷ []) call) 0) _ _ (other-column row column (panel_dot s panel row column) from upto)

  pub none-gained : gained s k panel after ≡ 0
  unfolding gained
  none-gained =
      dots-none (strip_of s k) 0 s.rows _
      (λ row column _ down from upto.
      ap (λ (d : ℕ). (1 - panel_dot s panel row column) * d) (other-dot row column (omega arith) from upto)
      ∙ on-digit (λ (d : ℕ). (1 - d) * d ≡ 0) refl refl (panel_dot s panel row column) (panel-dot s panel row column))

  pub none-lost : lost s k panel after ≡ 0
  unfolding lost
  none-lost =
      dots-none (strip_of s k) 0 s.rows _
      (λ row column _ down from upto.
      ap (λ (d : ℕ). panel_dot s panel row column * (1 - d)) (other-dot row column (omega arith) from upto)
      ∙ on-digit (λ (d : ℕ). d * (1 - d) ≡ 0) refl refl (panel_dot s panel row column) (panel-dot s panel row column))
