-- A dot lies in one strip at most, so the effect of a list of calls on it is the effect of the calls for that strip. Hence lists with
-- the same calls for each strip in the same order have the same effect.
use Prim.Native.Nat.{ℕ, zero, suc, ◌<◌, ◌≤◌}
use mathlib.Core.Path.{◌≡◌, refl, sym, ap, ◌∙◌}
use mathlib.Core.Bool.{Bool, true, false, cond}
use mathlib.Core.List.{List, [], ◌∷◌}
use native.Mathlib.Omega.{arith}
use lib.Dec.{eqb, leb, ltb}
use borrow.Author.Tests.{leb-true, leb-false, lt-ltb, ltb-true, ltb-false, eqb-false, ne_eqb}
use Rattle.words.specs.declared.Effect.{Effect}
use Rattle.words.specs.Word.{bit_of}
use Rattle.words.specs.Refusal.{first_of, or_else}
use Rattle.words.specs.Effect.{identity, Leaves}
use Rattle.words.proofs.BitLaws.{on-digit}
use Rattle.words.proofs.DotByDot.{Alike, alike-effects, join-alike, left_out, identity-leaves}
use Rattle.paint.specs.declared.Shape.{Shape}
use Rattle.paint.specs.Label.{Call, label_number, call_effect}
use Rattle.paint.specs.Panel.{strip_of}
use Rattle.paint.specs.Pen.{in_strip}
use Rattle.paint.proofs.Marks.{in-strip-bit}
use Rattle.paint.proofs.Strips.{strips-apart}
use Rattle.paint.proofs.Beside.{column_of, call-leaves}
use Rattle.sheets.specs.Calls.{of_strip, SameForStrips}
use Rattle.sheets.proofs.Effects.{own_number, step_effect, calls_effect, calls-words}

-- a call for a strip over 31 is refused
not-zero : (n : ℕ) → eqb (or_else n 9) 0 ≡ false
unfolding or_else
not-zero zero = refl
not-zero (suc n) = let e = ne_eqb (suc n) 0 (λ z. absurd (omega arith)) in rw (e, e)

no-strip : (call : Call) → 31 < call.label.strip → eqb (own_number call) 0 ≡ false
unfolding own_number label_number first_of
no-strip call over = rw (lt-ltb 31 call.label.strip over) (not-zero _)

module _ (s : Shape) (i j : ℕ) (less : j < 16) where
  choice-leaves : (t : Bool) (e : Effect) → Leaves e j → Leaves (cond t e identity) j
  choice-leaves true e h = h
  choice-leaves false e h = identity-leaves j less

  -- the column of the panel that the dot lies on, and whether strip k has it
  abbrev column : ℕ
  column = column_of s i j

  abbrev has : ℕ → ℕ
  has k = in_strip (strip_of s k) column

  -- a call leaves the dots outside its strip
  step-leaves : (call : Call) → (call.label.strip ≤ 31 → has call.label.strip ≡ 0) → Leaves (step_effect s call i) j
  unfolding step_effect
  step-leaves call outside = by-strip (leb call.label.strip 31) refl
    where
      by-strip : (t : Bool) → leb call.label.strip 31 ≡ t → Leaves (cond (eqb (own_number call) 0) (call_effect s call i) identity) j
      by-strip true e =
          let elsewhere = outside (leb-true call.label.strip 31 e) in
          choice-leaves (eqb (own_number call) 0) (call_effect s call i) (call-leaves s call i j less elsewhere)
      by-strip false e = rw (no-strip call (leb-false call.label.strip 31 e)) (identity-leaves j less)

  -- where the other calls leave the dot, the calls for strip k do to it what the whole list does
  strip-alone : (k : ℕ) → ((call : Call) → (call.label.strip ≡ k → ⊥) → Leaves (step_effect s call i) j)
      → (calls : List Call) → Alike (calls_effect s calls i) (calls_effect s (of_strip k calls) i) j
  unfolding calls_effect of_strip
  strip-alone k others [] = (refl, refl)
  strip-alone k others (call ∷ calls) = by-strip (strip-alone k others calls) (eqb call.label.strip k) refl
    where
      by-strip : Alike (calls_effect s calls i) (calls_effect s (of_strip k calls) i) j → (t : Bool) → eqb call.label.strip k ≡ t
          → Alike (calls_effect s (call ∷ calls) i) (calls_effect s (cond t (call ∷ of_strip k calls) (of_strip k calls)) i) j
      by-strip rest true e = join-alike (step_effect s call i) (calls_effect s calls i) (calls_effect s (of_strip k calls) i) j rest
      by-strip rest false e =
          let first = left_out (step_effect s call i) (calls_effect s calls i) j (others call (eqb-false call.label.strip k e)) in
          (first.0 ∙ rest.0, first.1 ∙ rest.1)

  module _ (xs ys : List Call) (same : SameForStrips xs ys) where
    through : (k : ℕ) → k ≤ 31 → ((call : Call) → (call.label.strip ≡ k → ⊥) → Leaves (step_effect s call i) j)
        → Alike (calls_effect s xs i) (calls_effect s ys i) j
    through k small others =
        let one = strip-alone k others xs in
        let two = strip-alone k others ys in
        let between = ap (λ (calls : List Call). calls_effect s calls i) (same k small) in (
          one.0 ∙ ap (λ (e : Effect). bit_of e.keep j) between ∙ sym two.0,
          one.1 ∙ ap (λ (e : Effect). bit_of e.flip j) between ∙ sym two.1,
        )

    -- the calls for another strip than the one that has the column leave the dot
    in_one : (k : ℕ) → k ≤ 31 → has k ≡ 1 → Alike (calls_effect s xs i) (calls_effect s ys i) j
    in_one k small there =
        through k small
        (λ call other. step-leaves call
        (λ known.
        on-digit (λ (b : ℕ). has call.label.strip ≡ b → has call.label.strip ≡ 0) (λ e. e)
        (λ e. absurd (other (strips-apart s call.label.strip k column e there)))
        (has call.label.strip) (in-strip-bit (strip_of s call.label.strip) column) refl))

    -- where no strip has it every call does, so any strip will do
    in-none : ((k : ℕ) → k ≤ 31 → has k ≡ 0) → Alike (calls_effect s xs i) (calls_effect s ys i) j
    in-none none = through 0 (omega arith) (λ call other. step-leaves call (λ small. none call.label.strip small))

    by-strips : (n : ℕ) → n ≤ 32 → ((k : ℕ) → k ≤ 31 → n ≤ k → has k ≡ 0) → Alike (calls_effect s xs i) (calls_effect s ys i) j
    by-strips zero few later = in-none (λ k small. later k small (omega arith))
    by-strips (suc n) few later =
        on-digit (λ (b : ℕ). has n ≡ b → Alike (calls_effect s xs i) (calls_effect s ys i) j)
        (λ e. by-strips n (omega arith) (λ k small from. this-or-later e k small from (ltb n k) refl))
        (λ e. in_one n (omega arith) e)
        (has n) (in-strip-bit (strip_of s n) column) refl
      where
        this-or-later : has n ≡ 0 → (k : ℕ) → k ≤ 31 → n ≤ k → (t : Bool) → ltb n k ≡ t → has k ≡ 0
        this-or-later e k small from true after = let past : suc n ≤ k = ltb-true n k after in later k small past
        this-or-later e k small from false same = let upto = ltb-false n k same in let it : k ≡ n = omega arith in ap has it ∙ e

    pub exchanged-dot : Alike (calls_effect s xs i) (calls_effect s ys i) j
    exchanged-dot = by-strips 32 (omega arith) (λ k small from. absurd (omega arith))

pub exchanged : (s : Shape) (xs ys : List Call) → SameForStrips xs ys → (i : ℕ) → calls_effect s xs i ≡ calls_effect s ys i
exchanged s xs ys same i =
    alike-effects (calls_effect s xs i) (calls_effect s ys i) (calls-words s xs i) (calls-words s ys i)
    (λ j less. exchanged-dot s i j less xs ys same)
