-- What tests that did not refuse promise: the inverse of the chains of tests.
use Prim.Native.Nat.{ℕ, ◌<◌, ◌≤◌}
use mathlib.Core.Path.{◌≡◌, refl}
use mathlib.Core.Bool.{Bool, true, false, cond, ◌&&◌, ◌||◌, false≢true}
use native.Mathlib.Omega.{arith}
use lib.Dec.{ltb, eqb}
use borrow.Author.Tests.{ltb-false, eqb-true, eqb-false}
use Rattle.words.specs.Refusal.{or_else, not_within}
use Rattle.words.proofs.Search.{none_left, none_right}

pub neither : (s t : Bool) → (s || t) ≡ false → (s ≡ false) × (t ≡ false)
neither s t e = (none_left s t e, none_right s t e)

pub both : (s t : Bool) → (s && t) ≡ true → (s ≡ true) × (t ≡ true)
both true t e = (refl, e)
both false t e = absurd (false≢true e)

-- a choice of two that are equal
pub either_way : {A : Type 0} (t : Bool) (a b : A) → a ≡ b → cond t a b ≡ b
either_way true a b same = same
either_way false a b same = refl

-- a dot that is there only where a test holds
pub choice-one : (t : Bool) (a : ℕ) → cond t a 0 ≡ 1 → (t ≡ true) × (a ≡ 1)
choice-one true a e = (refl, e)
choice-one false a e = absurd (omega arith)

-- no number was given, so the test did not hold
pub passed : (t : Bool) (number rest : ℕ) → 0 < number → cond t number rest ≡ 0 → (t ≡ false) × (rest ≡ 0)
passed true number rest h e = absurd (omega arith)
passed false number rest h e = (refl, e)

pub within : (least most n : ℕ) → not_within least most n ≡ false → (least ≤ n) × (n ≤ most)
unfolding not_within
within least most n e =
    let tests = neither (ltb n least) (ltb most n) e in
    (ltb-false n least tests.0, ltb-false most n tests.1)

-- neither part of the table gave a number
pub stages-passed : (first second : ℕ) → or_else first second ≡ 0 → (first ≡ 0) × (second ≡ 0)
unfolding or_else
stages-passed first second e = by_first (eqb first 0) refl e
  where
    by_first : (t : Bool) → eqb first 0 ≡ t → cond t second first ≡ 0 → (first ≡ 0) × (second ≡ 0)
    by_first true q e = (eqb-true first 0 q, e)
    by_first false q e = absurd (eqb-false first 0 q e)
