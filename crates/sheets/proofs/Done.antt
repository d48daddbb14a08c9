-- Calls that 8 alone refuses: where it does what was lent stays; else the call does its work.
use Prim.Native.Nat.{ℕ}
use mathlib.Core.Path.{◌≡◌, ap, ◌∙◌}
use mathlib.Core.Bool.{true, false, cond}
use mathlib.Core.List.{List, [], ◌∷◌}
use lib.Dec.{eqb}
use borrow.Author.Tests.{ne_eqb}
use Rattle.words.specs.declared.refusal.Refusal.{Refusal}
use Rattle.paint.specs.declared.Shape.{Shape}
use Rattle.paint.specs.Panel.{bad_panel, panel_number}
use Rattle.paint.specs.Sheet.{Sheet}
use Rattle.words.specs.Refusal.{number_of, first_of}
use Rattle.words.proofs.Refusals.{number-not-0}
use Rattle.paint.proofs.Slices.{passed-by-first, passed-alone}

-- ---- the number

-- slices of these lengths have passed, each by itself
unfoldable pub Passed : Shape → List ℕ → Type 0
Passed s [] = Unit {0}
Passed s (n ∷ more) = (bad_panel s (n ∷ []) ≡ false) × Passed s more

module _ (s : Shape) where
  pub all-passed : (n : ℕ) (more : List ℕ) → Passed s (n ∷ more) → 0 ≡ panel_number s (n ∷ more)
  unfolding Passed
  all-passed n [] passed = passed-alone s n passed.0
  all-passed n (next ∷ more) passed = all-passed next more passed.1 ∙ passed-by-first s n (next ∷ more) passed.0

-- by one test for all the slices
module _ (s : Shape) (lent : List ℕ) where
  pub bad-slices : bad_panel s lent ≡ true → 8 ≡ panel_number s lent
  unfolding panel_number first_of
  bad-slices bad = rw bad

  pub good-slices : bad_panel s lent ≡ false → 0 ≡ panel_number s lent
  unfolding panel_number first_of
  good-slices good = rw good

-- ---- what is left, by the number

module _ {A : Type 0} (number : ℕ) (made lent : A) where
  pub refused : (n : ℕ) → n ≡ number → (n ≡ 0 → ⊥) → lent ≡ cond (eqb number 0) made lent
  refused n e some = rw (← e) (rw (ne_eqb n 0 some))

  pub refused-as : (refusal : Refusal) → number_of refusal ≡ number → lent ≡ cond (eqb number 0) made lent
  refused-as refusal e = refused (number_of refusal) e (number-not-0 refusal)

  pub done : 0 ≡ number → made ≡ cond (eqb number 0) made lent
  done e = rw (← e)

-- equal sheets have equal slices
pub slices : (a b : Sheet) → a ≡ b → (a.keep ≡ b.keep) × (a.flip ≡ b.flip)
slices a b same = (ap (λ (x : Sheet). x.keep) same, ap (λ (x : Sheet). x.flip) same)
