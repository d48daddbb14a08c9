-- What an answer of reading tells, by the number of the refusal and the view.
use Prim.Native.Nat.{ℕ}
use mathlib.Core.Path.{◌≡◌, refl, sym, ap, ◌∙◌}
use mathlib.Core.Bool.{Bool, true, false, cond, true≢false, false≢true}
use lib.Dec.{eqb}
use borrow.Author.Tests.{eqb-true, eqb-false}
use Rattle.std.specs.Prelude.{is_err}
use Rattle.std.specs.declared.result.Result.{Result}
use Rattle.std.specs.declared.result.Result.TheVariants.{Ok, Err}
use Rattle.words.specs.declared.refusal.Refusal.{Refusal}
use Rattle.words.specs.Refusal.{number_of, refusal_of, returned, answered}
use Rattle.words.proofs.Refusals.{number-not-0, same-refusal}

module _ {A : Type 0} where
  -- whether it accepts, and what it found: of every answer
  abbrev accepts : Result A Refusal → Bool
  accepts (Ok value) = true
  accepts (Err refusal) = false

  abbrev found-in : A → Result A Refusal → A
  found-in other (Ok value) = value
  found-in other (Err refusal) = other

  pub told-refused : (answer : Result A Refusal) → is_err answer ≡ true → returned answer ≡ 0 → ⊥
  told-refused (Ok value) e = λ _. false≢true e
  told-refused (Err refusal) e = number-not-0 refusal

  pub told-accepted : (answer : Result A Refusal) → is_err answer ≡ false → returned answer ≡ 0
  told-accepted (Ok value) e = refl
  told-accepted (Err refusal) e = absurd (true≢false e)

  -- of an answer that tells the font's number a refusal's number is the font's, and is not 0
  pub told-number : (number : ℕ) (answer : Result A Refusal) (refusal : Refusal) → returned answer ≡ number → answer ≡ Err refusal
      → (number_of refusal ≡ number) × (number_of refusal ≡ 0 → ⊥)
  told-number number answer refusal told is = (sym (ap returned is) ∙ told, number-not-0 refusal)

  -- so of what a number answers, where it is a refusal's number if it is not 0
  pub read-refused : (number : ℕ) (value : A) (refusal : Refusal) → ((number ≡ 0 → ⊥) → number_of (refusal_of number) ≡ number)
      → answered number value ≡ Err refusal → (number_of refusal ≡ number) × (number_of refusal ≡ 0 → ⊥)
  unfolding answered
  read-refused number value refusal known = either (eqb number 0) refl
    where
      either : (t : Bool) → eqb number 0 ≡ t → cond t (Ok value) (Err (refusal_of number)) ≡ Err refusal
          → (number_of refusal ≡ number) × (number_of refusal ≡ 0 → ⊥)
      either true e is = absurd (true≢false (ap accepts is))
      either false e is = told-number number _ refusal (known (eqb-false number 0 e)) is

  pub read-accepted : (number : ℕ) (value v : A) → answered number value ≡ Ok v → (number ≡ 0) × (v ≡ value)
  unfolding answered
  read-accepted number value v = either (eqb number 0) refl
    where
      either : (t : Bool) → eqb number 0 ≡ t → cond t (Ok value) (Err (refusal_of number)) ≡ Ok v → (number ≡ 0) × (v ≡ value)
      either true e is = (eqb-true number 0 e, sym (ap (found-in v) is))
      either false e is = absurd (false≢true (ap accepts is))

-- answers of one number are one, where nothing stands beside done
pub same-answer : (one other : Result (Unit {0}) Refusal) → returned one ≡ returned other → one ≡ other
same-answer (Ok one) (Ok other) e = refl
same-answer (Ok one) (Err other) e = absurd (number-not-0 other (sym e))
same-answer (Err one) (Ok other) e = absurd (number-not-0 one e)
same-answer (Err one) (Err other) e = ap Err (same-refusal one other e)
