-- Laws of refusals and their numbers: no number is 0, each refusal is the one of its number, and so a number says what a call answers.
use Prim.Native.Nat.{ℕ}
use mathlib.Core.Path.{◌≡◌, refl, sym, ap, ◌∙◌}
use native.Mathlib.Omega.{arith}
use borrow.Author.Tests.{ne_eqb, eq-eqb}
use Rattle.std.specs.declared.result.Result.{Result}
use Rattle.std.specs.declared.result.Result.TheVariants.{Ok, Err}
use Rattle.words.specs.declared.refusal.Refusal.{Refusal}
use Rattle.words.specs.declared.refusal.Refusal.TheVariants.{OddBytes}
use Rattle.words.specs.Refusal.{number_of, numbered, refusal_of, returned, answered}

pub number-not-0 : (refusal : Refusal) → number_of refusal ≡ 0 → ⊥
number-not-0 OddBytes h = omega arith
number-not-0 refusal h = omega arith

pub refusal-again : (refusal : Refusal) → refusal_of (number_of refusal) ≡ refusal
unfolding refusal_of numbered
refusal-again OddBytes = refl
refusal-again refusal = refl

-- two refusals of one number are one
pub same-refusal : (one other : Refusal) → number_of one ≡ number_of other → one ≡ other
same-refusal one other e = sym (refusal-again one) ∙ ap refusal_of e ∙ refusal-again other

module _ {A : Type 0} where
  pub answered-value : (number : ℕ) (value : A) → 0 ≡ number → Ok value ≡ answered number value
  unfolding answered
  answered-value number value e = rw (eq-eqb number 0 (sym e))

  pub answered-refusal : (refusal : Refusal) (number : ℕ) (value : A) → number_of refusal ≡ number → Err refusal ≡ answered number value
  unfolding answered
  answered-refusal refusal number value e =
      rw (← e) (rw (ne_eqb (number_of refusal) 0 (number-not-0 refusal), refusal-again refusal))
