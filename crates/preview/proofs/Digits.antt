-- A decimal number, one digit at a time.
use Prim.Native.Nat.{ℕ, ◌+◌, ◌<◌, ◌≤◌}
use mathlib.Core.Path.{◌≡◌, refl}
use mathlib.Core.List.{List, [], ◌∷◌}
use native.Mathlib.Numerals.{add-one}
use native.Mathlib.Omega.{arith}
use lib.ListN.{length, get_or, drop, drop_of_length-le}
use lib.Seq.{drop-cons}
use Rattle.std.specs.Prelude.{None, Some}
use Rattle.std.specs.Option.{option_and_then}
use borrow.Author.Tests.{ne_eqb}
use Rattle.preview.specs.Number.{with_digit, digits_after, number_of, positive_of, signed_of}

pub some_digits : (text : List ℕ) → 1 ≤ length text → number_of text ≡ digits_after 0 text
unfolding number_of
some_digits [] h = absurd (omega arith)
some_digits (b ∷ bytes) h = refl

pub no_digits : (text : List ℕ) → length text ≡ 0 → None ≡ number_of text
unfolding number_of
no_digits [] h = refl
no_digits (b ∷ bytes) h = absurd (omega arith)

module _ (text : List ℕ) (n i : ℕ) where
  pub digit_more : i < length text
      → digits_after n (drop i text) ≡ option_and_then (λ longer. digits_after longer (drop (i + 1) text)) (with_digit n (get_or text i 0))
  unfolding digits_after
  digit_more here = rw (add-one, drop-cons text i 0)

  pub digits_done : length text ≤ i → digits_after n (drop i text) ≡ Some n
  unfolding digits_after
  digits_done past = rw (drop_of_length-le text past)

-- a text that does not begin with a sign
pub without_sign : (text : List ℕ) → 1 ≤ length text → (get_or text 0 0 ≡ 45 → ⊥)
    → signed_of text ≡ option_and_then positive_of (number_of text)
unfolding signed_of
without_sign [] some h = absurd (omega arith)
without_sign (b ∷ bytes) some h = rw (ne_eqb b 45 h)

-- digit by digit, and the sign before them
pub ruleset digits = (some_digits, digit_more, digits_done)

pub ruleset signs = (no_digits, without_sign)
