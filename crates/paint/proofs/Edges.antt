-- The first word and the last that a picture reaches, column by column: in these only the columns that it shares with its strip are marked.
use Prim.Native.Nat.{ℕ, zero, suc, ◌+◌, ◌-◌, ◌*◌, ◌/◌, ◌%◌, ◌^◌, ◌<◌, ◌≤◌}
use mathlib.Core.Path.{◌≡◌, refl, sym, ap, ◌∙◌}
use mathlib.Core.Bool.{Bool, true, false, cond, not}
use native.Mathlib.Nat.{mod-lt}
use native.Mathlib.Omega.{arith}
use lib.Dec.{eqb, leb}
use borrow.Author.Tests.{eqb-true, ne_eqb, le-leb, lt-leb}
use Rattle.words.specs.Word.{bit_of}
use Rattle.words.specs.Search.{some_below}
use Rattle.words.proofs.Digits.{bit-ones}
use Rattle.words.proofs.Search.{none_below}
use Rattle.paint.specs.Reach.{from_column, upto_column}

-- found by looking at each of sixteen places and sixteen bits
wrong-from : ℕ → ℕ → Bool
wrong-from place j = not (eqb (bit_of (from_column place) j) (cond (leb place j) 1 0))

wrong-upto : ℕ → ℕ → Bool
wrong-upto place j = not (eqb (bit_of (upto_column place) j) (cond (leb j place) 1 0))

none-wrong-from : some_below 16 (λ place. some_below 16 (wrong-from place)) ≡ false
unfolding some_below wrong-from bit_of
none-wrong-from = refl

none-wrong-upto : some_below 16 (λ place. some_below 16 (wrong-upto place)) ≡ false
unfolding some_below wrong-upto bit_of
none-wrong-upto = refl

not-not : (t : Bool) → not t ≡ false → t ≡ true
not-not true h = refl
not-not false h = sym h

module _ (place j : ℕ) (here : j < 16) where
  from-bit : bit_of (from_column place) j ≡ cond (leb (place % 16) j) 1 0
  unfolding wrong-from
  from-bit =
      let at = place % 16 in
      let small : at < 16 = mod-lt place (omega arith) in
      let same : place % 16 ≡ at % 16 = omega arith in
      ap (λ (n : ℕ). bit_of (0xFFFF / 2 ^ n) j) same
      ∙ eqb-true _ _
      (not-not _ (none_below (wrong-from at) 16 j (none_below (λ p. some_below 16 (wrong-from p)) 16 at none-wrong-from small) here))

  upto-bit : bit_of (upto_column place) j ≡ cond (leb j (place % 16)) 1 0
  unfolding wrong-upto
  upto-bit =
      let at = place % 16 in
      let small : at < 16 = mod-lt place (omega arith) in
      let same : place % 16 ≡ at % 16 = omega arith in
      ap (λ (n : ℕ). bit_of (0xFFFF - 0x7FFF / 2 ^ n) j) same
      ∙ eqb-true _ _
      (not-not _ (none_below (wrong-upto at) 16 j (none_below (λ p. some_below 16 (wrong-upto p)) 16 at none-wrong-upto small) here))

-- the columns are shared from `from` up to, and without, `upto`; word w counts from the first that has one
module _ (from upto : ℕ) (j : ℕ) (here : j < 16) where
  abbrev mask : ℕ → ℕ
  mask w = cond (eqb w 0) (from_column from) 0xFFFF

  pub head_in : (w : ℕ) → from ≤ 16 * (from / 16 + w) + j → bit_of (mask w) j ≡ 1
  head_in zero reached = from-bit from j here ∙ rw (le-leb (from % 16) j (omega arith))
  head_in (suc w) reached = rw (ne_eqb (suc w) 0 (λ e. absurd (omega arith))) (bit-ones j here)

  pub head-out : (w : ℕ) → 16 * (from / 16 + w) + j < from → bit_of (mask w) j ≡ 0
  head-out zero before = from-bit from j here ∙ rw (lt-leb (from % 16) j (omega arith))
  head-out (suc w) before = absurd (omega arith)

  module _ (w : ℕ) (some : 0 < upto) (last : from / 16 + w ≡ (upto - 1) / 16) where
    pub tail-in : 16 * (from / 16 + w) + j < upto → bit_of (upto_column (upto - 1)) j ≡ 1
    tail-in reached = upto-bit (upto - 1) j here ∙ rw (le-leb j ((upto - 1) % 16) (omega arith))

    pub tail-out : upto ≤ 16 * (from / 16 + w) + j → bit_of (upto_column (upto - 1)) j ≡ 0
    tail-out past = upto-bit (upto - 1) j here ∙ rw (lt-leb j ((upto - 1) % 16) (omega arith))
