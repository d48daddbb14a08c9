-- A word with one bit put: painting or erasing the one dot of a mask.
use Prim.Native.Nat.{ℕ, ◌-◌, ◌/◌, ◌%◌, ◌^◌, ◌<◌, min}
use mathlib.Core.Path.{◌≡◌, refl, sym, ap, ap₂, ◌∙◌}
use mathlib.Core.Bool.{Bool, true, false, cond, not}
use native.Mathlib.Nat.{mod-lt, div-le_self}
use native.Mathlib.Omega.{arith}
use lib.Bits.{differ}
use lib.Dec.{eqb}
use borrow.Author.Tests.{eqb-true, ne_eqb}
use Rattle.words.specs.Word.{bit_of, put_bit}
use Rattle.words.specs.Effect.{apply_to, paint_of, erase_of}
use Rattle.words.specs.Search.{some_below}
use Rattle.words.proofs.Digits.{bit_not, bit-zero, bit-digit}
use Rattle.words.proofs.BitLaws.{on-digit}
use Rattle.words.proofs.Bits.{bit-word-of, word-of-lt, ext-bits}
use Rattle.words.proofs.Effects.{apply-bit}
use Rattle.words.proofs.Altering.{apply-lt}
use Rattle.words.proofs.Search.{none_below}

-- the mask whose one dot is bit j
abbrev pub mask_of : ℕ → ℕ
mask_of j = 0x8000 / 2 ^ j

-- found by looking at each of sixteen masks and sixteen bits
wrong : ℕ → ℕ → Bool
wrong j i = not (eqb (bit_of (mask_of j) i) (cond (eqb i j) 1 0))

none-wrong : some_below 16 (λ j. some_below 16 (wrong j)) ≡ false
unfolding some_below wrong bit_of
none-wrong = refl

not-not : (t : Bool) → not t ≡ false → t ≡ true
not-not true h = refl
not-not false h = sym h

pub mask-bit : (j i : ℕ) → j < 16 → i < 16 → bit_of (mask_of j) i ≡ cond (eqb i j) 1 0
unfolding wrong
mask-bit j i hj hi =
    eqb-true _ _ (not-not _ (none_below (wrong j) 16 i (none_below (λ k. some_below 16 (wrong k)) 16 j none-wrong hj) hi))

module _ (w j b : ℕ) (word : w < 65536) where
  put : ℕ → ℕ
  put i = cond (eqb i j) (b % 2) (bit_of w i)

  put-digit : (i : ℕ) → put i < 2
  unfolding put
  put-digit i = either (eqb i j)
    where
      either : (t : Bool) → cond t (b % 2) (bit_of w i) < 2
      either true = mod-lt b (omega arith)
      either false = bit-digit w i

  -- a word whose bits are those of w, but for bit j
  same-but-one : (v : ℕ) → v < 65536 → ((i : ℕ) → i < 16 → bit_of v i ≡ cond (eqb i j) (b % 2) (bit_of w i)) → v ≡ put_bit w j b
  unfolding put_bit put
  same-but-one v small same =
      ext-bits v (put_bit w j b) small (word-of-lt put put-digit) (λ i less. same i less ∙ sym (bit-word-of put put-digit i less))

  -- there is no bit j
  pub unput : 15 < j → w ≡ put_bit w j b
  unput past =
      same-but-one w word (λ i less. sym (ap (λ (t : Bool). cond t (b % 2) (bit_of w i)) (ne_eqb i j (λ same. absurd (omega arith)))))

module _ (w j b : ℕ) (word : w < 65536) (here : j < 16) where
  mask_lt : mask_of j < 65536
  mask_lt = let le = div-le_self 0x8000 (2 ^ j) in omega arith

  keep-lt : 0xFFFF - mask_of j < 65536
  keep-lt = omega arith

  -- a dot under the mask, and one beside it, by whether it is bit j
  bits-under : (flip i : ℕ) → i < 16 → bit_of flip i ≡ cond (eqb i j) (b % 2) 0
      → bit_of (apply_to (record { keep = 0xFFFF - mask_of j; flip = flip }) w) i ≡ cond (eqb i j) (b % 2) (bit_of w i)
  bits-under flip i less e =
      apply-bit (record { keep = 0xFFFF - mask_of j; flip = flip }) w i
      ∙ ap₂ (λ (k f : ℕ). differ (min (bit_of w i) k) f)
      (bit_not (mask_of j) i mask_lt less ∙ ap (λ (m : ℕ). 1 - m) (mask-bit j i here less)) e
      ∙ either (eqb i j)
    where
      either : (t : Bool) → differ (min (bit_of w i) (1 - cond t 1 0)) (cond t (b % 2) 0) ≡ cond t (b % 2) (bit_of w i)
      either true =
          on-digit (λ (x : ℕ). differ (min (bit_of w i) 0) x ≡ x)
          (on-digit (λ (x : ℕ). differ (min x 0) 0 ≡ 0) refl refl (bit_of w i) (bit-digit w i))
          (on-digit (λ (x : ℕ). differ (min x 0) 1 ≡ 1) refl refl (bit_of w i) (bit-digit w i))
          (b % 2) (mod-lt b (omega arith))
      either false = on-digit (λ (x : ℕ). differ (min x 1) 0 ≡ x) refl refl (bit_of w i) (bit-digit w i)

  pub painted : b % 2 ≡ 1 → apply_to (paint_of (mask_of j)) w ≡ put_bit w j b
  painted one =
      same-but-one w j b word (apply_to (paint_of (mask_of j)) w) (apply-lt (paint_of (mask_of j)) w (keep-lt, mask_lt) word)
      (λ i less. bits-under (mask_of j) i less (mask-bit j i here less ∙ ap (λ (x : ℕ). cond (eqb i j) x 0) (sym one)))

  pub erased : b % 2 ≡ 0 → apply_to (erase_of (mask_of j)) w ≡ put_bit w j b
  erased none =
      same-but-one w j b word (apply_to (erase_of (mask_of j)) w) (apply-lt (erase_of (mask_of j)) w (keep-lt, omega arith) word)
      (λ i less. bits-under 0 i less (bit-zero i ∙ sym (either (eqb i j))))
    where
      either : (t : Bool) → cond t (b % 2) 0 ≡ 0
      either true = none
      either false = refl
