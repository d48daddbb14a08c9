-- Sixteen bits of two neighbouring words, by the bits of each; and that turning the two as a ring gives them.
use Prim.Native.Nat.{ℕ, zero, suc, ◌+◌, ◌-◌, ◌*◌, ◌/◌, ◌%◌, ◌^◌, ◌<◌, ◌≤◌, max}
use mathlib.Core.Path.{◌≡◌, refl, sym, ap, ap₂, ◌∙◌}
use mathlib.Core.Bool.{Bool, true, false}
use native.Mathlib.Nat.{pow-suc, div-one, add-zero, zero-add, mul-one, mul_assoc, suc-add, mod-lt, div-add-mod', max-zero, zero-max}
use native.Mathlib.Numerals.{one-add}
use native.Mathlib.Omega.{arith}
use lib.Arith.{lt-one}
use lib.Bits.{bit_or, or_step}
use lib.Dec.{ltb, eqb}
use lib.Pow.{shr-shr, pow_pos}
use borrow.Author.Tests.{ltb-true, ltb-false, eqb-true, eqb-false}
use Rattle.words.specs.Word.{bit_of}
use Rattle.words.proofs.Digits.{dig, bit-dig, ext-word}
use Rattle.paint.specs.Reach.{two_words}

-- a number over another of k digits: those digits come first, and then its own
low_digit : (k high low i : ℕ) → low < 2 ^ k → i < k → dig (high * 2 ^ k + low) i ≡ dig low i
unfolding dig
low_digit zero high low i small here = absurd (omega arith)
low_digit (suc k) high low zero small here =
    let twice : high * 2 ^ suc k ≡ high * 2 ^ k * 2 = ap (◌*◌ high) (pow-suc 2 k) ∙ sym (mul_assoc high (2 ^ k) 2) in
    omega arith
low_digit (suc k) high low (suc i) small here =
    let twice : high * 2 ^ suc k ≡ high * 2 ^ k * 2 = ap (◌*◌ high) (pow-suc 2 k) ∙ sym (mul_assoc high (2 ^ k) 2) in
    let room : low < 2 ^ k * 2 = rw (pow-suc 2 k) at small in
    let half : (high * 2 ^ suc k + low) / 2 ≡ high * 2 ^ k + low / 2 = omega arith in
    ap (λ (n : ℕ). dig n i) half ∙ low_digit k high (low / 2) i (omega arith) (omega arith)

high_digit : (k high low i : ℕ) → low < 2 ^ k → dig (high * 2 ^ k + low) (k + i) ≡ dig high i
unfolding dig
high_digit zero high low i small =
    let none : low ≡ 0 = lt-one small in
    ap (λ (n : ℕ). dig n (0 + i)) (ap (λ (n : ℕ). high * 1 + n) none ∙ add-zero (high * 1) ∙ mul-one high)
    ∙ ap (dig high) (zero-add i)
high_digit (suc k) high low i small =
    let twice : high * 2 ^ suc k ≡ high * 2 ^ k * 2 = ap (◌*◌ high) (pow-suc 2 k) ∙ sym (mul_assoc high (2 ^ k) 2) in
    let room : low < 2 ^ k * 2 = rw (pow-suc 2 k) at small in
    let half : (high * 2 ^ suc k + low) / 2 ≡ high * 2 ^ k + low / 2 = omega arith in
    ap (dig (high * 2 ^ suc k + low)) (suc-add k i)
    ∙ ap (λ (n : ℕ). dig n (k + i)) half ∙ high_digit k high (low / 2) i (omega arith)

-- a shift leaves out the first k digits
shift-digit : (k n i : ℕ) → dig (n / 2 ^ k) i ≡ dig n (k + i)
unfolding dig
shift-digit zero n i = ap (λ (m : ℕ). dig m i) (div-one n) ∙ ap (dig n) (sym (zero-add i))
shift-digit (suc k) n i =
    ap (λ (m : ℕ). dig m i) (sym (shr-shr n 1 k ∙ ap (λ (j : ℕ). n / 2 ^ j) (one-add k)))
    ∙ shift-digit k (n / 2) i
    ∙ ap (dig n) (sym (suc-add k i))

-- a remainder has them and no others
first-digits : (k n i : ℕ) → i < k → dig (n % 2 ^ k) i ≡ dig n i
first-digits k n i here =
    sym (low_digit k (n / 2 ^ k) (n % 2 ^ k) i (mod-lt n (pow_pos k)) here) ∙ ap (λ (m : ℕ). dig m i) (div-add-mod' n (2 ^ k))

two-words-digit : (high low shift i : ℕ) → i < 16 → dig (two_words high low shift) i ≡ dig (high * 65536 + low) (16 - shift + i)
two-words-digit high low shift i here = first-digits 16 _ i here ∙ shift-digit (16 - shift) (high * 65536 + low) i

module _ (high low shift j : ℕ) (small : low < 65536) (begins : shift < 16) (here : j < 16) where
  two-digit : bit_of (two_words high low shift) j ≡ dig (high * 65536 + low) (16 - shift + (15 - j))
  two-digit = bit-dig (two_words high low shift) j ∙ two-words-digit high low shift (15 - j) (omega arith)

  pub in-first : shift + j < 16 → bit_of (two_words high low shift) j ≡ bit_of high (shift + j)
  in-first less =
      two-digit
      ∙ ap (dig (high * 65536 + low)) {x = 16 - shift + (15 - j)} {y = 16 + (15 - (shift + j))} (omega arith)
      ∙ high_digit 16 high low (15 - (shift + j)) small
      ∙ sym (bit-dig high (shift + j))

  pub in-second : 16 ≤ shift + j → bit_of (two_words high low shift) j ≡ bit_of low (shift + j - 16)
  in-second past =
      two-digit
      ∙ ap (dig (high * 65536 + low)) {x = 16 - shift + (15 - j)} {y = 15 - (shift + j - 16)} (omega arith)
      ∙ low_digit 16 high low (15 - (shift + j - 16)) small (omega arith)
      ∙ sym (bit-dig low (shift + j - 16))

-- ---- the two words turned as a ring, the first last

last-digit : (q r : ℕ) → r < 2 → ((q * 2 + r) / 2 ≡ q) × ((q * 2 + r) % 2 ≡ r)
last-digit q r h = (omega arith, omega arith)

most-bit : (x y : ℕ) → x < 2 → y < 2 → max x y < 2
most-bit x y hx hy = omega arith

most-itself : (x : ℕ) → max x x ≡ x
most-itself x = omega arith

dig-or : (a b i : ℕ) → dig (bit_or a b) i ≡ max (dig a i) (dig b i)
unfolding dig
dig-or a b zero =
    ap (λ (n : ℕ). n % 2) (or_step a b)
    ∙ (last-digit (bit_or (a / 2) (b / 2)) (max (a % 2) (b % 2)) (most-bit (a % 2) (b % 2) (omega arith) (omega arith))).1
dig-or a b (suc i) =
    ap (λ (n : ℕ). dig (n / 2) i) (or_step a b)
    ∙ ap (λ (n : ℕ). dig n i)
    (last-digit (bit_or (a / 2) (b / 2)) (max (a % 2) (b % 2)) (most-bit (a % 2) (b % 2) (omega arith) (omega arith))).0
    ∙ dig-or (a / 2) (b / 2) i

-- no digit is there past the last, nor before a shift to the left
zero-digits : (i : ℕ) → dig 0 i ≡ 0
unfolding dig
zero-digits zero = refl
zero-digits (suc i) = zero-digits i

past-digit : (low i : ℕ) → low < 65536 → dig low (16 + i) ≡ 0
past-digit low i small =
    ap (λ (n : ℕ). dig n (16 + i)) (sym (zero-add low)) ∙ high_digit 16 0 low i small ∙ zero-digits i

shifted_in : (k n i : ℕ) → i < k → dig (n * 2 ^ k) i ≡ 0
shifted_in k n i here =
    ap (λ (m : ℕ). dig m i) (sym (add-zero (n * 2 ^ k))) ∙ low_digit k n 0 i (pow_pos k) here ∙ zero-digits i

shifted-on : (k n i : ℕ) → dig (n * 2 ^ k) (k + i) ≡ dig n i
shifted-on k n i = ap (λ (m : ℕ). dig m (k + i)) (sym (add-zero (n * 2 ^ k))) ∙ high_digit k n 0 i (pow_pos k)

module _ (high low shift : ℕ) (high_word_lem : high < 65536) (low_word : low < 65536) (begins : shift < 16) where
  abbrev ring : ℕ
  ring = low * 65536 + high

  abbrev turned : ℕ
  turned = bit_or (ring * 2 ^ shift % 4294967296) (ring / 2 ^ ((32 - shift) % 32)) % 65536

  turned-digit : (i : ℕ) → i < 16 → dig turned i ≡ max (dig (ring * 2 ^ shift) i) (dig ring ((32 - shift) % 32 + i))
  turned-digit i here =
      first-digits 16 _ i here
      ∙ dig-or (ring * 2 ^ shift % 4294967296) (ring / 2 ^ ((32 - shift) % 32)) i
      ∙ ap₂ max (first-digits 32 (ring * 2 ^ shift) i (omega arith)) (shift-digit ((32 - shift) % 32) ring i)

  same-digit : (i : ℕ) → i < 16 → (t u : Bool) → ltb i shift ≡ t → eqb shift 0 ≡ u → dig turned i ≡ dig (two_words high low shift) i
  same-digit i here true u e f =
      let less : i < shift = ltb-true i shift e in
      let at : (32 - shift) % 32 + i ≡ 16 + (16 - shift + i) = omega arith in
      turned-digit i here
      ∙ ap₂ max (shifted_in shift ring i less) (ap (dig ring) at ∙ high_digit 16 low high (16 - shift + i) high_word_lem)
      ∙ zero-max (dig low (16 - shift + i))
      ∙ sym (two-words-digit high low shift i here ∙ low_digit 16 high low (16 - shift + i) low_word (omega arith))
  same-digit i here false u e f =
      let past : shift ≤ i = ltb-false i shift e in
      let on : i ≡ shift + (i - shift) = omega arith in
      let own = low_digit 16 low high (i - shift) high_word_lem (omega arith) in
      let from : 16 - shift + i ≡ 16 + (i - shift) = omega arith in
      turned-digit i here
      ∙ ap (λ (x : ℕ). max x (dig ring ((32 - shift) % 32 + i)))
      (ap (dig (ring * 2 ^ shift)) on ∙ shifted-on shift ring (i - shift) ∙ own)
      ∙ by-shift u f
      ∙ sym (two-words-digit high low shift i here ∙ ap (dig (high * 65536 + low)) from ∙ high_digit 16 high low (i - shift) low_word)
    where
      by-shift : (u : Bool) → eqb shift 0 ≡ u → max (dig high (i - shift)) (dig ring ((32 - shift) % 32 + i)) ≡ dig high (i - shift)
      by-shift true f =
          let none : shift ≡ 0 = eqb-true shift 0 f in
          let at : (32 - shift) % 32 + i ≡ i - shift = omega arith in
          ap (max (dig high (i - shift))) (ap (dig ring) at ∙ low_digit 16 low high (i - shift) high_word_lem (omega arith))
          ∙ most-itself (dig high (i - shift))
      by-shift false f =
          let past : shift ≤ i = ltb-false i shift e in
          let some : shift ≡ 0 → ⊥ = eqb-false shift 0 f in
          let at : (32 - shift) % 32 + i ≡ 16 + (16 + (i - shift)) = omega arith in
          ap (max (dig high (i - shift)))
          (ap (dig ring) at ∙ high_digit 16 low high (16 + (i - shift)) high_word_lem ∙ past-digit low (i - shift) low_word)
          ∙ max-zero (dig high (i - shift))

  pub two-words-turned : turned ≡ two_words high low shift
  two-words-turned =
      ext-word turned (two_words high low shift) (mod-lt _ (omega arith)) (mod-lt _ (omega arith))
      (λ i here. same-digit i here (ltb i shift) (eqb shift 0) refl refl)
