-- A number by its binary digits, from the low end. Two numbers are equal when all their digits are, so a law of AND and XOR is a
-- truth table over the digits 0 and 1.
use Prim.Native.Nat.{ℕ, zero, suc, ◌+◌, ◌-◌, ◌*◌, ◌/◌, ◌%◌, ◌^◌, ◌<◌, min}
use mathlib.Core.Path.{◌≡◌, refl, sym, ap, ◌∙◌}
use native.Mathlib.Nat.{lt_of_lt_of_le}
use native.Mathlib.Omega.{arith}
use native.Mathlib.Numerals.{one-add}
use lib.Arith.{lt-one}
use lib.Bits.{bit_and, bit_xor, differ, and_step, xor_step}
use lib.Pow.{pow_mono, shr-shr}
use native.Mathlib.Nat.{pow-suc, div-one}
use Rattle.words.specs.Word.{bit_of}

unfoldable pub dig : ℕ → ℕ → ℕ
dig w zero = w % 2
dig w (suc i) = dig (w / 2) i

pub dig-bit : (w i : ℕ) → dig w i < 2
unfolding dig
dig-bit w zero = omega arith
dig-bit w (suc i) = dig-bit (w / 2) i

-- ---- equal digits, equal numbers

below-pow : (n : ℕ) → n < 2 ^ n
below-pow zero = omega arith
below-pow (suc n) = let h : n < 2 ^ n = below-pow n in rw (pow-suc 2 n) (omega arith)

equal-upto : (k a b : ℕ) → a < 2 ^ k → b < 2 ^ k → ((i : ℕ) → i < k → dig a i ≡ dig b i) → a ≡ b
unfolding dig
equal-upto zero a b ha hb e = lt-one ha ∙ sym (lt-one hb)
equal-upto (suc k) a b ha hb e =
    let ha₂ : a < 2 ^ k * 2 = rw (pow-suc 2 k) at ha in
    let hb₂ : b < 2 ^ k * 2 = rw (pow-suc 2 k) at hb in
    let high : a / 2 ≡ b / 2 = equal-upto k (a / 2) (b / 2) (omega arith) (omega arith) (λ i h. e (suc i) (omega arith)) in
    let low : a % 2 ≡ b % 2 = e 0 (omega arith) in
    omega arith

pub ext-all : (a b : ℕ) → ((i : ℕ) → dig a i ≡ dig b i) → a ≡ b
ext-all a b e =
    equal-upto (a + b) a b
    (lt_of_lt_of_le (below-pow a) (pow_mono (omega arith)))
    (lt_of_lt_of_le (below-pow b) (pow_mono (omega arith)))
    (λ i h. e i)

-- two words, by their sixteen digits
pub ext-word : (a b : ℕ) → a < 65536 → b < 65536 → ((i : ℕ) → i < 16 → dig a i ≡ dig b i) → a ≡ b
ext-word a b ha hb e = equal-upto 16 a b ha hb e

-- ---- the digits of AND and XOR

last-digit : (q r : ℕ) → r < 2 → ((q * 2 + r) / 2 ≡ q) × ((q * 2 + r) % 2 ≡ r)
last-digit q r h = (omega arith, omega arith)

min-bit : (x y : ℕ) → x < 2 → y < 2 → min x y < 2
min-bit x y hx hy = omega arith

differ-bit : (x y : ℕ) → x < 2 → y < 2 → differ x y < 2
differ-bit zero y hx hy = hy
differ-bit (suc zero) zero hx hy = omega arith
differ-bit (suc zero) (suc zero) hx hy = omega arith
differ-bit (suc zero) (suc (suc y)) hx hy = absurd (omega arith)
differ-bit (suc (suc x)) y hx hy = absurd (omega arith)

pub dig-and : (a b i : ℕ) → dig (bit_and a b) i ≡ min (dig a i) (dig b i)
unfolding dig
dig-and a b zero =
    ap (λ (n : ℕ). n % 2) (and_step a b)
    ∙ (last-digit (bit_and (a / 2) (b / 2)) (min (a % 2) (b % 2)) (min-bit (a % 2) (b % 2) (omega arith) (omega arith))).1
dig-and a b (suc i) =
    ap (λ (n : ℕ). dig (n / 2) i) (and_step a b)
    ∙ ap (λ (n : ℕ). dig n i) (last-digit (bit_and (a / 2) (b / 2)) (min (a % 2) (b % 2))
    (min-bit (a % 2) (b % 2) (omega arith) (omega arith))).0
    ∙ dig-and (a / 2) (b / 2) i

pub dig-xor : (a b i : ℕ) → dig (bit_xor a b) i ≡ differ (dig a i) (dig b i)
unfolding dig
dig-xor a b zero =
    ap (λ (n : ℕ). n % 2) (xor_step a b)
    ∙ (last-digit (bit_xor (a / 2) (b / 2)) (differ (a % 2) (b % 2)) (differ-bit (a % 2) (b % 2) (omega arith) (omega arith))).1
dig-xor a b (suc i) =
    ap (λ (n : ℕ). dig (n / 2) i) (xor_step a b)
    ∙ ap (λ (n : ℕ). dig n i) (last-digit (bit_xor (a / 2) (b / 2)) (differ (a % 2) (b % 2))
    (differ-bit (a % 2) (b % 2) (omega arith) (omega arith))).0
    ∙ dig-xor (a / 2) (b / 2) i

-- ---- the digits are the bits, which are counted from the other end

dig-shift : (w i : ℕ) → dig w i ≡ w / 2 ^ i % 2
unfolding dig
dig-shift w zero = ap (λ (n : ℕ). n % 2) (sym (div-one w))
dig-shift w (suc i) = dig-shift (w / 2) i ∙ ap (λ (n : ℕ). n % 2) (shr-shr w 1 i ∙ ap (λ (k : ℕ). w / 2 ^ k) (one-add i))

pub bit-dig : (w j : ℕ) → bit_of w j ≡ dig w (15 - j)
unfolding bit_of
bit-dig w j = sym (dig-shift w (15 - j))

pub dig-of : (w i : ℕ) → i < 16 → dig w i ≡ bit_of w (15 - i)
dig-of w i h = ap (dig w) (omega arith) ∙ sym (bit-dig w (15 - i))

pub bit-digit : (w j : ℕ) → bit_of w j < 2
bit-digit w j = rw bit-dig (dig-bit w (15 - j))

pub bit-and : (a b j : ℕ) → bit_of (bit_and a b) j ≡ min (bit_of a j) (bit_of b j)
bit-and a b j = simp bit-dig (dig-and a b (15 - j))

pub bit-xor : (a b j : ℕ) → bit_of (bit_xor a b) j ≡ differ (bit_of a j) (bit_of b j)
bit-xor a b j = simp bit-dig (dig-xor a b (15 - j))

dig-not : (k w i : ℕ) → w < 2 ^ k → i < k → dig ((2 ^ k - 1) - w) i ≡ 1 - dig w i
unfolding dig
dig-not zero w i hw hi = absurd (omega arith)
dig-not (suc k) w zero hw hi = let h : w < 2 ^ k * 2 = rw (pow-suc 2 k) at hw in rw (pow-suc 2 k) (omega arith)
dig-not (suc k) w (suc i) hw hi =
    let h : w < 2 ^ k * 2 = rw (pow-suc 2 k) at hw in
    let half : ((2 ^ suc k - 1) - w) / 2 ≡ (2 ^ k - 1) - w / 2 = rw (pow-suc 2 k) (omega arith) in
    ap (λ (n : ℕ). dig n i) half ∙ dig-not k (w / 2) i (omega arith) (omega arith)

pub bit_not : (w j : ℕ) → w < 65536 → j < 16 → bit_of (0xFFFF - w) j ≡ 1 - bit_of w j
bit_not w j hw hj = simp bit-dig (dig-not 16 w (15 - j) hw (omega arith))

zero-digits : (i : ℕ) → dig 0 i ≡ 0
unfolding dig
zero-digits zero = refl
zero-digits (suc i) = zero-digits i

pub bit-zero : (j : ℕ) → bit_of 0 j ≡ 0
bit-zero j = bit-dig 0 j ∙ zero-digits (15 - j)

pub bit-ones : (j : ℕ) → j < 16 → bit_of 0xFFFF j ≡ 1
bit-ones j h = bit_not 0 j (omega arith) h ∙ ap (λ (x : ℕ). 1 - x) (bit-zero j)
