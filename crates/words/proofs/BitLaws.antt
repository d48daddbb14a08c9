-- The laws of AND and XOR that effects rest on. Each holds of the digits 0 and 1, by computing, and so of all numbers.
use Prim.Native.Nat.{ℕ, zero, suc, ◌<◌, min}
use mathlib.Core.Path.{◌≡◌, refl, sym, ap, ◌∙◌}
use native.Mathlib.Nat.{mod-eq_of_lt}
use native.Mathlib.Omega.{arith}
use lib.Bits.{bit_and, bit_xor, differ, and_comm, xor_comm, and_mask, xor_self, xor_zero_l}
use Rattle.words.proofs.Digits.{dig, dig-bit, ext-all, dig-and, dig-xor}

-- what holds of 0 and of 1 holds of every digit
pub on-digit : (P : ℕ → Type 0) → P 0 → P 1 → (x : ℕ) → x < 2 → P x
on-digit P p₀ p₁ zero h = p₀
on-digit P p₀ p₁ (suc zero) h = p₁
on-digit P p₀ p₁ (suc (suc x)) h = absurd (omega arith)

-- a law of three digits, by its eight cases
on-digits : (P : ℕ → ℕ → ℕ → Type 0)
    → P 0 0 0 → P 0 0 1 → P 0 1 0 → P 0 1 1 → P 1 0 0 → P 1 0 1 → P 1 1 0 → P 1 1 1
    → (x y z : ℕ) → x < 2 → y < 2 → z < 2 → P x y z
on-digits P a b c d e f g h x y z hx hy hz =
    on-digit (λ (i : ℕ). P i y z)
    (on-digit (λ (j : ℕ). P 0 j z) (on-digit (λ (k : ℕ). P 0 0 k) a b z hz) (on-digit (λ (k : ℕ). P 0 1 k) c d z hz) y hy)
    (on-digit (λ (j : ℕ). P 1 j z) (on-digit (λ (k : ℕ). P 1 0 k) e f z hz) (on-digit (λ (k : ℕ). P 1 1 k) g h z hz) y hy)
    x hx

pub and_assoc : (a b c : ℕ) → bit_and (bit_and a b) c ≡ bit_and a (bit_and b c)
and_assoc a b c =
    ext-all _ _
    (λ i. simp (dig-and)
    (on-digits (λ (x y z : ℕ). min (min x y) z ≡ min x (min y z)) refl refl refl refl refl refl refl refl
    (dig a i) (dig b i) (dig c i) (dig-bit a i) (dig-bit b i) (dig-bit c i)))

pub xor_assoc : (a b c : ℕ) → bit_xor (bit_xor a b) c ≡ bit_xor a (bit_xor b c)
xor_assoc a b c =
    ext-all _ _
    (λ i. simp (dig-xor)
    (on-digits (λ (x y z : ℕ). differ (differ x y) z ≡ differ x (differ y z)) refl refl refl refl refl refl refl refl
    (dig a i) (dig b i) (dig c i) (dig-bit a i) (dig-bit b i) (dig-bit c i)))

pub and_xor : (a b c : ℕ) → bit_and (bit_xor a b) c ≡ bit_xor (bit_and a c) (bit_and b c)
and_xor a b c =
    ext-all _ _
    (λ i. simp (dig-and, dig-xor)
    (on-digits (λ (x y z : ℕ). min (differ x y) z ≡ differ (min x z) (min y z)) refl refl refl refl refl refl refl refl
    (dig a i) (dig b i) (dig c i) (dig-bit a i) (dig-bit b i) (dig-bit c i)))

-- FFFF keeps a word as it is
pub and-ones : (w : ℕ) → w < 65536 → bit_and w 0xFFFF ≡ w
and-ones w h = and_mask w 16 ∙ mod-eq_of_lt h

pub ones_and : (w : ℕ) → w < 65536 → bit_and 0xFFFF w ≡ w
ones_and w h = and_comm 0xFFFF w ∙ and-ones w h

-- what was flipped by a word is told from the outcome
pub xor-cancel : (a b c : ℕ) → bit_xor a c ≡ bit_xor b c → a ≡ b
xor-cancel a b c e = sym (undo a) ∙ ap (λ (x : ℕ). bit_xor x c) e ∙ undo b
  where
    undo : (x : ℕ) → bit_xor (bit_xor x c) c ≡ x
    undo x = xor_assoc x c c ∙ ap (bit_xor x) (xor_self c) ∙ xor_comm x 0 ∙ xor_zero_l x
