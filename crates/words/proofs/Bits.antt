-- A word made of its bits, one after the other.
use Prim.Native.Nat.{ℕ, zero, suc, ◌+◌, ◌-◌, ◌*◌, ◌/◌, ◌%◌, ◌^◌, ◌<◌, ◌≤◌, min}
use mathlib.Core.Path.{◌≡◌, refl, sym, ap, ap₂, ◌∙◌}
use mathlib.Core.Bool.{Bool, cond}
use native.Mathlib.Nat.{pow-suc, lt_of_lt_of_le, div-one, add-zero, add-suc, add-sub_cancel_left}
use native.Mathlib.Numerals.{add-one, one-add}
use native.Mathlib.Omega.{arith}
use lib.Bits.{bit_and, and_lt}
use lib.Dec.{leb}
use lib.Pow.{pow_mono, shr-shr}
use borrow.Author.Tests.{le-leb, lt-leb}
use Rattle.words.specs.Word.{bit_of, word_to, word_of}
use Rattle.words.proofs.Digits.{dig, bit-dig, bit-and, dig-of, ext-word}

module _ (f : ℕ → ℕ) (bits : (i : ℕ) → f i < 2) where
  word-to-lt : (n : ℕ) → word_to f n < 2 ^ n
  unfolding word_to
  word-to-lt zero = omega arith
  word-to-lt (suc n) = let h : word_to f n < 2 ^ n = word-to-lt n in rw (pow-suc 2 n) (omega (arith, bits n))

  -- one more bit b behind the first n, which are w: it fits a word, up to the sixteenth, and makes the first n + 1
  pub one-bit-fits : (n w b : ℕ) → n < 16 → w ≡ word_to f n → b ≡ f n → w * 2 + b < 65536
  unfolding word_to
  one-bit-fits n w b h e k = rw (e, k) (lt_of_lt_of_le (word-to-lt (suc n)) (pow_mono {j = 16} h))

  pub word-of-lt : word_of f < 65536
  unfolding word_of
  word-of-lt = word-to-lt 16

  last-digit : (w b : ℕ) → b < 2 → ((w * 2 + b) % 2 ≡ b) × ((w * 2 + b) / 2 ≡ w)
  last-digit w b h = (omega arith, omega arith)

  -- the digits of the word are the bits, from the last on
  digits : (n k : ℕ) → k < n → dig (word_to f n) k ≡ f (n - 1 - k)
  unfolding word_to dig
  digits zero k h = absurd (omega arith)
  digits (suc n) zero h = (last-digit (word_to f n) (f n) (bits n)).0 ∙ ap f (omega arith)
  digits (suc n) (suc k) h =
      ap (λ (w : ℕ). dig w k) (last-digit (word_to f n) (f n) (bits n)).1 ∙ digits n k (omega arith) ∙ ap f (omega arith)

  -- bit j of the word whose bits are f 0, f 1, .. is f j
  pub bit-word-of : (j : ℕ) → j < 16 → bit_of (word_of f) j ≡ f j
  unfolding word_of
  bit-word-of j h = bit-dig (word_to f 16) j ∙ digits 16 (15 - j) (omega arith) ∙ ap f (omega arith)

pub one-bit-more : (f : ℕ → ℕ) (n w b : ℕ) → w ≡ word_to f n → b ≡ f n → w * 2 + b ≡ word_to f (n + 1)
unfolding word_to
one-bit-more f n w b e k = rw (e, k) (sym (ap (word_to f) (add-one n)))

-- ---- words of the same bits, and what AND and a shift do to the bits

to_same : (f g : ℕ → ℕ) (n : ℕ) → ((j : ℕ) → j < n → f j ≡ g j) → word_to f n ≡ word_to g n
unfolding word_to
to_same f g zero e = refl
to_same f g (suc n) e = ap₂ (λ (w b : ℕ). w * 2 + b) (to_same f g n (λ j h. e j (omega arith))) (e n (omega arith))

pub word-of-same : (f g : ℕ → ℕ) → ((j : ℕ) → j < 16 → f j ≡ g j) → word_of f ≡ word_of g
unfolding word_of
word-of-same f g e = to_same f g 16 e

pub word-of-none : (f : ℕ → ℕ) → ((j : ℕ) → j < 16 → f j ≡ 0) → word_of f ≡ 0
unfolding word_of word_to
word-of-none f e = word-of-same f (λ j. 0) e

-- a word has the bits that it is made of, and is made of the bits that it has
pub ext-bits : (a b : ℕ) → a < 65536 → b < 65536 → ((j : ℕ) → j < 16 → bit_of a j ≡ bit_of b j) → a ≡ b
ext-bits a b ha hb e =
    ext-word a b ha hb (λ i h. dig-of a i h ∙ e (15 - i) (omega arith) ∙ sym (dig-of b i h))

min-bit : (x y : ℕ) → x < 2 → y < 2 → min x y < 2
min-bit x y hx hy = omega arith

pub and-words : (f g : ℕ → ℕ) → ((i : ℕ) → f i < 2) → ((i : ℕ) → g i < 2) → bit_and (word_of f) (word_of g) ≡ word_of (λ i. min (f i) (g i))
and-words f g hf hg =
    let both : (i : ℕ) → min (f i) (g i) < 2 = λ i. min-bit (f i) (g i) (hf i) (hg i) in
    ext-bits _ _ (and_lt 16 (word_of f) (word_of g) (word-of-lt f hf) (word-of-lt g hg)) (word-of-lt (λ i. min (f i) (g i)) both)
    (λ j h. bit-and (word_of f) (word_of g) j ∙ ap₂ min (bit-word-of f hf j h) (bit-word-of g hg j h)
    ∙ sym (bit-word-of (λ i. min (f i) (g i)) both j h))

-- the bits of f, s places later, and 0 before
abbrev pub later : ℕ → (ℕ → ℕ) → ℕ → ℕ
later s f j = cond (leb s j) (f (j - s)) 0

module _ (f : ℕ → ℕ) (bits : (i : ℕ) → f i < 2) where
  halved : (n : ℕ) → word_to f (suc n) / 2 ≡ word_to f n
  unfolding word_to
  halved n = let h : f n < 2 = bits n in omega arith

  shifted : (n s : ℕ) → word_to f (n + s) / 2 ^ s ≡ word_to f n
  shifted n zero = div-one (word_to f (n + 0)) ∙ ap (word_to f) (add-zero n)
  shifted n (suc s) =
      sym (shr-shr (word_to f (n + suc s)) 1 s ∙ ap (λ (k : ℕ). word_to f (n + suc s) / 2 ^ k) (one-add s))
      ∙ ap (λ (w : ℕ). w / 2 ^ s) (ap (λ (k : ℕ). word_to f k / 2) (add-suc n s) ∙ halved (n + s))
      ∙ shifted n s

  none_before : (s n : ℕ) → n ≤ s → word_to (later s f) n ≡ 0
  unfolding word_to
  none_before s zero h = refl
  none_before s (suc n) h =
      ap₂ (λ (w b : ℕ). w * 2 + b) (none_before s n (omega arith)) (ap (λ (t : Bool). cond t (f (n - s)) 0) (lt-leb s n (omega arith)))

  delayed : (s n : ℕ) → word_to (later s f) (s + n) ≡ word_to f n
  unfolding word_to
  delayed s zero = ap (word_to (later s f)) (add-zero s) ∙ none_before s s (omega arith)
  delayed s (suc n) =
      ap (word_to (later s f)) (add-suc s n)
      ∙ ap₂ (λ (w b : ℕ). w * 2 + b) (delayed s n)
      (ap (λ (t : Bool). cond t (f (s + n - s)) 0) (le-leb s (s + n) (omega arith)) ∙ ap f (add-sub_cancel_left s n))

  pub shifted-word : (s : ℕ) → s ≤ 16 → word_of f / 2 ^ s ≡ word_of (later s f)
  unfolding word_of
  shifted-word s h =
      let whole : 16 - s + s ≡ 16 = omega arith in
      let split : s + (16 - s) ≡ 16 = omega arith in
      ap (λ (n : ℕ). word_to f n / 2 ^ s) (sym whole) ∙ shifted (16 - s) s ∙ sym (delayed s (16 - s)) ∙ ap (word_to (later s f)) split
