-- Laws of words spelt by bytes and of bytes spelt by words, the high byte first.
use Prim.Native.Nat.{ℕ, zero, suc, ◌+◌, ◌*◌, ◌/◌, ◌%◌, ◌<◌, ◌≤◌}
use mathlib.Core.Path.{◌≡◌, refl, ap, ◌∙◌}
use mathlib.Core.List.{List, [], ◌∷◌}
use native.Mathlib.Omega.{arith}
use lib.ListN.{length, take, drop, get_or-eq_default}
use Rattle.words.specs.Word.{word, words_of, bytes_of}

even-suc : (n : ℕ) → 2 * suc n ≡ suc (suc (2 * n))
even-suc n = omega arith

pub words-length : (bytes : List ℕ) → length (words_of bytes) ≡ length bytes / 2
unfolding words_of
words-length [] = refl
words-length (high ∷ []) = refl
words-length (high ∷ low ∷ bytes) =
    let shorter = words-length bytes in
    omega arith

pub words-at : (bytes : List ℕ) (i : ℕ) → 2 * i + 1 < length bytes
    → word (words_of bytes) i ≡ word bytes (2 * i) * 256 + word bytes (2 * i + 1)
unfolding words_of
words-at [] i h = absurd (omega arith)
words-at (high ∷ []) i h = absurd (omega arith)
words-at (high ∷ low ∷ bytes) zero h = refl
words-at (high ∷ low ∷ bytes) (suc i) h =
    let even : 2 * suc i ≡ suc (suc (2 * i)) = omega arith in
    let odd : suc (suc (2 * i)) + 1 ≡ suc (suc (2 * i + 1)) = omega arith in
    rw (even, odd) (words-at bytes i (omega arith))

-- past the last word both sides are 0
pub words-past : (bytes : List ℕ) (i : ℕ) → length bytes / 2 ≤ i → word (words_of bytes) i ≡ 0
words-past bytes i h = get_or-eq_default (words_of bytes) 0 (rw (words-length bytes) h)

-- a part of the bytes that begins and ends with a word spells that part of the words
pub words_take : (bytes : List ℕ) (n : ℕ) → words_of (take (2 * n) bytes) ≡ take n (words_of bytes)
unfolding words_of
words_take bytes zero = refl
words_take [] (suc n) = rw (even-suc n)
words_take (high ∷ []) (suc n) = rw (even-suc n)
words_take (high ∷ low ∷ bytes) (suc n) = rw (even-suc n) (ap (λ ws. (high * 256 + low) ∷ ws) (words_take bytes n))

pub words-drop : (bytes : List ℕ) (n : ℕ) → words_of (drop (2 * n) bytes) ≡ drop n (words_of bytes)
unfolding words_of
words-drop bytes zero = refl
words-drop [] (suc n) = rw (even-suc n)
words-drop (high ∷ []) (suc n) = rw (even-suc n)
words-drop (high ∷ low ∷ bytes) (suc n) = rw (even-suc n) (words-drop bytes n)

pub words-part : (bytes : List ℕ) (from count : ℕ)
    → words_of (take (2 * count) (drop (2 * from) bytes)) ≡ take count (drop from (words_of bytes))
words-part bytes from count = words_take (drop (2 * from) bytes) count ∙ ap (take count) (words-drop bytes from)

pub bytes-length : (ws : List ℕ) → length (bytes_of ws) ≡ 2 * length ws
unfolding bytes_of
bytes-length [] = refl
bytes-length (w ∷ ws) =
    let shorter = bytes-length ws in
    omega arith

-- the two bytes of word i; past the end both sides are 0
pub bytes_high : (ws : List ℕ) (i : ℕ) → word (bytes_of ws) (2 * i) ≡ word ws i / 256
unfolding bytes_of
bytes_high [] i = refl
bytes_high (w ∷ ws) zero = refl
bytes_high (w ∷ ws) (suc i) =
    let even : 2 * suc i ≡ suc (suc (2 * i)) = omega arith in
    rw even (bytes_high ws i)

pub bytes_low : (ws : List ℕ) (i : ℕ) → word (bytes_of ws) (2 * i + 1) ≡ word ws i % 256
unfolding bytes_of
bytes_low [] i = refl
bytes_low (w ∷ ws) zero = refl
bytes_low (w ∷ ws) (suc i) =
    let even : 2 * suc i ≡ suc (suc (2 * i)) = omega arith in
    let odd : suc (suc (2 * i)) + 1 ≡ suc (suc (2 * i + 1)) = omega arith in
    rw (even, odd) (bytes_low ws i)
