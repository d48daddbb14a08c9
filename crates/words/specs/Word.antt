-- Bits, words and bytes: the paper's "What the panel software holds".
use Rattle.std.specs.Prelude.{ℕ, zero, suc, ◌+◌, ◌-◌, ◌*◌, ◌/◌, ◌%◌, ◌^◌, Bool, cond, List, [], ◌∷◌, eqb, length, get_or, set}

-- "A font file is a list of 16-bit words." Word i of it; 0 past its end, so that every question has an answer
abbrev pub word : List ℕ → ℕ → ℕ
word ws i = get_or ws i 0

-- "Bit 0 of a row is the most significant bit of its first word": bit j of a word, for j from 0 to 15
unfoldable pub bit_of : ℕ → ℕ → ℕ
bit_of w j = w / 2 ^ (15 - j) % 2

-- the number whose first n bits, the most significant first, are f 0, f 1, ..
unfoldable pub word_to : (ℕ → ℕ) → ℕ → ℕ
word_to f zero = 0
word_to f (suc n) = word_to f n * 2 + f n

-- the word whose bit j is f j
unfoldable pub word_of : (ℕ → ℕ) → ℕ
word_of f = word_to f 16

-- the word with bit j set to the last bit of b
unfoldable pub put_bit : ℕ → ℕ → ℕ → ℕ
put_bit w j b = word_of (λ i. cond (eqb i j) (b % 2) (bit_of w i))

-- "In bytes the high byte comes first." A last byte without a partner spells no word
unfoldable pub words_of : List ℕ → List ℕ
words_of [] = []
words_of (high ∷ []) = []
words_of (high ∷ low ∷ bytes) = (high * 256 + low) ∷ words_of bytes

unfoldable pub bytes_of : List ℕ → List ℕ
bytes_of [] = []
bytes_of (w ∷ ws) = (w / 256) ∷ (w % 256) ∷ bytes_of ws

-- refusal 14: "an odd number of bytes where words are read from bytes"
unfoldable pub odd_bytes : List ℕ → Bool
odd_bytes bytes = eqb (length bytes % 2) 1

-- the list f 0, f 1, .. of n words
unfoldable pub table : ℕ → (ℕ → ℕ) → List ℕ
table zero f = []
table (suc n) f = f 0 ∷ table n (λ i. f (suc i))

-- a lent slice whose first n words have become f 0, f 1, .., and whose rest stays
unfoldable pub over : ℕ → (ℕ → ℕ) → List ℕ → List ℕ
over zero f lent = lent
over (suc n) f lent = set (over n f lent) n (f n)
