-- Places with a sign. A place is counted from 2048 dots below zero, so that every place a call can name is a plain number:
-- x and y are at least -1024, FBBox is at least -255, and a pen never goes left.
use Rattle.std.specs.Prelude.{ℕ, ◌+◌, ◌-◌, ◌%◌, Bool, cond, ltb, ℤ, pos, negsuc}
use Rattle.std.proofs.Math.IntN.{sub_ℕ}

-- refusal 10: "x or y not -1024..1023"
unfoldable pub outside : ℤ → Bool
outside (pos n) = ltb 1023 n
outside (negsuc n) = ltb 1023 n

-- the place of x or y; 0, where none of them lies, for one that is refused
unfoldable pub place_of : ℤ → ℕ
place_of (pos n) = cond (ltb 1023 n) 0 (2048 + n)
place_of (negsuc n) = cond (ltb 1023 n) 0 (2047 - n)

-- the number that a place stands for: place - 2048
abbrev pub number_at : ℕ → ℤ
number_at place = sub_ℕ place 2048

-- the number that a word stands for in two's complement
unfoldable pub signed_word : ℕ → ℤ
signed_word w = cond (ltb w 32768) (pos w) (sub_ℕ w 65536)

-- the place of a word in two's complement, for a word from -2048 to 2047
abbrev pub place_of_word : ℕ → ℕ
place_of_word w = (w + 2048) % 65536

-- the dot of a picture in a row and column that have a sign; none lies before its first row or column
unfoldable pub dot_at : (ℕ → ℕ → ℕ) → ℤ → ℤ → ℕ
dot_at dot (pos i) (pos j) = dot i j
dot_at dot (pos i) (negsuc j) = 0
dot_at dot (negsuc i) j = 0
