-- Reading a decimal number, by docs/PROGRAMS.md, "preview": "They may have zeros before them".
use Rattle.std.specs.Prelude.{ℕ, ◌+◌, ◌-◌, ◌*◌, cond, List, [], ◌∷◌, ltb, eqb, pos, ◌-ℤ◌, ℤ, Option, None, Some}
use Rattle.std.specs.Option.{option_and_then}

-- the largest u32
abbrev pub largest_unsigned : ℕ
largest_unsigned = 4294967295

-- the largest i32, and the least without its sign
abbrev pub largest : ℕ
largest = 2147483647

abbrev pub least : ℕ
least = 2147483648

-- a number with one more digit, 48 to 57, if that is a number of a u32
unfoldable pub with_digit : ℕ → ℕ → Option ℕ
with_digit n b =
    cond (ltb b 48) None
    (cond (ltb 57 b) None
    (cond (ltb largest_unsigned (n * 10 + (b - 48))) None (Some (n * 10 + (b - 48)))))

-- the number that more digits make of one
unfoldable pub digits_after : ℕ → List ℕ → Option ℕ
digits_after n [] = Some n
digits_after n (b ∷ bytes) = option_and_then (λ longer. digits_after longer bytes) (with_digit n b)

-- the number that bytes spell; no digits spell none
unfoldable pub number_of : List ℕ → Option ℕ
number_of [] = None
number_of (b ∷ bytes) = digits_after 0 (b ∷ bytes)

-- docs/DECISIONS.md: "Any value of a `u32` or an `i32` reaches `paint::paint`"
unfoldable pub positive_of : ℕ → Option ℤ
positive_of n = cond (ltb largest n) None (Some (pos n))

unfoldable pub negative_of : ℕ → Option ℤ
negative_of n = cond (ltb least n) None (Some (pos 0 -ℤ pos n))

-- "X and Y may have a `-`", which is 45, "and -0 is 0"
unfoldable pub signed_of : List ℕ → Option ℤ
signed_of [] = None
signed_of (b ∷ bytes) =
    cond (eqb b 45)
    (option_and_then negative_of (number_of bytes))
    (option_and_then positive_of (number_of (b ∷ bytes)))
