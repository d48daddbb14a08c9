-- The answers' text: bytes gathered in an array, of which the first wait to be written out.
use Rattle.std.specs.Prelude.{ℕ, zero, suc, ◌+◌, ◌/◌, ◌%◌, ◌^◌, ◌≡◌, cond, List, [], ◌∷◌, ◌++◌, ltb, eqb, ℤ, set}
use Rattle.std.specs.Prelude.{decimal, replicate}
use Rattle.std.specs.Fmt.{signed_decimal}
use Rattle.std.specs.Borrow.{MutBor}
use denote.Triple.Both.{Both}
use Rattle.words.specs.Lent.{given, after}
use Rattle.replay.specs.declared.text.Digits.{Digits}
use Rattle.replay.specs.declared.text.Digits.TheVariants.{Two, Four}

-- an array, and how many of its bytes wait
abbrev pub Waiting : Type 0
Waiting = List ℕ × ℕ

abbrev pub waiting : List ℕ → ℕ → Waiting
waiting text at = (text, at)

-- nothing waits at the start, or behind what has been written out
abbrev pub nothing_waits : Waiting
nothing_waits = waiting (replicate 65536 0) 0

abbrev pub written : Waiting → Waiting
written before = waiting before.0 0

-- where the next byte goes: behind those that wait; where there is no room they have been written out, and it stands first
unfoldable pub place_for : ℕ → ℕ
place_for at = cond (ltb at 65536) at 0

unfoldable pub with_byte : Waiting → ℕ → Waiting
with_byte before b = let place = place_for before.1 in waiting (set before.0 place b) (place + 1)

-- bytes put one behind the other
unfoldable pub with_bytes : Waiting → List ℕ → Waiting
with_bytes before [] = before
with_bytes before (b ∷ bytes) = with_bytes (with_byte before b) bytes

-- how the contracts say it: these have been put behind those that waited as the call began
abbrev pub Puts : Both (MutBor Waiting) (MutBor Waiting) → List ℕ → Type 0
Puts output bytes = after output ≡ with_bytes (given output) bytes

-- ---- the bytes of a name

-- the character that two digits stand for: a small letter by its place in the alphabet, any other by its code in ASCII
unfoldable pub character_of : ℕ → ℕ
character_of pair = cond (ltb pair 27) (pair + 96) pair

-- no character for the zeros before the first
unfoldable pub pair_bytes : ℕ → List ℕ
pair_bytes pair = cond (eqb pair 0) [] (character_of pair ∷ [])

-- the characters of the last k pairs of digits
unfoldable pub last_pairs : ℕ → ℕ → List ℕ
last_pairs zero name = []
last_pairs (suc k) name = pair_bytes (name / 100 ^ k % 100) ++ last_pairs k name

unfoldable pub name_bytes : ℕ → List ℕ
name_bytes name = last_pairs 9 name

-- ---- the bytes of a number: "Fields are parted by one space", which is 32

abbrev pub field_bytes : List ℕ → List ℕ
field_bytes text = 32 ∷ text

unfoldable pub number_bytes : ℕ → List ℕ
number_bytes n = field_bytes (decimal n)

-- "with `-` in front where it is negative"
unfoldable pub signed_bytes : ℤ → List ℕ
signed_bytes z = field_bytes (signed_decimal z)

-- ---- the bytes of values

-- a hexadecimal digit, "in capitals"
unfoldable pub digit_of : ℕ → ℕ
digit_of d = cond (ltb d 10) (48 + d) (55 + d)

-- the last two of a word
unfoldable pub low_bytes : ℕ → List ℕ
low_bytes word = digit_of (word / 16 % 16) ∷ digit_of (word % 16) ∷ []

-- "four hexadecimal digits", and of BYTES "the same with two digits"
unfoldable pub value_bytes : Digits → ℕ → List ℕ
value_bytes Two word = 32 ∷ low_bytes word
value_bytes Four word = 32 ∷ (low_bytes (word / 256) ++ low_bytes word)

-- "a run of two or more equal words is one field, `WORD*COUNT`", in which `*` is 42
unfoldable pub run_bytes : Digits → ℕ → ℕ → List ℕ
run_bytes digits word count = value_bytes digits word ++ cond (ltb count 2) [] (42 ∷ decimal count)

-- a run that has come to `count` words, with the list behind it: "as long as it can be"
unfoldable pub runs_from : Digits → ℕ → ℕ → List ℕ → List ℕ
runs_from digits word count [] = run_bytes digits word count
runs_from digits word count (w ∷ ws) =
    cond (eqb w word) (runs_from digits word (count + 1) ws) (run_bytes digits word count ++ runs_from digits w 1 ws)

unfoldable pub list_bytes : Digits → List ℕ → List ℕ
list_bytes digits [] = []
list_bytes digits (w ∷ ws) = runs_from digits w 1 ws
