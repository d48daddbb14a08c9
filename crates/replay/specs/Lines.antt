-- A line of a list, by docs/REPLAY.md: "A command is a word and its fields".
use Rattle.std.specs.Prelude.{ℕ, ◌≡◌, cond, List, [], ◌∷◌, ltb, ℤ, pos, negsuc, get_or, take, replicate, length, ◌-◌}
use Rattle.std.specs.Int.{int_max, int_min}
use Rattle.replay.specs.declared.list.Values.{Values}
use Rattle.replay.specs.declared.list.Line.{Line}
use Rattle.replay.specs.declared.names.Command.TheVariants.{Other}

-- the values of a line: the first words, as many as there are
unfoldable pub values_of : Values → List ℕ
values_of values = take values.count values.words

-- how many more there is room for
abbrev pub room_left : Values → ℕ
room_left values = length values.words - length (values_of values)

-- Opened where it is made alone: what a search opens it may write out, and these are 530,000 zeros.
unfoldable pub no_values : Values
no_values = record { words = replicate 530000 0; count = 0 }

abbrev pub without_values : Values → Values
without_values values = record { words = values.words; count = 0 }

abbrev pub zeros : List ℤ
zeros = pos 0 ∷ pos 0 ∷ pos 0 ∷ pos 0 ∷ pos 0 ∷ pos 0 ∷ pos 0 ∷ pos 0 ∷ []

-- a line with no field
unfoldable pub empty_line : Line
empty_line = record { command = Other; fields = 0; name = 0; numbers = zeros; values = no_values }

-- one whose fields are gone: no word of its values is left
unfoldable pub cleared : Line → Line
cleared line = record { command = Other; fields = 0; name = 0; numbers = zeros; values = without_values line.values }

-- no field is there
abbrev pub IsEmpty : Line → Type 0
IsEmpty line = cleared line ≡ line

-- "every other number from 0 to 4294967295"; 0 for one that is not
unfoldable pub unsigned_in : ℤ → ℕ
unsigned_in (pos n) = cond (ltb n 4294967296) n 0
unsigned_in (negsuc n) = 0

-- "from -2147483648 to 2147483647"; the nearest of these for one that is not
unfoldable pub signed_in : ℤ → ℤ
signed_in n = int_max (negsuc 2147483647) (int_min n (pos 2147483647))

-- number k behind the command, from 0, of the eight that a line has; zero past them
unfoldable pub counted_of : Line → ℕ → ℤ
counted_of line k = get_or line.numbers k (pos 0)

unfoldable pub number_of : Line → ℕ → ℕ
number_of line k = unsigned_in (counted_of line k)

unfoldable pub signed_of : Line → ℕ → ℤ
signed_of line k = signed_in (counted_of line k)
