-- The line that is being read, of which the first bytes are kept.
use Rattle.std.specs.Prelude.{ℕ, ◌+◌, min, List, [], ◌∷◌, ◌++◌, take}

-- its number, and what is kept of it
pub record Begun : Type 0 where
  pub number : ℕ
  pub kept : List ℕ

-- the bytes that are kept of a line: two more than a label's line may have, for a return, and for one that shows that there are more
abbrev pub most : ℕ
most = 1002

-- the largest number of a line
abbrev pub last_number : ℕ
last_number = 18446744073709551615

-- "Lines are counted from 1, with those that are passed over."
abbrev pub first_line : Begun
first_line = record { number = 1; kept = [] }

unfoldable pub next_line : Begun → Begun
next_line line = record { number = min (line.number + 1) last_number; kept = [] }

-- with a byte more, of which the first are kept
unfoldable pub longer_line : ℕ → Begun → Begun
longer_line b line = record { number = line.number; kept = take most (line.kept ++ (b ∷ [])) }
