-- The limits of making words of bytes hold of the definition: antt computes both sides of the table.
use mathlib.Core.Path.{◌≡◌, refl}
use mathlib.Core.List.{map}
use Rattle.words.specs.Word.{odd_bytes}
use Rattle.words.specs.Refusal.{first_of}
use Rattle.desk.specs.Desk.{words_number}
use Rattle.desk.specs.Limits.{words_limits}

pub words-limits-hold : map (λ r. r.0) words_limits ≡ map (λ r. r.1) words_limits
unfolding words_limits words_number first_of odd_bytes
words-limits-hold = refl
