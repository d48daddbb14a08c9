-- Every worked case holds of the definitions: antt computes both sides of the table.
use mathlib.Core.Path.{◌≡◌, refl}
use mathlib.Core.List.{List, map}
use Rattle.claims.specs.Cases.{Deed, Outcome, done, cases, more_cases}
use Rattle.claims.proofs.Compute.{computing}

-- every case of a table comes out as it says
abbrev AllHold : List (Deed × Outcome) → Type 0
AllHold table = map (λ c. done c.0) table ≡ map (λ c. c.1) table

pub cases-hold : AllHold cases
unfolding computing cases
cases-hold = refl

pub more-cases-hold : AllHold more_cases
unfolding computing more_cases
more-cases-hold = refl
