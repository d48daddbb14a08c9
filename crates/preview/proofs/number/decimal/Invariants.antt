-- `preview::number::decimal` reads digit by digit. The invariant: what the whole text spells is what the rest of it makes of the number
-- so far.
use mathlib.Core.Path.{◌≡◌}
use lib.ListN.{drop}
use Rattle.preview.specs.Number.{digits_after}
use Rattle.preview.proofs.number.decimal.Given as goal

abbrev pub invariant-loop-b : goal.invariant-loop-b
invariant-loop-b l = digits_after 0 l.text ≡ digits_after l.n (drop l.b-index l.text)
