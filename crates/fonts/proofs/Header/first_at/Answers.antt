-- `fonts::Header::first_at` meets its contract, by the tests that it makes.
-- Assumes nothing.
use Prim.Native.Nat.{ℕ, ◌+◌}
use mathlib.Core.Path.{ap₂}
use native.Mathlib.Omega.{arith}
use Rattle.fonts.specs.Strike.{first_at}
use Rattle.words.proofs.Chain.{chain}
use Rattle.fonts.proofs.Header.first_at.Goals as goal

pub returns-then-index : goal.returns-then-index
unfolding first_at
returns-then-index c =
    let sum = ap₂ (λ (m n : ℕ). m + n + 1) c.map_at.ensures.value c.codes.ensures in
    record { value = search chain; small = omega arith }

pub returns-then-kerned : goal.returns-then-kerned
unfolding first_at
returns-then-kerned c = record { value = search chain; small = omega arith }

pub returns : goal.returns
unfolding first_at
returns c = record { value = search chain; small = omega arith }
