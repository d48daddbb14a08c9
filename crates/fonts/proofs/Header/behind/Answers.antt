-- `fonts::Header::behind` meets its contract, by the test that it makes.
-- Assumes nothing.
use Prim.Native.Nat.{ℕ, ◌+◌}
use mathlib.Core.Path.{ap}
use native.Mathlib.Omega.{arith}
use Rattle.fonts.specs.Strike.{behind}
use Rattle.words.proofs.Chain.{chain}
use Rattle.fonts.proofs.Header.behind.Goals as goal

pub returns-then-kerned : goal.returns-then-kerned
unfolding behind
returns-then-kerned c =
    let sum = ap (λ (n : ℕ). n + 1) c.codes.ensures in
    record { value = search chain; small = omega arith }

pub returns : goal.returns
unfolding behind
returns c = record { value = search chain; small = omega arith }
