-- None of the numbers that the loop has looked at passes: the last is below them.
use mathlib.Core.Path.{◌≡◌}
use mathlib.Core.Bool.{Bool}
use Prim.Native.Nat.{ℕ}
use Rattle.words.specs.Search.{last_below}
use Rattle.convert.specs.Tests.{TestsAs}
use Rattle.convert.proofs.search.last_below.Given as goal

abbrev pub invariant-loop-i : goal.invariant-loop-i
invariant-loop-i g l = (t : ℕ → Bool) → TestsAs (goal.F-post g l.test) l.n t → last_below l.n t ≡ last_below l.i t
