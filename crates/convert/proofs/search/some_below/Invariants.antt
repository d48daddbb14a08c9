-- None of the numbers that the loop has looked at passes.
use mathlib.Core.Path.{◌≡◌}
use mathlib.Core.Bool.{Bool, false}
use Prim.Native.Nat.{ℕ}
use Rattle.words.specs.Search.{some_below}
use Rattle.convert.specs.Tests.{TestsAs}
use Rattle.convert.proofs.search.some_below.Given as goal

abbrev pub invariant-loop-i : goal.invariant-loop-i
invariant-loop-i g l = (t : ℕ → Bool) → TestsAs (goal.F-post g l.test) l.n t → some_below l.i t ≡ false
