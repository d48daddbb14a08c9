-- `convert::columns_before` meets its contract: each turn adds the columns of one more code. No sum of 257 of them comes near 2⁶⁴.
-- Assumes nothing.
use Prim.Native.Nat.{ℕ, ◌+◌, ◌*◌, ◌≤◌}
use mathlib.Core.Path.{◌≡◌}
use Rattle.words.specs.Word.{word}
use Rattle.words.specs.Search.{sum_below}
use Rattle.convert.specs.Cu.{columns_at}
use Rattle.convert.proofs.columns_before.Given as goal

abbrev pub invariant-loop-i : goal.invariant-loop-i
invariant-loop-i l =
    (l.sum ≤ l.i * 1048561) × (l.sum ≡ sum_below l.i (λ (i : ℕ). columns_at l.cu (word l.places.table (l.min + i))))
