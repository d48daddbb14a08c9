-- `counts::settle` meets its contract: the loop moves the counts one by one until one leaves what it may be, and one that does not is at
-- most W × H.
-- Assumes nothing.
use Prim.Native.Nat.{ℕ, ◌+◌, ◌-◌}
use mathlib.Core.Path.{◌≡◌}
use mathlib.Core.Bool.{false}
use Rattle.words.specs.Word.{word, over}
use Rattle.words.specs.Search.{some_below}
use Rattle.counts.specs.Lit.{leaves}
use Rattle.counts.proofs.settle.Given as goal

abbrev pub invariant-loop-k : goal.invariant-loop-k
invariant-loop-k l =
    (l.new ≡ over l.k (λ (k : ℕ). word l.counts k + word l.left k - word l.lit k) l.counts)
    × (some_below l.k (λ (k : ℕ). leaves l.most (word l.counts k) (word l.left k) (word l.lit k)) ≡ false)
