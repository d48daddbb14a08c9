-- `convert::max_width` meets its contract: each turn takes one more spacing into account.
-- Assumes nothing.
use Prim.Native.Nat.{ℕ, ◌+◌}
use mathlib.Core.Path.{◌≡◌}
use mathlib.Core.Bool.{cond}
use lib.Dec.{ltb}
use Rattle.words.specs.Word.{word}
use Rattle.words.specs.Search.{most_below}
use Rattle.convert.proofs.max_width.Given as goal

abbrev pub invariant-loop-c : goal.invariant-loop-c
invariant-loop-c l =
    l.most ≡ most_below l.c (λ (c : ℕ). cond (ltb 0 (word l.places.table c)) (word l.cu (word l.places.table c + 1)) 0)
