-- `replay::count_calls::counts_of` reads count after count.
use mathlib.Core.Path.{◌≡◌}
use Rattle.words.specs.Word.{over}
use Rattle.replay.specs.Calls.{count_at}
use Rattle.replay.proofs.count_calls.counts_of.Given as goal

abbrev pub invariant-loop-k : goal.invariant-loop-k
invariant-loop-k l = l.counts ≡ over l.k (count_at l.words) l.initial.counts
