-- `replay::count_calls::keep` makes the words of the counts the register's.
use mathlib.Core.Path.{◌∙◌}
use Rattle.replay.proofs.Counting.{counts-stay}
use Rattle.replay.proofs.count_calls.keep.Goals as goal

pub returns : goal.returns
returns c = rw c.words_of.ensures at c.set.ensures ∙ counts-stay c.args.counts c.args.registers.now
