-- `replay::list::Values::empty` is given its answer: a search would write the words out.
use Rattle.std.proofs.Common.{refl}
use Rattle.replay.specs.Lines.{no_values}
use Rattle.replay.proofs.list.Values.empty.Goals as goal

pub returns : goal.returns
unfolding no_values
returns c = refl
