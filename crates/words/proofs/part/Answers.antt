-- `words::part` meets its contract: where the list ends before, what is taken is cut in the definition too.
-- Assumes nothing.
use native.Mathlib.Nat.{add-sub_cancel_left}
use Rattle.words.proofs.Lists.{part_none, part-rest}
use Rattle.words.proofs.part.Goals as goal

pub returns-then-length-from : goal.returns-then-length-from
returns-then-length-from c = let a = c.args in part_none a.list.now a.from a.count c.if-length-from.true

pub returns-then-length-from-2 : goal.returns-then-length-from-2
returns-then-length-from-2 c = let a = c.args in part-rest a.list.now a.from a.count c.if-length-from-2.true

pub returns : goal.returns
returns c = rw add-sub_cancel_left
