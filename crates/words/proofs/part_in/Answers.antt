-- `words::part_in` meets its contract: where the bytes end before, what is taken is cut in the definition too.
-- Assumes nothing.
use native.Mathlib.Omega.{arith}
use native.Mathlib.Nat.{add-sub_cancel_left}
use Prim.Native.Nat.{◌*◌}
use Rattle.words.proofs.Lists.{part_none, part-rest}
use Rattle.words.proofs.part_in.Goals as goal

pub returns-then-length-from : goal.returns-then-length-from
returns-then-length-from c = let a = c.args in part_none a.bytes.now (2 * a.from) (2 * a.count) (omega arith)

pub returns-then-rest-count : goal.returns-then-rest-count
returns-then-rest-count c =
    let a = c.args in
    part-rest a.bytes.now (2 * a.from) (2 * a.count) (omega arith)

pub returns : goal.returns
returns c = rw add-sub_cancel_left
