-- `replay::text::Output::put_run` puts the value, and the count of more than one.
use mathlib.Core.List.{append-nil}
use native.Mathlib.Omega.{arith}
use borrow.Author.Tests.{lt-ltb, le-ltb}
use Rattle.replay.proofs.Putting.{then, byte-then}
use Rattle.replay.specs.Text.{value_bytes, run_bytes}
use Rattle.replay.proofs.text.Output.put_run.Goals as goal

pub returns-then-count-gt1 : goal.returns-then-count-gt1
unfolding run_bytes
returns-then-count-gt1 g c =
    rw (le-ltb c.args.count 2 (omega arith))
    (then _ _ _ c.put_value.ensures (byte-then _ _ _ c.put.ensures c.put_digits.ensures))

pub returns-else-count-gt1 : goal.returns-else-count-gt1
unfolding run_bytes
returns-else-count-gt1 g c = rw (lt-ltb c.args.count 2 (omega arith), append-nil (value_bytes c.args.digits c.args.word))
    c.put_value.ensures
