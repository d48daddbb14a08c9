-- `replay::text::Output::put_value` puts a space, and two digits or four.
use Rattle.replay.proofs.Putting.{then, byte-then}
use Rattle.replay.specs.Text.{value_bytes}
use Rattle.replay.proofs.text.Output.put_value.Goals as goal

pub returns-in-Two : goal.returns-in-Two
unfolding value_bytes
returns-in-Two g c = rw c.in-Two.is (byte-then _ _ _ c.put.ensures c.put_low.ensures)

pub returns-in-Four : goal.returns-in-Four
unfolding value_bytes
returns-in-Four g c =
    rw c.in-Four.is (byte-then _ _ _ c.put.ensures (then _ _ _ c.put_low-in-Four.ensures c.put_low-in-Four-2.ensures))
