-- `replay::text::Output::put_low` puts one digit behind the other.
use Rattle.replay.proofs.Putting.{then}
use Rattle.replay.specs.Text.{low_bytes}
use Rattle.replay.proofs.text.Output.put_low.Goals as goal

pub returns : goal.returns
unfolding low_bytes
returns g c = then _ _ _ c.put_hexadecimal.ensures c.put_hexadecimal-2.ensures
