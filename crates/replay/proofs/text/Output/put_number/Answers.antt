-- `replay::text::Output::put_number` puts a space and the digits.
use Rattle.replay.proofs.Putting.{byte-then}
use Rattle.replay.proofs.text.Output.put_number.Goals as goal

pub returns : goal.returns
returns g c = byte-then _ _ _ c.put.ensures c.put_digits.ensures
