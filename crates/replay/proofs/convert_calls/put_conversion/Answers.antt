-- `replay::convert_calls::put_conversion` puts number behind number.
use Rattle.replay.proofs.Putting.{then, one_byte}
use Rattle.replay.specs.Text.{number_bytes}
use Rattle.replay.specs.Answers.{conversion_bytes}
use Rattle.replay.proofs.convert_calls.put_conversion.Goals as goal

pub returns : goal.returns
unfolding conversion_bytes number_bytes
returns g c =
    then _ _ _ c.put_all.ensures (then _ _ _ c.put_number.ensures (then _ _ _ c.put_number-2.ensures (one_byte _ _ c.put.ensures)))
