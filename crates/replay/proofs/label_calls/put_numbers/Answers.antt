-- `replay::label_calls::put_numbers` puts number behind number.
use mir.Facts.{to_z-of_z}
use Rattle.replay.proofs.Putting.{then, one_byte}
use Rattle.replay.specs.Text.{number_bytes, signed_bytes}
use Rattle.replay.specs.Calls.{numbers_bytes}
use Rattle.replay.proofs.label_calls.put_numbers.Goals as goal

pub returns : goal.returns
unfolding numbers_bytes number_bytes signed_bytes
returns g c =
    then _ _ _ c.put_all.ensures (then _ _ _ c.put_number.ensures
    (then _ _ _ (rw (to_z-of_z c.ranges.pen) at c.put_number-2.ensures) (then _ _ _ c.put_number-3.ensures (one_byte _ _ c.put.ensures))))
