-- `replay::sheet_calls::put_outcome` puts the number behind the word.
use mathlib.Core.Path.{ap}
use Rattle.replay.proofs.Putting.{then, puts-same, one_byte}
use Rattle.replay.specs.Text.{number_bytes}
use Rattle.replay.specs.Answers.{refusal_bytes}
use Rattle.replay.proofs.sheet_calls.put_outcome.Goals as goal

pub returns : goal.returns
unfolding refusal_bytes number_bytes
returns g c =
    then _ _ _ c.put_all.ensures
    (then _ _ _ (puts-same _ c.put_number.ensures (ap number_bytes c.number.ensures)) (one_byte _ _ c.put.ensures))
