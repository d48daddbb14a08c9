-- `replay::font_calls::put_head` puts the word and the number.
use mathlib.Core.Path.{ap}
use Rattle.replay.proofs.Putting.{then, puts-same}
use Rattle.replay.specs.Text.{number_bytes}
use Rattle.replay.specs.Answers.{head_bytes}
use Rattle.replay.proofs.font_calls.put_head.Goals as goal

pub returns : goal.returns
unfolding head_bytes number_bytes
returns g c =
    then _ _ _ c.put_all.ensures (puts-same _ c.put_number.ensures (ap number_bytes c.number.ensures))
