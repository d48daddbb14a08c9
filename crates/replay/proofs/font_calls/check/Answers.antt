-- `replay::font_calls::check` answers a line.
use Rattle.replay.proofs.Putting.{then, one_byte}
use Rattle.replay.specs.Answers.{check_answer}
use Rattle.replay.proofs.font_calls.check.Goals as goal

pub returns : goal.returns
unfolding check_answer
returns g c = then _ _ _ c.put_head.ensures (one_byte _ _ c.put.ensures)
