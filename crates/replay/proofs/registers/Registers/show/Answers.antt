-- `replay::registers::Registers::show` puts the name and the words.
use mathlib.Core.Path.{ap}
use Rattle.replay.proofs.Putting.{then, puts-same, one_byte}
use Rattle.replay.specs.Answers.{register_bytes, show_answer}
use Rattle.replay.proofs.registers.Registers.show.Goals as goal

pub returns : goal.returns
unfolding show_answer
returns g c =
    let words = ap (λ it. register_bytes it c.args.self.now) c.named.ensures in
    then _ _ _ c.put_name.ensures
    (then _ _ _ (puts-same _ c.put_words.ensures words) (one_byte _ _ c.put.ensures))
