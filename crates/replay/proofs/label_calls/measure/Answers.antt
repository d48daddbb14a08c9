-- `replay::label_calls::measure` measures from the line's first number on.
use mathlib.Core.Path.{ap, ap₂, ◌∙◌}
use mir.Syntax.{w32}
use mir.Facts.{to_z-of_z}
use Rattle.std.specs.Prelude.{codes}
use Rattle.paint.specs.Label.{measure_of}
use Rattle.replay.proofs.Putting.{puts-same}
use Rattle.replay.specs.Calls.{reply_bytes}
use Rattle.replay.specs.Answers.{measure_answer}
use Rattle.replay.proofs.label_calls.measure.Goals as goal

pub returns : goal.returns
unfolding measure_answer
returns g c =
    let x = to_z-of_z {w = w32} {z = c.signed.result} (record { sfits = c.signed.type_inv }) ∙ c.signed.ensures in
    let text = c.as_slice.ensures.value ∙ c.text-text.ensures in
    let reply = c.measure-reply.ensures.value ∙ ap₂ (measure_of c.args.font.now) x text in
    puts-same _ c.put_reply.ensures (ap (reply_bytes (codes "measure")) reply)
