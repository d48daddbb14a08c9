-- `replay::sheet_calls::gather` gathers onto the sheet that the line names.
use mathlib.Core.Path.{ap, ◌∙◌}
use Rattle.std.specs.Prelude.{codes}
use Rattle.replay.proofs.Putting.{puts-same}
use Rattle.replay.specs.Calls.{reply_bytes}
use Rattle.replay.specs.Answers.{gather_answer, registers_gathered}
use Rattle.replay.proofs.sheet_calls.gather.Goals as goal

pub returns-clause-puts : goal.returns-clause-puts
unfolding gather_answer
returns-clause-puts g c =
    let text = c.as_slice.ensures.value ∙ c.text-text.ensures in
    let reply = rw (c.shape.ensures, c.label.ensures, text, c.number.ensures) at c.gather_sheet-reply.ensures.value in
    puts-same _ c.put_reply.ensures (ap (reply_bytes (codes "gather")) reply)

pub returns-clause-registers : goal.returns-clause-registers
unfolding registers_gathered
returns-clause-registers g c =
    let text = c.as_slice.ensures.value ∙ c.text-text.ensures in
    rw (c.shape.ensures, c.label.ensures, text, c.number.ensures) at c.gather_sheet-reply.ensures.registers
