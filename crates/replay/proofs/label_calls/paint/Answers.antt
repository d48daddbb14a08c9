-- `replay::label_calls::paint` paints by the line's numbers.
use mathlib.Core.Path.{ap, ◌∙◌}
use Rattle.std.specs.Prelude.{codes, length}
use Rattle.arrayvec.proofs.ArrayVecLemmas.{items-with_items}
use Rattle.replay.proofs.Putting.{puts-same}
use Rattle.replay.specs.Calls.{reply_bytes}
use Rattle.replay.specs.Answers.{with_panel, paint_answer, registers_painted}
use Rattle.replay.proofs.label_calls.paint.Goals as goal

pub returns-clause-puts : goal.returns-clause-puts
unfolding paint_answer
returns-clause-puts g c =
    let text = c.as_slice-2.ensures.value ∙ c.text-text.ensures in
    let reply = rw (c.shape.ensures, c.as_mut_slice-panel.ensures.value, c.as_slice.ensures.value, c.label.ensures, text)
    at c.paint-reply.ensures.value in
    puts-same _ c.put_reply.ensures (ap (reply_bytes (codes "paint")) reply)

pub returns-clause-registers : goal.returns-clause-registers
unfolding registers_painted
returns-clause-registers g c =
    let text = c.as_slice-2.ensures.value ∙ c.text-text.ensures in
    let panel = rw (c.shape.ensures, c.as_mut_slice-panel.ensures.value, c.as_slice.ensures.value, c.label.ensures, text)
    at c.paint-reply.ensures.panel in
    let long = c.paint-reply.auto.panel ∙ ap length c.as_mut_slice-panel.ensures.value in
    let left = items-with_items c.args.registers.now.panel c.paint-reply.new.panel long in
    ap (λ words. with_panel words c.args.registers.now) (left ∙ panel)
