-- `replay::sheet_calls::apply` applies the sheet that the line names.
use mathlib.Core.Path.{ap, ◌∙◌}
use Rattle.std.specs.Prelude.{codes, length}
use Rattle.arrayvec.proofs.ArrayVecLemmas.{items-with_items}
use Rattle.replay.proofs.Putting.{puts-same}
use Rattle.replay.specs.Answers.{with_panel, refusal_bytes, apply_answer, registers_applied}
use Rattle.replay.proofs.sheet_calls.apply.Goals as goal

pub returns-clause-puts : goal.returns-clause-puts
unfolding apply_answer
returns-clause-puts g c =
    let sheet = rw (c.shape.ensures, c.as_slice.ensures.value, c.as_slice-2.ensures.value, c.chosen-sheet.ensures, c.number.ensures)
    at c.apply-outcome.ensures.value in
    let number = rw c.as_mut_slice-panel.ensures.value at sheet in
    puts-same _ c.put_outcome.ensures (ap (refusal_bytes (codes "apply")) number)

pub returns-clause-registers : goal.returns-clause-registers
unfolding registers_applied
returns-clause-registers g c =
    let r = c.args.registers.now in
    let sheet = rw (c.shape.ensures, c.as_slice.ensures.value, c.as_slice-2.ensures.value, c.chosen-sheet.ensures, c.number.ensures)
    at c.apply-outcome.ensures.panel in
    let panel = rw c.as_mut_slice-panel.ensures.value at sheet in
    let long = c.apply-outcome.auto.panel ∙ ap length c.as_mut_slice-panel.ensures.value in
    ap (λ words. with_panel words r) (items-with_items r.panel c.apply-outcome.new.panel long ∙ panel)
