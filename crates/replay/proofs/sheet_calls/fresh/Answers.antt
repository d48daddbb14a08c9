-- `replay::sheet_calls::fresh` makes the sheet that the line names fresh.
use mathlib.Core.Path.{ap}
use Rattle.std.specs.Prelude.{codes}
use Rattle.replay.proofs.Putting.{puts-same}
use Rattle.replay.specs.Answers.{refusal_bytes, fresh_answer, registers_freshened}
use Rattle.replay.proofs.sheet_calls.fresh.Goals as goal

pub returns-clause-puts : goal.returns-clause-puts
unfolding fresh_answer
returns-clause-puts g c =
    let number = rw (c.shape.ensures, c.number.ensures) at c.fresh_sheet-outcome.ensures.value in
    puts-same _ c.put_outcome.ensures (ap (refusal_bytes (codes "fresh")) number)

pub returns-clause-registers : goal.returns-clause-registers
unfolding registers_freshened
returns-clause-registers g c = rw (c.shape.ensures, c.number.ensures) at c.fresh_sheet-outcome.ensures.registers
