-- `fonts::number` meets its contract: the number of what reading answers.
-- Assumes nothing.
use mathlib.Core.Path.{sym, ap, ◌∙◌}
use Rattle.words.specs.Refusal.{returned}
use Rattle.fonts.proofs.number.Goals as goal

pub returns-in-Err : goal.returns-in-Err
returns-in-Err g c = c.number.ensures ∙ sym (ap returned c.in-Err.is) ∙ c.read.ensures.number

pub returns-in-Ok : goal.returns-in-Ok
returns-in-Ok g c = sym (ap returned c.in-Ok.is) ∙ c.read.ensures.number
