-- `paint::Pen::after` meets its contract, by the one test that it makes.
-- Assumes nothing.
use native.Mathlib.Omega.{arith}
use Rattle.paint.specs.Pen.{pen_after}
use Rattle.paint.proofs.Pen.after.Goals as goal

pub returns-then-step : goal.returns-then-step
unfolding pen_after
returns-then-step c = record { value = rw c.if-step.true; near = (omega arith, omega arith) }

pub returns : goal.returns
unfolding pen_after
returns c = record { value = rw c.if-step.false; near = (omega arith, omega arith) }
