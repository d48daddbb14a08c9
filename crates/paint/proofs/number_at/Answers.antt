-- `paint::number_at` meets its contract: the place is small, so neither the cast nor the difference wraps.
-- Assumes nothing.
use native.Mathlib.Omega.{arith}
use mir.Syntax.{w32}
use mir.Facts.{to_z-of_z, to_z_pos}
use Rattle.words.proofs.Signs.{number_fits}
use Rattle.paint.proofs.number_at.Goals as goal

pub overflow_sub-result : goal.overflow_sub-result
overflow_sub-result c = rw (to_z_pos w32 {n = c.args.place} (omega arith)) (number_fits c.args.place (omega arith))

pub returns : goal.returns
returns c = rw (to_z_pos w32 {n = c.args.place} (omega arith)) (to_z-of_z (number_fits c.args.place (omega arith)))
