-- `paint::Pen::finish` meets its contract: the two numbers fit.
-- Assumes nothing.
use Rattle.words.proofs.Signs.{number_fits}
use mir.Facts.{to_z-of_z}
use native.Mathlib.Omega.{arith}
use Rattle.paint.proofs.Pen.finish.Goals as goal

pub returns : goal.returns
returns c = rw (c.number_at.ensures, to_z-of_z (number_fits c.args.self.place (omega arith)))
