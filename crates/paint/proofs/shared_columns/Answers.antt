-- `paint::shared_columns` meets its contract: the later of two beginnings, and the sooner of two ends.
-- Assumes nothing.
use Rattle.paint.specs.Reach.{shared}
use Rattle.paint.proofs.shared_columns.Goals as goal

pub returns : goal.returns
unfolding shared
returns c = cc
