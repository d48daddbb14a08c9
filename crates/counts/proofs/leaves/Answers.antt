-- `counts::leaves` meets its contract: where the count does not go below 0, it is over the most exactly when the sum is over the most and
-- the fewer together.
-- Assumes nothing.
use mathlib.Core.Path.{sym}
use Rattle.counts.proofs.Moves.{leaves-below, leaves-above}
use Rattle.counts.proofs.leaves.Goals as goal

pub returns-then-raised-fewer : goal.returns-then-raised-fewer
returns-then-raised-fewer c = sym (leaves-below c.args.most c.args.held c.args.more c.args.fewer c.if-raised-fewer.true)

pub returns : goal.returns
returns c = sym (leaves-above c.args.most c.args.held c.args.more c.args.fewer c.if-raised-fewer.false)
