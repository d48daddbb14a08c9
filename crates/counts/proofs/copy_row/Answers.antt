use mathlib.Core.Path.{refl}
use Rattle.counts.proofs.Copying.{nothing_copied, one-more-copied}
use Rattle.counts.proofs.copy_row.Goals as goal

pub loop-i-init : goal.loop-i-init
loop-i-init c = nothing_copied c.args.panel.now c.args.from.at c.args.to.at c.args.space.now

pub loop-i-preserved : goal.loop-i-preserved
loop-i-preserved c =
    one-more-copied c.args.panel.now c.args.from.at c.args.to.at c.loop-i.i _ c.loop-i.space c.args.space.now c.loop-i.invariant refl
