use native.Mathlib.Omega.{arith}
use Rattle.counts.proofs.Counting.{none-counted, row-counted, few-dots}
use Rattle.counts.proofs.Band.lit_in_one.Goals as goal

pub loop-row-init : goal.loop-row-init
loop-row-init g c = (none-counted c.args.self c.args.w _, omega arith)

pub loop-row-preserved : goal.loop-row-preserved
loop-row-preserved g c =
    let a = c.args in
    let inv = c.loop-row.invariant in
    let few = few-dots a.self a.w c.word_at.result c.mask-mask.result (omega arith) (omega arith) c.mask-mask.ensures in
    (row-counted a.self a.w _ c.loop-row.row c.loop-row.sum _ _ inv.0 c.word_at.ensures c.mask-mask.ensures, omega (arith, few, inv.1))
