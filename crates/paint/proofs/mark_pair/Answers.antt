use mathlib.Core.Path.{◌≡◌}
use mathlib.Core.Bool.{true}
use native.Mathlib.Omega.{arith}
use Rattle.paint.proofs.Drawing.{nothing-yet, nothing-drawn, row_more}
use Rattle.paint.proofs.mark_pair.Goals as goal

pub loop-row-init : goal.loop-row-init
loop-row-init g c = (nothing-yet g.M.Marking.settles _ _ _ _, nothing-drawn _ _ _ _)

pub loop-row-preserved : goal.loop-row-preserved
loop-row-preserved g c = (
  row_more g.M.Marking.settles _ _ _ _ _ _ _ c.loop-row.invariant.0 c.mark_two.ensures.keep,
  row_more true _ _ _ _ _ _ _ c.loop-row.invariant.1 c.mark_two.ensures.flip,
)

pub returns : goal.returns
returns g c =
    let there : c.loop-row.row ≡ c.args.r.rows = omega arith in
    record {
      keep = rw there at c.loop-row.invariant.0;
      flip = rw there at c.loop-row.invariant.1;
    }
