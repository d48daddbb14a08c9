-- `paint::misses` meets its contract: a picture that shares no column with its strip reaches no row.
-- Assumes nothing.
use mathlib.Core.Path.{sym, ap}
use borrow.Author.Tests.{leb-true}
use Rattle.paint.specs.declared.Reach.{Reach}
use Rattle.paint.proofs.Reaches.{reaches-none}
use Rattle.paint.proofs.misses.Goals as goal

pub returns : goal.returns
returns c =
    λ yes. ap (λ (r : Reach). r.rows)
    (sym (reaches-none c.args.g c.args.k c.args.pen _ c.shared_columns-columns.ensures (leb-true _ _ yes)))
