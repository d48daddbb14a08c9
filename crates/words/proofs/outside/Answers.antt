-- `words::outside` meets its contract: it asks at both ends, and the definition by the sign.
-- Assumes nothing.
use mathlib.Core.Path.{ap, ◌∙◌}
use lib.IntN.{pos}
use lib.Signed.{lt_z}
use mir.Facts.{to_z-of_z}
use Rattle.words.proofs.Signs.{below, not-below}
use Rattle.words.proofs.outside.Goals as goal

pub returns-then-x-ltminus1024 : goal.returns-then-x-ltminus1024
returns-then-x-ltminus1024 c = (below c.args.x (rw (to_z-of_z c.ranges.x) at c.if-x-ltminus1024.true)).0

pub returns : goal.returns
returns c =
    let e = to_z-of_z c.ranges.x in
    ap (lt_z (pos 1023)) e ∙ not-below c.args.x (rw e at c.if-x-ltminus1024.false)
