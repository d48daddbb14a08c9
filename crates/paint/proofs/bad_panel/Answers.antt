-- `paint::bad_panel` meets its contract, by the tests that it makes.
-- Assumes nothing.
use mathlib.Core.Path.{ap}
use lib.Dec.{ltb}
use Rattle.paint.specs.Panel.{bad_panel, some_short}
use Rattle.words.proofs.Chain.{chain, as-chain}
use Rattle.paint.proofs.bad_panel.Goals as goal

pub returns-then-bad_shape : goal.returns-then-bad_shape
unfolding bad_panel some_short
returns-then-bad_shape c = as-chain (search chain depth 20)

pub returns : goal.returns
unfolding bad_panel some_short
returns c =
    let short = ap (ltb c.args.lent) c.panel_words.ensures in
    as-chain (search chain depth 20)
