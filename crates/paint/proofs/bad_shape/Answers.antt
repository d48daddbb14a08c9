-- `paint::bad_shape` meets its contract: its tests say what those of the paper do.
-- Assumes nothing.
use mathlib.Core.Path.{sym, ◌∙◌}
use Rattle.paint.proofs.Sizes.{too_wide, bad-width, by_rows}
use Rattle.paint.proofs.bad_shape.Goals as goal

pub returns-then-s-gt128 : goal.returns-then-s-gt128
returns-then-s-gt128 c = sym (too_wide c.args.s c.if-s-gt128.true)

pub returns-then-not_within : goal.returns-then-not_within
returns-then-not_within c = sym (bad-width c.args.s (sym c.not_within.ensures ∙ c.if-not_within.true))

pub returns : goal.returns
returns c =
    let good = sym c.not_within.ensures ∙ c.if-not_within.false in
    c.not_within-2.ensures ∙ by_rows c.args.s c.if-s-gt128.false good
