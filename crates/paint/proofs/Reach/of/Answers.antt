-- `paint::Reach::of` meets its contract: the columns that picture and strip share, and nothing where there are none.
-- Assumes nothing.
use mathlib.Core.Path.{ap, ◌∙◌}
use native.Mathlib.Omega.{arith}
use Rattle.paint.specs.declared.Strip.{Strip}
use Rattle.paint.specs.Reach.{shared}
use Rattle.paint.proofs.Reaches.{reaches_some, reaches-none}
use Rattle.paint.proofs.Reach.of.Goals as goal

pub over-requires : goal.over-requires
unfolding shared
over-requires c =
    let columns = c.shared_columns-columns.ensures in
    let from = ap (λ (s : Strip). s.from) columns in
    let upto = ap (λ (s : Strip). s.upto) columns in
    record {
      rows_bound = (omega arith, omega arith, omega arith, omega arith);
      left_le_from =
          (omega (arith, from), omega (arith, from), c.if-columns.true, omega (arith, upto));
    }

pub returns-then-columns : goal.returns-then-columns
returns-then-columns c =
    let columns = c.shared_columns-columns.ensures in
    record {
      value = c.over.ensures.value ∙ reaches_some c.args.g c.args.k c.args.pen _ columns c.if-columns.true;
      near =
          c.over.ensures.near;
    }

pub returns : goal.returns
returns c =
    let columns = c.shared_columns-columns.ensures in
    record {
      value = reaches-none c.args.g c.args.k c.args.pen _ columns c.if-columns.false;
      near =
          (omega arith, omega arith, omega arith);
    }
