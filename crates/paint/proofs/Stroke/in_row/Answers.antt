-- `paint::Stroke::in_row` meets its contract, field by field.
-- Assumes nothing.
use mathlib.Core.Path.{ap, ◌∙◌}
use Prim.Native.Nat.{◌-◌}
use Rattle.paint.specs.declared.Stroke.{Stroke}
use Rattle.paint.specs.Pen.{stroke_of, stroke_in_row}
use Rattle.paint.proofs.Stroke.in_row.Goals as goal

pub returns : goal.returns
unfolding stroke_of stroke_in_row
returns c =
    let k = c.of-k.ensures in
    let y = c.saturating_sub.ensures ∙ ap (λ (stroke : Stroke). stroke.y - c.args.row) k in
    λ i. record { rowwords = (k i).rowwords; rows = (k i).rows; strip = (k i).strip; y = y i; mode = (k i).mode }
