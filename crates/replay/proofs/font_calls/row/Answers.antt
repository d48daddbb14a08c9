-- `replay::font_calls::row` answers a line.
use mathlib.Core.Path.{ap, ap₂, ◌∙◌}
use Rattle.fonts.specs.Face.{row_of}
use Rattle.replay.proofs.Putting.{then, puts-same, one_byte}
use Rattle.replay.specs.declared.text.Digits.TheVariants.{Four}
use Rattle.replay.specs.Text.{list_bytes}
use Rattle.replay.specs.Answers.{row_answer}
use Rattle.replay.proofs.font_calls.row.Goals as goal

pub returns : goal.returns
unfolding row_answer
returns g c =
    let words = c.row-row.ensures ∙ ap₂ (row_of c.args.font.now) c.number.ensures c.number-2.ensures in
    then _ _ _ c.put_all.ensures
    (then _ _ _ (puts-same _ c.put_list.ensures (ap (list_bytes Four) words)) (one_byte _ _ c.put.ensures))
