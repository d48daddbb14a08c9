-- `replay::font_calls::dots` answers a line.
use mathlib.Core.Path.{ap, ap₂, ◌∙◌}
use Rattle.fonts.specs.declared.Glyph.{Glyph}
use Rattle.fonts.specs.Face.{dots_of}
use Rattle.replay.proofs.Putting.{then, puts-same, one_byte}
use Rattle.replay.specs.declared.text.Digits.TheVariants.{Four}
use Rattle.replay.specs.Lines.{number_of}
use Rattle.replay.specs.Text.{value_bytes}
use Rattle.replay.specs.Answers.{glyph_of, dots_answer}
use Rattle.replay.proofs.font_calls.dots.Goals as goal

pub returns : goal.returns
unfolding dots_answer
returns g c =
    let glyph = c.glyph_of-glyph.ensures ∙ ap (glyph_of c.args.font.now) c.number.ensures in
    let word =
    c.dots-word.ensures
    ∙ ap (λ (g : Glyph). dots_of c.args.font.now g c.number-2.result c.number-3.result) glyph
    ∙ ap₂ (dots_of c.args.font.now (glyph_of c.args.font.now (number_of c.args.line.now 0))) c.number-2.ensures c.number-3.ensures in
    then _ _ _ c.put_head.ensures
    (then _ _ _ (puts-same _ c.put_value.ensures (ap (value_bytes Four) word)) (one_byte _ _ c.put.ensures))
