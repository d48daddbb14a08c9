-- `replay::font_calls::glyph` answers a line.
use mathlib.Core.Path.{ap, ◌∙◌}
use Rattle.replay.proofs.Putting.{then, puts-same, one_byte}
use Rattle.replay.specs.Answers.{glyph_of, glyph_bytes, glyph_answer}
use Rattle.replay.proofs.font_calls.glyph.Goals as goal

pub returns : goal.returns
unfolding glyph_answer
returns g c =
    let shown = c.glyph_of.ensures ∙ ap (glyph_of c.args.font.now) c.number.ensures in
    then _ _ _ c.put_head.ensures
    (then _ _ _ (puts-same _ c.put_glyph.ensures (ap glyph_bytes shown)) (one_byte _ _ c.put.ensures))
