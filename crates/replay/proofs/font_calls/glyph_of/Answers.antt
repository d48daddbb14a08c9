-- `replay::font_calls::glyph_of` goes by the reading of the font.
use mathlib.Core.Path.{sym, ap, ◌∙◌}
use Rattle.std.specs.declared.result.Result.{Result}
use Rattle.words.specs.declared.refusal.Refusal.{Refusal}
use Rattle.fonts.specs.declared.View.{View}
use Rattle.replay.specs.Answers.{glyph_read, glyph_of}
use Rattle.replay.proofs.font_calls.glyph_of.Goals as goal

pub returns-in-Ok : goal.returns-in-Ok
unfolding glyph_read glyph_of
returns-in-Ok c =
    let by = sym c.in-Ok.is ∙ c.read.ensures.value in
    c.of.ensures ∙ ap (λ (r : Result View Refusal). glyph_read r c.args.font.now c.args.code) by

pub returns-in-Err : goal.returns-in-Err
unfolding glyph_read glyph_of
returns-in-Err c =
    let by = sym c.in-Err.is ∙ c.read.ensures.value in
    c.no_glyph.ensures ∙ ap (λ (r : Result View Refusal). glyph_read r c.args.font.now c.args.code) by
