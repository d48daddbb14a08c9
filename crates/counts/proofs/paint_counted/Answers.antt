-- `counts::paint_counted` meets its contract: the refusal of a font, or what painting with its view answers.
-- Assumes nothing.
use mathlib.Core.Path.{sym}
use mathlib.Core.List.{[], ◌∷◌}
use lib.ListN.{length}
use Rattle.std.proofs.lemmas.Result.{err_from_is_err_and}
use Rattle.fonts.specs.Strike.{view_of}
use Rattle.fonts.specs.Reading.{font_number}
use Rattle.fonts.proofs.Readings.{read-accepted}
use Rattle.paint.specs.Label.{call_of}
use Rattle.paint.proofs.Replies.{number-refused}
use Rattle.counts.proofs.Painting.{refused-before}
use Rattle.counts.proofs.paint_counted.Goals as goal

pub returns-in_err-view : goal.returns-in_err-view
returns-in_err-view c =
    let a = c.args in
    let stopped = err_from_is_err_and c.from_residual.result c.from_residual.ensures.1 in
    let call = call_of a.font.now a.l a.text.now in
    let number = number-refused call _ c.in_err-view.ensures.number a.s (length a.panel.now ∷ []) in
    let refused = refused-before a.s call a.panel.now a.counts _ number in
    rw (stopped.1, stopped.2) (record { value = refused.0; number = refused.1; panel = refused.2 })

pub paint-requires : goal.paint-requires
paint-requires c =
    let font = c.args.font.now in
    let what = read-accepted (font_number font) (view_of font) _ (sym c.in_ok-view.ensures.value) in
    (what.1, what.0)
