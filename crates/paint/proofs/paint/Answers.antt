-- `paint::paint` meets its contract: the number of a refused font, or what painting with its view answers.
-- Assumes nothing.
use mathlib.Core.Path.{sym, ◌∙◌}
use mathlib.Core.List.{[], ◌∷◌}
use lib.ListN.{length}
use Rattle.std.proofs.lemmas.Result.{err_from_is_err_and}
use Rattle.fonts.specs.Strike.{view_of}
use Rattle.fonts.specs.Reading.{font_number}
use Rattle.fonts.proofs.Readings.{read-accepted}
use Rattle.paint.specs.Label.{call_of, reply_of}
use Rattle.paint.proofs.Replies.{number-refused, reply-refused, paint-refused, number_read, reply-read, paint-read}
use Rattle.paint.proofs.Telling.{tells}
use Rattle.paint.proofs.paint.Goals as goal

pub returns-in_err-v : goal.returns-in_err-v
unfolding reply_of
returns-in_err-v c =
    let stopped = err_from_is_err_and c.from_residual.result c.from_residual.ensures.1 in
    let call = call_of c.args.font.now c.args.l c.args.text.now in
    let number = c.in_err-v.ensures.number in
    let lent = length c.args.panel.now ∷ [] in
    let reply = reply-refused call _ number c.args.s lent in
    rw (stopped.1, stopped.2)
    (record {
      value = reply;
      panel = paint-refused call _ number c.args.s c.args.panel.now;
      numbers = tells _ _ _ reply (number-refused call _ number c.args.s lent);
    })

pub returns : goal.returns
unfolding reply_of
returns c =
    let text = c.args.text.now in
    let lent = length c.args.panel.now ∷ [] in
    let what = read-accepted (font_number c.args.font.now) (view_of c.args.font.now) _ (sym c.in_ok-v.ensures.value) in
    let reply = c.paint_label.ensures.value ∙ reply-read c.args.font.now _ what.0 what.1 c.args.s c.args.l text lent in
    let told = c.paint_label.ensures.numbers.0 ∙ number_read c.args.font.now _ what.0 what.1 c.args.s c.args.l text lent in
    let marks = c.paint_label.ensures.panel ∙ paint-read c.args.font.now _ what.0 what.1 c.args.s c.args.l text c.args.panel.now in
    record { value = reply; panel = marks; numbers = tells _ _ _ reply told }
