-- `sheets::gather` meets its contract: a font that reading refuses joins nothing, and a label in one that it accepts is joined by `paint`.
-- Assumes nothing.
use mathlib.Core.Path.{sym, ◌∙◌}
use Rattle.std.proofs.lemmas.Result.{err_from_is_err_and}
use Rattle.words.proofs.Refusals.{number-not-0}
use Rattle.fonts.specs.Strike.{view_of}
use Rattle.fonts.specs.Reading.{font_number}
use Rattle.fonts.proofs.Readings.{read-accepted}
use Rattle.paint.specs.Sheet.{sheet_of, lengths}
use Rattle.paint.specs.Label.{call_of, reply_of}
use Rattle.paint.proofs.Replies.{number-refused, reply-refused, number_read, reply-read}
use Rattle.paint.proofs.Telling.{tells}
use Rattle.sheets.specs.Sheet.{gather_reply}
use Rattle.sheets.proofs.Done.{slices}
use Rattle.sheets.proofs.Gathering.{gather-refused, gather-read}
use Rattle.sheets.proofs.gather.Goals as goal

pub returns-in_err-v : goal.returns-in_err-v
unfolding gather_reply reply_of
returns-in_err-v c =
    let stopped = err_from_is_err_and c.from_residual.result c.from_residual.ensures.1 in
    let call = call_of c.args.font.now c.args.l c.args.text.now in
    let sheet = sheet_of c.args.keep.now c.args.flip.now in
    let number = c.in_err-v.ensures.number in
    let same = slices _ _ (gather-refused c.args.s call sheet _ number (number-not-0 _)) in
    let reply = reply-refused call _ number c.args.s (lengths sheet) in
    rw (stopped.1, stopped.2)
    (record {
      value = reply;
      keep = same.0;
      flip = same.1;
      numbers = tells _ _ _ reply (number-refused call _ number c.args.s (lengths sheet));
    })

pub returns : goal.returns
unfolding gather_reply reply_of
returns c =
    let font = c.args.font.now in
    let text = c.args.text.now in
    let sheet = sheet_of c.args.keep.now c.args.flip.now in
    let what = read-accepted (font_number font) (view_of font) _ (sym c.in_ok-v.ensures.value) in
    let same = slices _ _ (gather-read c.args.s font _ c.args.l text sheet what.0 what.1) in
    let joined = c.join_label.ensures in
    let reply = joined.value ∙ reply-read font _ what.0 what.1 c.args.s c.args.l text (lengths sheet) in
    let told = joined.numbers.0 ∙ number_read font _ what.0 what.1 c.args.s c.args.l text (lengths sheet) in
    record { value = reply; keep = joined.keep ∙ same.0; flip = joined.flip ∙ same.1; numbers = tells _ _ _ reply told }
