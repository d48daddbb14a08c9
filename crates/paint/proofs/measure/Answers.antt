-- `paint::measure` meets its contract: the number of a refused font, or what measuring with its view answers.
-- Assumes nothing.
use mathlib.Core.Path.{sym, ap, ◌∙◌}
use lib.IntN.{ℤ}
use lib.ListN.{length}
use mir.Facts.{to_z-of_z}
use Rattle.std.proofs.lemmas.Result.{err_from_is_err_and}
use Rattle.fonts.specs.Reading.{font_number}
use Rattle.fonts.specs.Strike.{view_of}
use Rattle.fonts.specs.Face.{face_from}
use Rattle.fonts.proofs.Readings.{read-accepted}
use Rattle.paint.specs.Label.{measure_with, measure_for, measure_number}
use Rattle.paint.proofs.Replies.{measure-refused, measure-number-refused, measured, measure-number-read}
use Rattle.paint.proofs.Telling.{tells}
use Rattle.paint.proofs.measure.Goals as goal

pub returns-in_err-v : goal.returns-in_err-v
unfolding measure_for
returns-in_err-v c =
    let stopped = err_from_is_err_and c.from_residual.result c.from_residual.ensures.1 in
    let number = font_number c.args.font.now in
    let reply = measure-refused number c.args.font.now c.args.x c.args.text.now _ c.in_err-v.ensures.number in
    let told = measure-number-refused number c.args.font.now c.args.x c.args.text.now _ c.in_err-v.ensures.number in
    rw (stopped.1, stopped.2) (record { value = reply; numbers = tells _ _ _ reply told })

pub returns : goal.returns
unfolding measure_for
returns c =
    let number = font_number c.args.font.now in
    let read = read-accepted number (view_of c.args.font.now) _ (sym c.in_ok-v.ensures.value) in
    let face = face_from c.in_ok-v.v c.args.font.now in
    let same-x = to_z-of_z c.ranges.x in
    let reply = c.measure_read.ensures.value ∙ ap (λ (z : ℤ). measure_with face z c.args.text.now) same-x
    ∙ measured number c.args.font.now c.args.x c.args.text.now read.0 _ read.1 in
    let told = c.measure_read.ensures.number ∙ ap (λ (z : ℤ). measure_number z (length c.args.text.now)) same-x
    ∙ measure-number-read number c.args.font.now c.args.x c.args.text.now read.0 in
    record { value = reply; numbers = tells _ _ _ reply told }
