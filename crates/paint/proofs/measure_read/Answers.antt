-- `paint::measure_read` meets its contract: x and the length are tested first, and the pen goes along a text that passes.
-- Assumes nothing.
use mathlib.Core.Path.{◌≡◌, sym, ap, ◌∙◌}
use lib.IntN.{ℤ}
use lib.ListN.{length}
use mir.Syntax.{w32}
use mir.Val.{to_z, of_z}
use mir.Facts.{to_z-of_z}
use Rattle.std.proofs.lemmas.Result.{err_from_is_err_and}
use Rattle.fonts.specs.Face.{face_from}
use Rattle.paint.specs.Label.{last_pen, measure_number}
use Rattle.paint.proofs.Replies.{measure-good, measuring-refused, measuring-done}
use Rattle.paint.proofs.measure_read.Given.{Over}
use Rattle.paint.proofs.measure_read.Goals as goal
use Rattle.paint.proofs.measure_read.Goals.{After-check_measure}

same-x : (g : Over) (n : After-check_measure g) → to_z w32 (of_z w32 n.args.x) ≡ n.args.x
same-x g n = to_z-of_z n.ranges.x

same-number : (g : Over) (n : After-check_measure g) → measure_number (to_z w32 (of_z w32 n.args.x)) (length n.args.text.now)
    ≡ measure_number n.args.x (length n.args.text.now)
same-number g n = ap (λ (z : ℤ). measure_number z (length n.args.text.now)) (same-x g n)

pub returns-in_err-check_measure : goal.returns-in_err-check_measure
returns-in_err-check_measure g c =
    let stopped = err_from_is_err_and c.from_residual.result c.from_residual.ensures.1 in
    let number = c.in_err-check_measure.ensures ∙ same-number g (goal.at.returns-in_err-check_measure g c).After-check_measure in
    rw (stopped.1, stopped.2)
    (record {
      value = measuring-refused (face_from c.args.v (g.F.Words.as_words c.args.font)) c.args.x c.args.text.now _ number;
      number = number;
    })

pub last_pen-requires : goal.last_pen-requires
last_pen-requires g c =
    let number = c.in_ok-check_measure.ensures ∙ same-number g (goal.at.last_pen-requires g c).After-check_measure in
    (measure-good c.args.x (length c.args.text.now) (sym number)).1

pub returns : goal.returns
returns g c =
    let face = face_from c.args.v (g.F.Words.as_words c.args.font) in
    let number = c.in_ok-check_measure.ensures ∙ same-number g (goal.at.returns g c).After-check_measure in
    let last = c.last_pen.ensures.value
    ∙ ap (λ (z : ℤ). last_pen face z c.args.text.now) (same-x g (goal.at.returns g c).After-check_measure) in
    record {
      value = rw c.finish.ensures (measuring-done face c.args.x c.args.text.now _ number last);
      number = number;
    }
