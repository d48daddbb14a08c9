-- `paint::check_with` meets its contract: the panel's test, and then the label's own.
-- Assumes nothing.
use mathlib.Core.Path.{◌∙◌}
use mathlib.Core.List.{[], ◌∷◌}
use Rattle.std.proofs.lemmas.Result.{err_from_is_err_and}
use Rattle.words.proofs.Refusals.{number-not-0}
use Rattle.paint.proofs.Replies.{by-panel, by-label}
use Rattle.paint.proofs.Slices.{good-number, bad-number}
use Rattle.paint.proofs.check_with.Goals as goal

pub returns-in_err-check_panel : goal.returns-in_err-check_panel
returns-in_err-check_panel c =
    let stopped = err_from_is_err_and c.from_residual.result c.from_residual.ensures.1 in
    let slice = c.args.lent ∷ [] in
    let bad = bad-number c.args.s slice _ c.in_err-check_panel.ensures (number-not-0 _) in
    rw (stopped.1, stopped.2) (bad.0 ∙ by-panel c.args.s slice c.args.l c.args.bytes bad.1)

pub returns : goal.returns
returns c =
    let slice = c.args.lent ∷ [] in
    let good = good-number c.args.s slice c.in_ok-check_panel.ensures in
    by-label c.args.s slice c.args.l c.args.bytes _ good c.check_label.ensures
