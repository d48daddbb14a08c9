-- `fonts::check` meets its contract: its stages are the definition's.
-- Assumes nothing.
use mathlib.Core.Path.{refl, sym, ap, ◌∙◌}
use Rattle.std.proofs.lemmas.Result.{err_from_is_err_and}
use Rattle.words.proofs.Refusals.{number-not-0}
use Rattle.words.proofs.Chain.{stage-stops, stage-goes-on}
use Rattle.fonts.specs.Reading.{front_number, number_by}
use Rattle.fonts.proofs.Accepted.{front-there}
use Rattle.fonts.proofs.check.Goals as goal

pub returns-in_err-check_front : goal.returns-in_err-check_front
unfolding number_by
returns-in_err-check_front g c =
    let stopped = err_from_is_err_and c.from_residual.result c.from_residual.ensures.1 in
    let front = c.in_err-check_front.ensures ∙ ap (front_number c.args.h) c.count.ensures in
    rw (stopped.1, stopped.2) (stage-stops _ _ _ front (number-not-0 _))

pub returns-in_err-fewest : goal.returns-in_err-fewest
unfolding number_by
returns-in_err-fewest g c =
    let exit = c.from_residual-in_err-fewest in
    let stopped = err_from_is_err_and exit.result exit.ensures.1 in
    rw (stopped.1, stopped.2)
    (stage-goes-on _ _ _ _ (c.in_ok-check_front.ensures ∙ ap (front_number c.args.h) c.count.ensures) refl
    (stage-stops _ _ _ c.in_err-fewest.ensures.number (number-not-0 _)))

pub check_tables-requires : goal.check_tables-requires
check_tables-requires g c = (
  front-there _ _ (sym (c.in_ok-check_front.ensures ∙ ap (front_number c.args.h) c.count.ensures)),
  c.in_ok-fewest.ensures.fewest,
)

pub returns : goal.returns
unfolding number_by
returns g c =
    stage-goes-on _ _ _ _ (c.in_ok-check_front.ensures ∙ ap (front_number c.args.h) c.count.ensures) refl
    (stage-goes-on _ _ _ _ c.in_ok-fewest.ensures.number refl c.check_tables.ensures)
