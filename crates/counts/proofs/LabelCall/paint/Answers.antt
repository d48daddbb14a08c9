-- `counts::LabelCall::paint` meets its contract: the label's numbers, then some count over what it may be, and then the label is painted.
-- Assumes nothing.
use mathlib.Core.Path.{◌≡◌, sym, ◌∙◌}
use mathlib.Core.List.{[], ◌∷◌}
use lib.ListN.{length}
use Rattle.std.proofs.lemmas.Result.{err_from_is_err_and}
use Rattle.paint.specs.Label.{number_with, call_number}
use Rattle.paint.proofs.Replies.{number_read}
use Rattle.counts.specs.Band.{call_in}
use Rattle.counts.proofs.Painting.{refused-before, refused-for-over}
use Rattle.counts.proofs.LabelCall.paint.Goals as goal
use Rattle.counts.proofs.LabelCall.paint.Goals.{Start}

number_is : (c : Start)
    → let a = c.args in
    let l = a.self.now in
    number_with l.shape (length a.panel.now ∷ []) l.label (length l.text.now) ≡ call_number l.shape (length a.panel.now ∷ []) (call_in l)
number_is c =
    let l = c.args.self.now in
    number_read l.font.now l.view c.requires.1 c.requires.0 l.shape l.label l.text.now (length c.args.panel.now ∷ [])

pub returns-in_err-check_with : goal.returns-in_err-check_with
returns-in_err-check_with c =
    let a = c.args in
    let stopped = err_from_is_err_and c.from_residual.result c.from_residual.ensures.1 in
    let number = c.in_err-check_with.ensures ∙ number_is (goal.at.returns-in_err-check_with c).Start in
    let refused = refused-before a.self.now.shape (call_in a.self.now) a.panel.now a.counts _ number in
    rw (stopped.1, stopped.2) (record { value = refused.0; number = refused.1; panel = refused.2 })

pub returns-then-some_over : goal.returns-then-some_over
returns-then-some_over c =
    let a = c.args in
    let number = c.in_ok-check_with.ensures ∙ number_is (goal.at.returns-then-some_over c).Start in
    let refused = refused-for-over a.self.now.shape (call_in a.self.now) a.panel.now a.counts (sym number)
    (sym c.some_over.ensures ∙ c.if-some_over.true) in
    record { value = refused.0; number = refused.1; panel = refused.2 }

pub paint_accepted-requires : goal.paint_accepted-requires
paint_accepted-requires c = record {
  read = c.requires;
  text_value = (sym c.in_ok-check_with.ensures, sym c.some_over.ensures ∙ c.if-some_over.false);
}
