-- `paint::paint_label` meets its contract: the panel's and the label's own numbers, and then the text is painted.
-- Assumes nothing.
use borrow.Author.Rules.{rules}
use mathlib.Core.Path.{◌≡◌, ap, ap₂, ◌∙◌}
use mathlib.Core.List.{[], ◌∷◌}
use native.Mathlib.Omega.{arith}
use lib.ListN.{length}
use Rattle.std.proofs.lemmas.Result.{err_from_is_err_and}
use Rattle.words.proofs.Refusals.{answered-refusal}
use Rattle.fonts.specs.Face.{face_from}
use Rattle.paint.specs.declared.Stroke.{Stroke}
use Rattle.paint.specs.declared.Pen.{Pen}
use Rattle.paint.specs.Pen.{pen_at, pen_along, steps_of, stroke_of, on_panel, label_effect}
use Rattle.paint.specs.Label.{number_with, last_pen, reply_with, effect_with}
use Rattle.paint.proofs.Accepted.{accepted-label, accepted-stroke}
use Rattle.paint.proofs.Along.{pen-starts}
use Rattle.paint.proofs.Replies.{replies-done, panel-stays, panel-painted}
use Rattle.paint.proofs.Telling.{tells}
use Rattle.paint.proofs.paint_label.Goals as goal
use Rattle.paint.proofs.paint_label.Goals.{After-at}

number : (c : After-at) → 0 ≡ number_with c.args.s (length c.args.panel.now ∷ []) c.args.l (length c.args.text.now)
number c = c.in_ok-check_with.ensures

stroke : (c : After-at) → c.of.result ≡ stroke_of c.args.s c.args.l
stroke c = c.of.ensures

start_is : (c : After-at) → c.at.result ≡ pen_at c.args.l.x
start_is c = pen-starts _ c.args.l.x c.at.ensures.value (search rules)

pub returns-in_err-check_with : goal.returns-in_err-check_with
unfolding reply_with
returns-in_err-check_with c =
    let stopped = err_from_is_err_and c.from_residual.result c.from_residual.ensures.1 in
    let number_is = c.in_err-check_with.ensures in
    let reply = answered-refusal _ _ _ number_is in
    rw (stopped.1, stopped.2)
    (record {
      value = reply;
      panel = panel-stays (face_from c.args.v c.args.font.now) c.args.s c.args.l c.args.text.now _ c.args.panel.now number_is;
      numbers = tells _ _ _ reply number_is;
    })

pub paint_text-requires : goal.paint_text-requires
paint_text-requires c =
    let near = c.at.ensures.near in
    let room = accepted-stroke c.args.s (length c.args.panel.now) c.args.l (length c.args.text.now)
    (number (goal.at.paint_text-requires c).After-at) in
    let short = (accepted-label c.args.s (length c.args.panel.now) c.args.l (length c.args.text.now)
    (number (goal.at.paint_text-requires c).After-at)).short in
    record {
      drawable = rw (stroke (goal.at.paint_text-requires c).After-at) room;
      starting = (omega arith, omega arith);
      short =
          short;
    }

pub returns : goal.returns
unfolding reply_with last_pen effect_with stroke_of
returns c =
    let start = start_is (goal.at.returns c).After-at in
    let last = c.paint_text.ensures.value ∙ ap (λ (p : Pen). pen_along (steps_of (face_from c.args.v c.args.font.now)) p c.args.text.now)
    start in
    let marks =
    c.paint_text.ensures.panel
    ∙ ap₂ (λ (k : Stroke) (p : Pen). on_panel (label_effect (face_from c.args.v c.args.font.now) k p c.args.text.now) k c.args.panel.now)
    (stroke (goal.at.returns c).After-at) start in
    let reply = replies-done _ _ _ (number (goal.at.returns c).After-at) last in
    rw c.finish.ensures
    (record {
      value = reply;
      panel = panel-painted (face_from c.args.v c.args.font.now) c.args.s c.args.l c.args.text.now _ c.args.panel.now
          (number (goal.at.returns c).After-at) marks;
      numbers = tells _ _ _ reply (number (goal.at.returns c).After-at);
    })
