-- `paint::paint_row` meets its contract: a row of a panel is a panel of one row, with the baseline counted from it.
-- Assumes nothing.
use borrow.Author.Rules.{rules}
use mathlib.Core.Path.{◌≡◌, sym, ap₂, ◌∙◌}
use mathlib.Core.List.{[], ◌∷◌}
use native.Mathlib.Omega.{arith}
use lib.ListN.{length}
use Rattle.fonts.specs.Face.{face_from}
use Rattle.fonts.proofs.Readings.{told-refused, told-accepted}
use Rattle.paint.specs.declared.Stroke.{Stroke}
use Rattle.paint.specs.declared.Pen.{Pen}
use Rattle.paint.specs.Panel.{one_row}
use Rattle.paint.specs.Pen.{pen_at, stroke_in_row, on_panel, label_effect}
use Rattle.paint.specs.Label.{number_with}
use Rattle.paint.proofs.Accepted.{accepted-label, accepted-stroke}
use Rattle.paint.proofs.Along.{pen-starts}
use Rattle.paint.proofs.InRow.{drawable-in-row, row-far, row-refused, row-painted}
use Rattle.paint.proofs.paint_row.Goals as goal
use Rattle.paint.proofs.paint_row.Goals.{After-at, Start}

number : (c : After-at) → 0 ≡ number_with (one_row c.args.s) (length c.args.words.now ∷ []) c.args.l (length c.args.text.now)
number c = sym (told-accepted _ (sym c.is_err.ensures.value ∙ c.if-is_err.false)) ∙ c.check_with.ensures

stroke : (c : After-at) → c.in_row.result ≡ stroke_in_row (one_row c.args.s) c.args.l c.args.row
stroke c = c.in_row.ensures

start_is : (c : After-at) → c.at.result ≡ pen_at c.args.l.x
start_is c = pen-starts _ c.args.l.x c.at.ensures.value (search rules)

pub returns-then-row-gt255 : goal.returns-then-row-gt255
returns-then-row-gt255 c = row-far (face_from c.args.v c.args.font.now) c.args.s c.args.l c.args.text.now c.args.row c.args.words.now
    c.if-row-gt255.true

pub returns-then-is_err : goal.returns-then-is_err
returns-then-is_err c = row-refused (face_from c.args.v c.args.font.now) c.args.s c.args.l c.args.text.now c.args.row
    c.args.words.now _ c.check_with.ensures (told-refused _ (sym c.is_err.ensures.value ∙ c.if-is_err.true))

pub paint_text-requires : goal.paint_text-requires
paint_text-requires c =
    let near = c.at.ensures.near in
    let room = accepted-stroke (one_row c.args.s) (length c.args.words.now) c.args.l (length c.args.text.now)
    (number (goal.at.paint_text-requires c).After-at) in
    let short = (accepted-label (one_row c.args.s) (length c.args.words.now) c.args.l (length c.args.text.now)
    (number (goal.at.paint_text-requires c).After-at)).short in
    record {
      drawable = rw (stroke (goal.at.paint_text-requires c).After-at)
          (drawable-in-row (one_row c.args.s) c.args.l c.args.row _ room);
      starting = (omega arith, omega arith);
      short = short;
    }

pub returns : goal.returns
returns c =
    let small = c.if-row-gt255.false in
    let there = (accepted-label (one_row c.args.s) (length c.args.words.now) c.args.l (length c.args.text.now)
    (number (goal.at.returns c).After-at)).baseline in
    c.paint_text.ensures.panel
    ∙ ap₂ (λ (k : Stroke) (p : Pen). on_panel (label_effect (face_from c.args.v c.args.font.now) k p c.args.text.now) k c.args.words.now)
    (stroke (goal.at.returns c).After-at) (start_is (goal.at.returns c).After-at)
    ∙ row-painted (face_from c.args.v c.args.font.now) c.args.s c.args.l c.args.text.now c.args.row c.args.words.now small
    (number (goal.at.returns c).After-at) there
