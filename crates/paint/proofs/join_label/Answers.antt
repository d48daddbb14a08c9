-- `paint::join_label` meets its contract: the shorter slice decides for both; then come the label's own numbers, and then the text is
-- joined onto keep and flip.
-- Assumes nothing.
use borrow.Author.Rules.{rules}
use Prim.Native.Nat.{ℕ, ◌≤◌, min}
use mathlib.Core.Path.{◌≡◌, ap, ap₂, ◌∙◌}
use mathlib.Core.List.{[], ◌∷◌}
use native.Mathlib.Omega.{arith}
use lib.ListN.{length}
use Rattle.words.specs.Effect.{cleared}
use Rattle.std.proofs.lemmas.Result.{err_from_is_err_and}
use Rattle.words.proofs.Refusals.{answered-refusal}
use Rattle.fonts.specs.Face.{face_from}
use Rattle.paint.specs.declared.Stroke.{Stroke}
use Rattle.paint.specs.declared.Pen.{Pen}
use Rattle.paint.specs.Pen.{pen_at, pen_along, steps_of, stroke_of, stroke_words, Drawable, on_panel, label_effect}
use Rattle.paint.specs.Sheet.{Sheet, sheet_of, lengths}
use Rattle.paint.specs.Label.{number_with, last_pen, reply_with, effect_with}
use Rattle.paint.proofs.Accepted.{accepted-label, accepted-stroke}
use Rattle.paint.proofs.Along.{pen-starts}
use Rattle.paint.proofs.Labels.{sheet-drawn}
use Rattle.paint.proofs.Replies.{replies-done, sheet-stays, sheet-joined, shorter-with}
use Rattle.paint.proofs.Telling.{tells}
use Rattle.paint.proofs.join_label.Goals as goal
use Rattle.paint.proofs.join_label.Goals.{After-at, After-check_with}

by-shorter : (n : After-check_with)
    → number_with n.args.s (n.min-shorter.result ∷ []) n.args.l (length n.args.text.now)
    ≡ number_with n.args.s ((min (length n.args.keep.now) (length n.args.flip.now)) ∷ []) n.args.l (length n.args.text.now)
by-shorter n = ap (λ (m : ℕ). number_with n.args.s (m ∷ []) n.args.l (length n.args.text.now)) n.min-shorter.ensures

for-both : (n : After-check_with)
    → number_with n.args.s (n.min-shorter.result ∷ []) n.args.l (length n.args.text.now)
    ≡ number_with n.args.s (lengths (sheet_of n.args.keep.now n.args.flip.now)) n.args.l (length n.args.text.now)
unfolding lengths
for-both n = by-shorter n ∙ shorter-with n.args.s (length n.args.keep.now) (length n.args.flip.now) n.args.l (length n.args.text.now)

accepted : (c : After-at)
    → 0 ≡ number_with c.args.s ((min (length c.args.keep.now) (length c.args.flip.now)) ∷ []) c.args.l (length c.args.text.now)
accepted c = c.in_ok-check_with.ensures ∙ by-shorter (goal.at.After-at c).After-check_with

room : (n : After-at) → {k : Stroke} → k ≡ stroke_of n.args.s n.args.l
    → Drawable k (length n.args.keep.now) × (stroke_words k ≤ length n.args.flip.now)
room n same =
    let fits = accepted-stroke n.args.s (min (length n.args.keep.now) (length n.args.flip.now)) n.args.l (length n.args.text.now)
    (accepted n) in
    let words = fits.6 in
    rw same ((fits.0, fits.1, fits.2, fits.3, fits.4, fits.5, omega (arith, words)), omega (arith, words))

stroke : (c : After-at) → c.of.result ≡ stroke_of c.args.s c.args.l
stroke c = c.of.ensures

start_is : (c : After-at) → c.at.result ≡ pen_at c.args.l.x
start_is c = pen-starts _ c.args.l.x c.at.ensures.value (search rules)

pub returns-in_err-check_with : goal.returns-in_err-check_with
unfolding reply_with lengths
returns-in_err-check_with c =
    let stopped = err_from_is_err_and c.from_residual.result c.from_residual.ensures.1 in
    let number = c.in_err-check_with.ensures ∙ for-both (goal.at.returns-in_err-check_with c).After-check_with in
    let same = sheet-stays (face_from c.args.v c.args.font.now) c.args.s c.args.l c.args.text.now _
    (sheet_of c.args.keep.now c.args.flip.now) number in
    let reply = answered-refusal _ _ _ number in
    rw (stopped.1, stopped.2)
    (record {
      value = reply;
      keep = ap (λ (t : Sheet). t.keep) same;
      flip = ap (λ (t : Sheet). t.flip) same;
      numbers = tells _ _ _ reply number;
    })

pub join_text-requires : goal.join_text-requires
join_text-requires c =
    let near = c.at.ensures.near in
    let rooms = room (goal.at.join_text-requires c).After-at
    (stroke (goal.at.join_text-requires c).After-at) in
    record {
      drawable = rooms.0;
      flip_room = rooms.1;
      starting = (omega arith, omega arith);
      short =
          (accepted-label c.args.s (min (length c.args.keep.now) (length c.args.flip.now)) c.args.l (length c.args.text.now)
          (accepted (goal.at.join_text-requires c).After-at)).short;
    }

pub returns : goal.returns
unfolding reply_with lengths last_pen effect_with stroke_of
returns c =
    let number = c.in_ok-check_with.ensures ∙ for-both (goal.at.returns c).After-check_with in
    let start = start_is (goal.at.returns c).After-at in
    let last = c.join_text.ensures.value ∙ ap (λ (p : Pen). pen_along (steps_of (face_from c.args.v c.args.font.now)) p c.args.text.now)
    start in
    let kept =
    c.join_text.ensures.keep
    ∙ ap₂ (λ (k : Stroke) (p : Pen). on_panel (cleared (label_effect (face_from c.args.v c.args.font.now) k p c.args.text.now)) k
    c.args.keep.now) (stroke (goal.at.returns c).After-at) start in
    let flipped =
    c.join_text.ensures.flip
    ∙ ap₂ (λ (k : Stroke) (p : Pen). on_panel (label_effect (face_from c.args.v c.args.font.now) k p c.args.text.now) k c.args.flip.now)
    (stroke (goal.at.returns c).After-at) start in
    let both =
    sheet-drawn c.args.s (effect_with (face_from c.args.v c.args.font.now) c.args.s c.args.l c.args.text.now)
    (sheet_of c.args.keep.now c.args.flip.now) _ _ kept flipped
    ∙ sheet-joined (face_from c.args.v c.args.font.now) c.args.s c.args.l c.args.text.now (sheet_of c.args.keep.now c.args.flip.now) number
    in
    let reply = replies-done _ _ _ number last in
    rw c.finish.ensures
    (record {
      value = reply;
      keep = ap (λ (t : Sheet). t.keep) both;
      flip = ap (λ (t : Sheet). t.flip) both;
      numbers = tells _ _ _ reply number;
    })
