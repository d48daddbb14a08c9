-- `replay::sheet_calls::join` joins sheet 2 onto sheet 1.
use mathlib.Core.Path.{ap, ap₂, ◌∙◌}
use Rattle.std.specs.Prelude.{codes, length}
use Rattle.arrayvec.proofs.ArrayVecLemmas.{items-with_items}
use Rattle.paint.specs.Sheet.{sheet_of}
use Rattle.replay.proofs.Putting.{puts-same}
use Rattle.replay.specs.Answers.{with_sheet, refusal_bytes, join_answer, registers_joined}
use Rattle.replay.proofs.sheet_calls.join.Goals as goal

pub returns-clause-puts : goal.returns-clause-puts
unfolding join_answer
returns-clause-puts g c =
    let one = rw (c.shape.ensures, c.as_mut_slice-keep.ensures.value, c.as_mut_slice-flip.ensures.value)
    at c.join-outcome.ensures.value in
    let number = rw (c.as_slice.ensures.value, c.as_slice-2.ensures.value) at one in
    puts-same _ c.put_outcome.ensures (ap (refusal_bytes (codes "join")) number)

pub returns-clause-registers : goal.returns-clause-registers
unfolding registers_joined
returns-clause-registers g c =
    let r = c.args.registers.now in
    let kept = c.as_mut_slice-keep.ensures.value in
    let flipped = c.as_mut_slice-flip.ensures.value in
    let keep = rw (c.shape.ensures, kept, flipped, c.as_slice.ensures.value, c.as_slice-2.ensures.value) at c.join-outcome.ensures.keep in
    let flip = rw (c.shape.ensures, kept, flipped, c.as_slice.ensures.value, c.as_slice-2.ensures.value) at c.join-outcome.ensures.flip in
    let left = items-with_items r.one.keep c.join-outcome.new.keep (c.join-outcome.auto.keep ∙ ap length kept) in
    let right = items-with_items r.one.flip c.join-outcome.new.flip (c.join-outcome.auto.flip ∙ ap length flipped) in
    ap₂ (λ keep flip. with_sheet (sheet_of keep flip) r) (left ∙ keep) (right ∙ flip)
