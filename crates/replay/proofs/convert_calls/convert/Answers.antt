-- `replay::convert_calls::convert` converts what `cu` holds into what `out` lends.
use mathlib.Core.Path.{sym, ap, ap₂, ◌∙◌}
use Rattle.std.specs.Prelude.{length}
use Rattle.arrayvec.proofs.ArrayVecLemmas.{items-with_items}
use Rattle.convert.specs.Conversion.{words_written}
use Rattle.replay.specs.Registers.{registers_written}
use Rattle.replay.specs.Answers.{with_out, convert_answer, registers_converted}
use Rattle.replay.proofs.convert_calls.convert.Goals as goal

pub returns-in-Ok-clause-puts : goal.returns-in-Ok-clause-puts
unfolding convert_answer
returns-in-Ok-clause-puts g c =
    let by = rw (c.as_slice.ensures.value, c.as_mut_slice-out.ensures.value) at c.in-Ok.ensures.value in
    rw (sym by) c.put_conversion.ensures

pub returns-in-Ok-clause-registers : goal.returns-in-Ok-clause-registers
unfolding registers_converted
returns-in-Ok-clause-registers g c =
    let r = c.args.registers.now in
    let by = rw (c.as_slice.ensures.value, c.as_mut_slice-out.ensures.value) at c.in-Ok.ensures.value in
    let out = rw (c.as_slice.ensures.value, c.as_mut_slice-out.ensures.value) at c.convert.ensures.out in
    let long = c.convert.auto.out ∙ ap length c.as_mut_slice-out.ensures.value in
    c.keep_written.ensures
    ∙ ap₂ (λ count words. registers_written count (with_out words r)) (ap words_written by)
    (items-with_items r.out c.convert.new.out long ∙ out)

pub returns-in-Err-clause-puts : goal.returns-in-Err-clause-puts
unfolding convert_answer
returns-in-Err-clause-puts g c =
    let by = rw (c.as_slice.ensures.value, c.as_mut_slice-out.ensures.value) at c.in-Err.ensures.value in
    rw (sym by) (rw c.number.ensures at c.put_conversion-in-Err.ensures)

pub returns-in-Err-clause-registers : goal.returns-in-Err-clause-registers
unfolding registers_converted
returns-in-Err-clause-registers g c =
    let r = c.args.registers.now in
    let by = rw (c.as_slice.ensures.value, c.as_mut_slice-out.ensures.value) at c.in-Err.ensures.value in
    let out = rw (c.as_slice.ensures.value, c.as_mut_slice-out.ensures.value) at c.convert.ensures.out in
    let long = c.convert.auto.out ∙ ap length c.as_mut_slice-out.ensures.value in
    c.keep_written-in-Err.ensures
    ∙ ap₂ (λ count words. registers_written count (with_out words r)) (ap words_written by)
    (items-with_items r.out c.convert.new.out long ∙ out)
