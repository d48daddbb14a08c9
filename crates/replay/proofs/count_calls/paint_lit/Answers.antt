-- `replay::count_calls::paint_lit` paints with the counts that are held, and keeps those that it is handed back.
use mathlib.Core.Path.{ap, ap₂, ◌∙◌}
use Rattle.std.specs.Prelude.{codes, length}
use Rattle.arrayvec.proofs.ArrayVecLemmas.{items-with_items}
use Rattle.counts.specs.declared.Painted.{Painted}
use Rattle.replay.proofs.Putting.{puts-same}
use Rattle.replay.specs.Calls.{reply_bytes, count_words}
use Rattle.replay.specs.Registers.{with_counts}
use Rattle.replay.specs.Answers.{with_panel, counts_held, paint_lit, paint_lit_reply, paint_lit_answer}
use Rattle.replay.proofs.count_calls.paint_lit.Goals as goal

pub returns-clause-puts : goal.returns-clause-puts
unfolding paint_lit_answer paint_lit_reply counts_held
returns-clause-puts g c =
    let text = c.as_slice-3.ensures.value ∙ c.text-text.ensures in
    let counts = c.counts_of-counts.ensures in
    let call = rw (c.shape.ensures, c.as_slice-2.ensures.value, c.label.ensures, text) at c.paint-painted.ensures.value in
    let painted = rw (c.as_mut_slice-panel.ensures.value, counts, c.as_slice.ensures.value) at call in
    puts-same _ c.put_reply.ensures (ap (λ (p : Painted). reply_bytes (codes "paintlit") p.reply) painted)

pub returns-clause-registers : goal.returns-clause-registers
unfolding paint_lit counts_held
returns-clause-registers g c =
    let r = c.args.registers.now in
    let text = c.as_slice-3.ensures.value ∙ c.text-text.ensures in
    let counts = c.counts_of-counts.ensures in
    let call = rw (c.shape.ensures, c.as_slice-2.ensures.value, c.label.ensures, text) at c.paint-painted.ensures in
    let painted = rw (c.as_mut_slice-panel.ensures.value, counts, c.as_slice.ensures.value) at call.value in
    let panel = rw (c.as_mut_slice-panel.ensures.value, counts, c.as_slice.ensures.value) at call.panel in
    let long = c.paint-painted.auto.panel ∙ ap length c.as_mut_slice-panel.ensures.value in
    c.keep.ensures
    ∙ ap₂ (λ (p : Painted) words. with_counts (count_words p.counts) (with_panel words r)) painted
    (items-with_items r.panel c.paint-painted.new.panel long ∙ panel)
