-- `replay::count_calls::clear` clears with the counts that are held, and keeps those that it is handed back.
use mathlib.Core.Path.{ap, ap₂, ◌∙◌}
use Rattle.std.specs.Prelude.{codes, length}
use Rattle.arrayvec.proofs.ArrayVecLemmas.{items-with_items}
use Rattle.counts.specs.declared.Settled.{Settled}
use Rattle.replay.proofs.Putting.{puts-same}
use Rattle.replay.specs.Calls.{count_words}
use Rattle.replay.specs.Registers.{with_counts}
use Rattle.replay.specs.Answers.{with_panel, refusal_bytes, counts_held, clear_lit, clear_answer}
use Rattle.replay.proofs.count_calls.clear.Goals as goal

pub returns-clause-puts : goal.returns-clause-puts
unfolding clear_answer clear_lit counts_held
returns-clause-puts g c =
    let number = rw (c.shape.ensures, c.as_mut_slice-panel.ensures.value, c.counts_of-counts.ensures, c.as_slice.ensures.value)
    at c.clear-settled.ensures.number in
    puts-same _ c.put_outcome.ensures (ap (refusal_bytes (codes "clear")) number)

pub returns-clause-registers : goal.returns-clause-registers
unfolding clear_lit counts_held
returns-clause-registers g c =
    let r = c.args.registers.now in
    let panels = c.as_mut_slice-panel.ensures.value in
    let settled = rw (c.shape.ensures, panels, c.counts_of-counts.ensures, c.as_slice.ensures.value) at c.clear-settled.ensures.value in
    let panel = rw (c.shape.ensures, panels, c.counts_of-counts.ensures, c.as_slice.ensures.value) at c.clear-settled.ensures.panel in
    let long = c.clear-settled.auto.panel ∙ ap length panels in
    c.keep.ensures
    ∙ ap₂ (λ (s : Settled) words. with_counts (count_words s.counts) (with_panel words r)) settled
    (items-with_items r.panel c.clear-settled.new.panel long ∙ panel)
