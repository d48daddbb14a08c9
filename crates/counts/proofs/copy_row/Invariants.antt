-- `counts::copy_row` meets its contract. The invariant: the words so far are copied.
-- Assumes nothing.
use mathlib.Core.Path.{◌≡◌}
use Rattle.counts.specs.Band.{copied_to}
use Rattle.counts.proofs.copy_row.Given as goal

abbrev pub invariant-loop-i : goal.invariant-loop-i
invariant-loop-i l = l.space ≡ copied_to l.panel l.fn.from.at l.fn.to.at l.i l.initial.space
