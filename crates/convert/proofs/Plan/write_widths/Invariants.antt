-- `convert::Plan::write_widths` meets its contract: each turn writes the entry of the next code, and behind the loop stands the dummy's.
use mathlib.Core.Path.{◌≡◌}
use lib.ListN.{length}
use Rattle.words.specs.Word.{over}
use Rattle.convert.specs.Writing.{width_entry}
use Rattle.convert.specs.Planned.{planned}
use Rattle.convert.proofs.Plan.write_widths.Given as goal

abbrev pub invariant-loop-k : goal.invariant-loop-k
invariant-loop-k l =
    (length l.widths ≡ length l.initial.widths)
    × (l.widths ≡ over l.k (width_entry (planned l.self)) l.initial.widths)
