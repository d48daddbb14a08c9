-- `counts::LabelCall::left` meets its contract. The invariant: the rows so far are counted as the label would leave them.
-- Assumes nothing.
use Prim.Native.Nat.{◌*◌, ◌≤◌}
use mathlib.Core.Path.{◌≡◌}
use Rattle.counts.specs.Band.{lit_in, as_painted}
use Rattle.counts.proofs.LabelCall.left.Given as goal

abbrev pub invariant-loop-i : goal.invariant-loop-i
invariant-loop-i l =
    (l.sum ≡ lit_in l.self.shape l.self.label.strip l.rows.first l.i (as_painted l.self l.panel))
    × (l.sum ≤ 1048576 * l.i)
