-- `counts::Band::lit_in_four` meets its contract: the ones of four words joined are those of each. The invariant: the rows so far are
-- counted.
-- Assumes nothing.
use Prim.Native.Nat.{◌*◌, ◌≤◌}
use mathlib.Core.Path.{◌≡◌}
use Rattle.counts.proofs.Counting.{in_four}
use Rattle.counts.proofs.Band.lit_in_four.Given as goal

abbrev pub invariant-loop-row : goal.invariant-loop-row
invariant-loop-row g l = (l.sum ≡ in_four l.self (g.D.Dots.words l.dots) l.w l.row) × (l.sum ≤ 64 * l.row)
