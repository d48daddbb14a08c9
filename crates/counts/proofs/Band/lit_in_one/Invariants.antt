-- `counts::Band::lit_in_one` meets its contract. The invariant: the rows so far are counted.
-- Assumes nothing.
use Prim.Native.Nat.{◌*◌, ◌≤◌}
use mathlib.Core.Path.{◌≡◌}
use Rattle.counts.specs.Band.{lit_in_word}
use Rattle.counts.proofs.Band.lit_in_one.Given as goal

abbrev pub invariant-loop-row : goal.invariant-loop-row
invariant-loop-row g l = (l.sum ≡ lit_in_word l.self (g.D.Dots.words l.dots) l.w l.row) × (l.sum ≤ 16 * l.row)
