-- `counts::Band::lit` meets its contract. The invariant: the words so far are counted. It holds at first with none, or with four.
-- Assumes nothing.
use Prim.Native.Nat.{◌*◌, ◌≤◌}
use mathlib.Core.Path.{◌≡◌}
use Rattle.counts.specs.Band.{lit_in_words}
use Rattle.counts.proofs.Band.lit.Given as goal

abbrev pub invariant-loop-w : goal.invariant-loop-w
invariant-loop-w g l = (l.sum ≡ lit_in_words l.self (g.D.Dots.words l.dots) l.w) × (l.sum ≤ 4096 * l.w)
