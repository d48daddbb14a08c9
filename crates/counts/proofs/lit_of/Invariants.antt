-- `counts::lit_of` meets its contract: the loop writes the dots of each strip's band.
-- Assumes nothing.
use Prim.Native.Nat.{ℕ}
use mathlib.Core.Path.{◌≡◌}
use Rattle.words.specs.Word.{over}
use Rattle.counts.specs.Band.{lit_by}
use Rattle.counts.proofs.lit_of.Given as goal

abbrev pub invariant-loop-k : goal.invariant-loop-k
invariant-loop-k g l = l.lit ≡ over l.k (λ (k : ℕ). lit_by l.s k (g.D.Dots.words l.dots)) l.initial.lit
