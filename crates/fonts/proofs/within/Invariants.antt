-- `fonts::within` meets its contract. The invariant: the entries before this one name no greater body and no greater code.
-- Assumes nothing.
use Prim.Native.Nat.{◌≤◌}
use Rattle.fonts.proofs.Naming.{Under}
use Rattle.fonts.proofs.within.Given as goal

abbrev pub invariant-loop-k : goal.invariant-loop-k
invariant-loop-k g l = (l.code ≤ 255) × Under (g.F.Words.as_words l.map) l.k l.body l.code
