-- `fonts::wrong_end` meets its contract, by the test that it makes.
-- Assumes nothing.
use Prim.Native.Nat.{ℕ, ◌+◌}
use mathlib.Core.Path.{refl, ap}
use mathlib.Core.Bool.{not}
use lib.Dec.{eqb}
use Rattle.fonts.specs.Reading.{wrong_end}
use Rattle.words.proofs.Chain.{on-true, on-false}
use Rattle.fonts.proofs.wrong_end.Goals as goal

pub returns-then-last : goal.returns-then-last
unfolding wrong_end
returns-then-last c =
    let a = c.args in
    on-true _ _ _ a.last c.if-last.true (ap (λ (n : ℕ). not (eqb a.count (a.end + n))) c.behind.ensures.value)

pub returns : goal.returns
unfolding wrong_end
returns c = on-false _ _ _ c.args.last c.if-last.false refl
