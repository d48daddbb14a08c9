-- A part that is there begins and ends where it is asked to.
use Prim.Native.Nat.{◌-◌}
use mathlib.Core.Path.{◌≡◌}
use native.Mathlib.Omega.{arith}
use Rattle.words.proofs.list.RefSliceU16Words.part.Goals as goal

pub returns-then-end-self : goal.returns-then-end-self
returns-then-end-self c =
    let a = c.args in
    let whole : c.saturating_add-end.result - a.from ≡ a.count = omega arith in
    record { words = rw whole; held = rw whole }
