-- `fonts::Entry::columns` meets its contract: the difference of two pointers, 0 where they fall.
-- Assumes nothing.
use native.Mathlib.Omega.{arith}
use mathlib.Core.Path.{refl}
use Rattle.fonts.specs.Entry.{columns_of}
use Rattle.fonts.proofs.Entry.columns.Goals as goal

pub returns-then-self : goal.returns-then-self
unfolding columns_of
returns-then-self c = omega arith

pub returns : goal.returns
unfolding columns_of
returns c = refl
