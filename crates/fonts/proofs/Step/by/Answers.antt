-- `fonts::Step::by` meets its contract, by the test that it makes.
-- Assumes nothing.
use Prim.Native.Nat.{ℕ}
use mathlib.Core.Path.{sym, ap, ◌∙◌}
use mathlib.Core.Bool.{false}
use Rattle.fonts.specs.declared.Step.{Step}
use Rattle.fonts.specs.Kinds.{step_by}
use Rattle.fonts.proofs.Step.by.Goals as goal

abbrev ownStep : ℕ → Step
ownStep n = record { advance = n; substitute = false }

pub returns-then-there : goal.returns-then-there
unfolding step_by
returns-then-there c =
    let here = sym c.there.ensures ∙ c.if-there.true in
    rw here (ap ownStep c.advance.ensures)

pub returns : goal.returns
unfolding step_by
returns c = let away = sym c.there.ensures ∙ c.if-there.false in rw away
