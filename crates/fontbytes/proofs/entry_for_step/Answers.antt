-- `fontbytes::entry_for_step` meets its contract, by the test that it makes.
-- Assumes nothing.
use mathlib.Core.Path.{sym, ◌∙◌}
use Rattle.fontbytes.specs.Parts.{for_step}
use Rattle.fontbytes.proofs.entry_for_step.Goals as goal

pub returns-then-kerned : goal.returns-then-kerned
unfolding for_step
returns-then-kerned g c =
    let kind = sym c.kerned.ensures ∙ c.if-kerned.true in
    rw kind (cc)

pub returns : goal.returns
unfolding for_step
returns g c =
    let kind = sym c.kerned.ensures ∙ c.if-kerned.false in
    rw kind (cc)
