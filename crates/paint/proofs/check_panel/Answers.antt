-- `paint::check_panel` meets its contract, by its one test.
-- Assumes nothing.
use mathlib.Core.Path.{sym, ◌∙◌}
use Rattle.words.specs.Refusal.{first_of}
use Rattle.paint.specs.Panel.{panel_number}
use Rattle.paint.proofs.check_panel.Goals as goal

pub returns-then-bad_panel : goal.returns-then-bad_panel
unfolding panel_number first_of
returns-then-bad_panel c = rw (sym c.bad_panel.ensures ∙ c.if-bad_panel.true)

pub returns : goal.returns
unfolding panel_number first_of
returns c = rw (sym c.bad_panel.ensures ∙ c.if-bad_panel.false)
