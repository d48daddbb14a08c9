-- `fonts::fallen_with` meets its contract, by its one test.
-- Assumes nothing.
use mathlib.Core.Path.{sym, ap}
use mathlib.Core.Bool.{◌||◌}
use borrow.Author.Tests.{lt-ltb, le-ltb}
use Rattle.fonts.proofs.fallen_with.Goals as goal

pub returns-then-pointer-before : goal.returns-then-pointer-before
returns-then-pointer-before c = sym (ap (λ f. f || c.args.fallen) (lt-ltb _ _ c.if-pointer-before.true))

pub returns : goal.returns
returns c = sym (ap (λ f. f || c.args.fallen) (le-ltb _ _ c.if-pointer-before.false))
