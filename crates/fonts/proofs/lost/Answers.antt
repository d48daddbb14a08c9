-- `fonts::lost` meets its contract, by the tests that it makes.
-- Assumes nothing.
use Prim.Native.Nat.{◌+◌}
use mathlib.Core.Path.{ap, ◌∙◌}
use borrow.Author.Tests.{le-leb, lt-leb}
use mathlib.Core.Bool.{not, and-false, and-true}
use Rattle.fonts.specs.Entry.{marked}
use Rattle.fonts.specs.Reading.{lost}
use Rattle.fonts.proofs.lost.Goals as goal

pub returns-then-name-pointers : goal.returns-then-name-pointers
unfolding lost
returns-then-name-pointers g c =
    let a = c.args in
    rw (lt-leb a.pointers (a.name.code + 1) c.if-name-pointers.true, and-false _)

pub returns : goal.returns
unfolding lost
returns g c =
    let a = c.args in
    rw (le-leb a.pointers (a.name.code + 1) c.if-name-pointers.false, and-true _)
    (ap not (c.marked.ensures ∙ ap (marked a.h a.name.missing) c.word.ensures))
