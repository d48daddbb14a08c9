-- `fonts::there` meets its contract, by the tests that it makes.
-- Assumes nothing.
use mathlib.Core.Path.{sym, ◌∙◌}
use borrow.Author.Tests.{le-leb}
use Rattle.fonts.specs.Entry.{struck}
use Rattle.fonts.specs.Face.{in_range}
use Rattle.fonts.specs.Kinds.{there}
use Rattle.words.proofs.Chain.{chain, as-chain}
use Rattle.fonts.proofs.there.Goals as goal

pub returns-then-code-h : goal.returns-then-code-h
unfolding there in_range struck
returns-then-code-h c = as-chain (search chain depth 20)

pub returns-then-h-code : goal.returns-then-h-code
unfolding there in_range struck
returns-then-h-code c = as-chain (search chain depth 20)

pub returns-then-kerned : goal.returns-then-kerned
unfolding there in_range struck
returns-then-kerned c =
    let a = c.args in
    let low = le-leb a.h.min a.code c.if-code-h.false in
    let high = le-leb a.code a.h.max c.if-h-code.false in
    let kind = sym c.kerned.ensures ∙ c.if-kerned.true in
    rw (low, high, kind)

pub returns : goal.returns
unfolding there in_range struck
returns c =
    let a = c.args in
    let low = le-leb a.h.min a.code c.if-code-h.false in
    let high = le-leb a.code a.h.max c.if-h-code.false in
    let kind = sym c.kerned.ensures ∙ c.if-kerned.false in
    rw (low, high, kind)
