-- `fonts::Named::of` meets its contract, by the tests that it makes.
-- Assumes nothing.
use Prim.Native.Nat.{ℕ, ◌-◌}
use mathlib.Core.Path.{◌≡◌, sym, ap, ◌∙◌}
use mathlib.Core.Bool.{true, false, and-false}
use lib.Dec.{leb}
use borrow.Author.Tests.{le-leb, lt-leb}
use Rattle.words.specs.Word.{word}
use Rattle.fonts.specs.declared.Name.{Name}
use Rattle.fonts.specs.declared.Named.{Named}
use Rattle.fonts.specs.Entry.{name_of, marked}
use Rattle.fonts.specs.Face.{in_range}
use Rattle.fonts.specs.Kinds.{named_at, named_in}
use Rattle.fonts.proofs.Named.of.Goals as goal
use Rattle.fonts.proofs.Named.of.Goals.{After-marked}

low : (m : After-marked) → leb m.args.h.min m.args.code ≡ true
low m = le-leb m.args.h.min m.args.code m.if-code-h.false

high : (m : After-marked) → leb m.args.code m.args.h.max ≡ true
high m = le-leb m.args.code m.args.h.max m.if-h-code.false

own_is : (m : After-marked) → m.at-own.result ≡ named_at m.args.map.now m.args.widths.now (m.args.code - m.args.h.min) false
own_is m = m.at-own.ensures

marked-is : (m : After-marked) → marked m.args.h (name_of (word m.args.map.now (m.args.code - m.args.h.min))).missing
    (word m.args.widths.now (m.args.code - m.args.h.min)) ≡ m.marked.result
marked-is m =
    sym
    (m.marked.ensures
    ∙ ap (λ (name : Name). marked m.args.h name.missing m.at-own.result.width) m.of.ensures.value
    ∙ ap (λ (own : Named). marked m.args.h (name_of own.entry).missing own.width) (own_is m))

pub returns-then-code-h : goal.returns-then-code-h
unfolding named_in in_range
returns-then-code-h c =
    let a = c.args in
    rw (lt-leb a.h.min a.code c.if-code-h.true)
    (c.at.ensures ∙ ap (λ (k : ℕ). named_at a.map.now a.widths.now k true) c.codes.ensures)

pub returns-then-h-code : goal.returns-then-h-code
unfolding named_in in_range
returns-then-h-code c =
    let a = c.args in
    rw (lt-leb a.code a.h.max c.if-h-code.true, and-false _)
    (c.at-then-h-code.ensures ∙ ap (λ (k : ℕ). named_at a.map.now a.widths.now k true) c.codes-then-h-code.ensures)

pub returns-then-marked : goal.returns-then-marked
unfolding named_in in_range
returns-then-marked c =
    rw (
      low (goal.at.returns-then-marked c).After-marked,
      high (goal.at.returns-then-marked c).After-marked,
      marked-is (goal.at.returns-then-marked c).After-marked ∙ c.if-marked.true,
    )
    (c.at-then-marked.ensures ∙ ap (λ (k : ℕ). named_at c.args.map.now c.args.widths.now k true) c.codes-then-marked.ensures)

pub returns : goal.returns
unfolding named_in in_range
returns c = rw (
  low (goal.at.returns c).After-marked,
  high (goal.at.returns c).After-marked,
  marked-is (goal.at.returns c).After-marked
      ∙ c.if-marked.false,
) (own_is (goal.at.returns c).After-marked)
