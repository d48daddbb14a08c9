use mathlib.Core.Bool.{false≢true}
use native.Mathlib.Omega.{arith}
use borrow.Author.Tests.{ltb-true}
use Rattle.fonts.proofs.Naming.{under_none, under_more, under-within}
use Rattle.fonts.proofs.within.Goals as goal

pub loop-k-init : goal.loop-k-init
loop-k-init g c = (omega arith, under_none (g.F.Words.as_words c.args.map))

pub loop-k-preserved : goal.loop-k-preserved
loop-k-preserved g c =
    let map = g.F.Words.as_words c.args.map in
    let entry = c.word-entry.ensures in (
      omega (arith, c.max-code.ensures, c.loop-k.invariant.0),
      under_more map c.loop-k.k c.loop-k.body c.loop-k.code _ _ c.loop-k.invariant.1 (rw (← entry) c.max-body.ensures)
          (rw (← entry) c.max-code.ensures),
    )

pub returns-then-bodies-body : goal.returns-then-bodies-body
returns-then-bodies-body g c = λ yes. absurd (false≢true yes)

pub returns : goal.returns
returns g c =
    let a = c.args in
    λ yes. under-within (g.F.Words.as_words a.map) c.loop-k.k c.loop-k.body c.loop-k.code a.bodies a.fewest c.loop-k.invariant.1
    (omega (arith, c.loop-k-test.false, c.count-k-end.ensures)) c.if-bodies-body.false (ltb-true _ _ yes)
