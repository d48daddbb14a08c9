use mathlib.Core.Path.{◌≡◌, refl, sym, ap, ◌∙◌}
use native.Mathlib.Omega.{arith}
use Prim.Native.Nat.{ℕ}
use Rattle.words.specs.Search.{some_below}
use Rattle.words.proofs.Search.{none_more, some-here}
use Rattle.convert.proofs.search.some_below.Goals as goal

pub loop-i-init : goal.loop-i-init
unfolding some_below
loop-i-init g c = λ t h. refl

pub returns-then-test : goal.returns-then-test
returns-then-test g c = λ m t same h.
    let passes = sym (h c.loop-i.i c.test.result c.loop-i-test.true c.test.ensures) ∙ c.if-test.true in
    sym (some-here t m c.loop-i.i (omega arith) passes)

pub loop-i-preserved : goal.loop-i-preserved
loop-i-preserved g c = λ t h.
    none_more t c.loop-i.i (c.loop-i.invariant t h) (sym (h c.loop-i.i c.test.result c.loop-i-test.true c.test.ensures) ∙ c.if-test.false)

pub returns : goal.returns
returns g c = λ m t same h.
    let end : c.loop-i.i ≡ m = omega arith in
    sym (ap (λ (k : ℕ). some_below k t) (sym end) ∙ c.loop-i.invariant t h)
