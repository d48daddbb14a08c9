use mathlib.Core.Path.{refl, sym, ap, ◌∙◌}
use Prim.Native.Nat.{ℕ, ◌-◌}
use native.Mathlib.Omega.{arith}
use Rattle.words.specs.Search.{last_below}
use Rattle.words.proofs.Search.{last_found, last-goes-down, last-not-found}
use Rattle.convert.proofs.search.last_below.Goals as goal

pub loop-i-init : goal.loop-i-init
loop-i-init g c = λ t h. refl

pub returns-then-test-clause-value : goal.returns-then-test-clause-value
returns-then-test-clause-value g c = λ m t same h.
    let passes = sym (h (c.loop-i.i - 1) c.test.result (omega arith) c.test.ensures) ∙ c.if-test.true in
    last_found t c.args.n c.loop-i.i c.loop-i-test.true (c.loop-i.invariant t h) passes ∙ ap (λ (k : ℕ). last_below k t) same

pub loop-i-preserved : goal.loop-i-preserved
loop-i-preserved g c = λ t h.
    last-goes-down t c.args.n c.loop-i.i c.loop-i-test.true (c.loop-i.invariant t h)
    (sym (h (c.loop-i.i - 1) c.test.result (omega arith) c.test.ensures) ∙ c.if-test.false)

pub returns-clause-value : goal.returns-clause-value
returns-clause-value g c = λ m t same h.
    last-not-found t c.args.n c.loop-i.i c.loop-i-test.false (c.loop-i.invariant t h) ∙ ap (λ (k : ℕ). last_below k t) same
