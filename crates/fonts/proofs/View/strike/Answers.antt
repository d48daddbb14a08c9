-- `fonts::View::strike` meets its contract, by the tests that it makes.
-- Assumes nothing.
use Prim.Native.Nat.{ℕ, ◌-◌}
use mathlib.Core.Path.{ap, ◌∙◌}
use Rattle.fonts.specs.Strike.{body_of, strike_by}
use Rattle.words.proofs.Chain.{on-eq, on-ne, on-lt, on-ge}
use Rattle.fonts.proofs.View.strike.Goals as goal

pub returns-then-k-eq0 : goal.returns-then-k-eq0
unfolding strike_by
returns-then-k-eq0 g c = on-eq _ _ _ _ 0 c.if-k-eq0.true c.first.ensures

pub returns-then-self-k : goal.returns-then-self-k
unfolding strike_by
returns-then-self-k g c =
    let a = c.args in
    on-ne _ _ _ a.k 0 c.if-k-eq0.false
    (on-ge _ _ _ a.k a.self.header.bodies c.if-self-k.true c.nothing.ensures)

pub returns : goal.returns
unfolding strike_by
returns g c =
    let a = c.args in
    let bitmap = c.number_at-bitmap.ensures in
    let body = c.of.ensures ∙ ap (body_of (g.F.Words.as_words a.font)) (c.saturating_sub.ensures ∙ ap (λ (n : ℕ). n - 5) bitmap) in
    on-ne _ _ _ a.k 0 c.if-k-eq0.false
    (on-lt _ _ _ a.k a.self.header.bodies c.if-self-k.false (λ i. record { bitmap = bitmap i; body = body i }))
