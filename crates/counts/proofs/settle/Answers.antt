use Prim.Native.Nat.{ℕ, ◌+◌, ◌-◌}
use mathlib.Core.Path.{◌≡◌, refl, sym, ap, ◌∙◌}
use mathlib.Core.Bool.{false}
use native.Mathlib.Omega.{arith}
use Rattle.words.specs.Word.{word, over}
use Rattle.words.specs.Search.{some_below}
use Rattle.std.specs.declared.result.Result.TheVariants.{Ok}
use Rattle.words.specs.declared.refusal.Refusal.TheVariants.{LitDots}
use Rattle.words.proofs.Refusals.{answered-value, answered-refusal}
use Rattle.words.proofs.Search.{none_more, some-here}
use Rattle.words.proofs.Over.{over-step}
use Rattle.counts.specs.Lit.{some_over, leaves}
use Rattle.counts.specs.Band.{settled_counts}
use Rattle.counts.proofs.Moves.{not-below, not-above, settled-over, settled-leaving, settled-moved}
use Rattle.counts.proofs.settle.Goals as goal
use Rattle.counts.proofs.settle.Goals.{After-leaves, After-most_lit-most}

-- when the most is known, no count is over it
none_over : (m : After-most_lit-most) → some_over m.args.s m.args.counts ≡ false
none_over m = sym m.some_over.ensures ∙ m.if-some_over.false

-- the test of a count
told : (t : After-leaves)
    → let a = t.args in
    let k = t.loop-k.k in
    leaves t.most_lit-most.result (word a.counts k) (word a.left k) (word a.lit k) ≡ t.leaves.result
told t = sym t.leaves.ensures

pub returns-then-some_over : goal.returns-then-some_over
returns-then-some_over c =
    let a = c.args in
    let number = settled-over a.s a.counts (word a.left) (word a.lit) (sym c.some_over.ensures ∙ c.if-some_over.true) in
    record { value = answered-refusal LitDots _ _ number; number = number }

pub loop-k-init : goal.loop-k-init
unfolding over some_below
loop-k-init c = (refl, refl)

pub returns-then-leaves : goal.returns-then-leaves
returns-then-leaves c =
    let a = c.args in
    let k = c.loop-k.k in
    let at = goal.at.returns-then-leaves c in
    let known = sym c.most_lit-most.ensures in
    let area = ap (λ (most : ℕ). leaves most (word a.counts k) (word a.left k) (word a.lit k)) known in
    let number = settled-leaving a.s a.counts (word a.left) (word a.lit) (none_over at.After-most_lit-most)
    (some-here _ 32 k (omega arith) (area ∙ told at.After-leaves ∙ c.if-leaves.true)) in
    record { value = answered-refusal LitDots _ _ number; number = number }

-- a count that passes moves within what it may be
pub moved-requires : goal.moved-requires
moved-requires c =
    let a = c.args in
    let k = c.loop-k.k in
    let most = c.most_lit-most.result in
    let passed = told (goal.at.moved-requires c).After-leaves ∙ c.if-leaves.false in
    let above = not-above most (word a.counts k) (word a.left k) (word a.lit k) passed in (
      not-below most (word a.counts k) (word a.left k) (word a.lit k) passed,
      omega (arith, above, c.most_lit-most.ensures, c.requires),
    )

pub loop-k-preserved : goal.loop-k-preserved
loop-k-preserved c =
    let a = c.args in
    let most = c.most_lit-most.result in
    let inv = c.loop-k.invariant in (
      over-step c.loop-k.k _ (λ (k : ℕ). word a.counts k + word a.left k - word a.lit k) c.loop-k.new a.counts
          inv.0 c.moved.ensures,
      none_more (λ (k : ℕ). leaves most (word a.counts k) (word a.left k) (word a.lit k)) c.loop-k.k inv.1
          (told (goal.at.loop-k-preserved c).After-leaves ∙ c.if-leaves.false),
    )

pub returns : goal.returns
unfolding settled_counts
returns c =
    let a = c.args in
    let e : c.loop-k.k ≡ 32 = omega arith in
    let moved = rw e at c.loop-k.invariant.0 in
    let stayed = rw e at c.loop-k.invariant.1 in
    let known = sym c.most_lit-most.ensures in
    let none = none_over (goal.at.returns c).After-most_lit-most in
    let area = ap (λ (most : ℕ). some_below 32 (λ (k : ℕ). leaves most (word a.counts k) (word a.left k) (word a.lit k))) known in
    let number = settled-moved a.s a.counts (word a.left) (word a.lit) none (area ∙ stayed) in
    record { value = ap Ok moved ∙ answered-value _ _ number; number = number }
