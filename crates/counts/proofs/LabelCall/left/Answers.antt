use Prim.Native.Nat.{ℕ}
use mathlib.Core.Path.{◌≡◌, ap, ◌∙◌}
use native.Mathlib.Omega.{arith}
use Rattle.counts.specs.Band.{lit_in, as_painted}
use Rattle.counts.proofs.Reached.{no_rows, one-row-more}
use Rattle.counts.proofs.Calling.{few, below, rows_lit}
use Rattle.counts.proofs.LabelCall.left.Goals as goal

pub loop-i-init : goal.loop-i-init
loop-i-init c = (no_rows _ _ _ (as_painted c.args.self.now c.args.panel.now), omega arith)

pub overflow_add-rows : goal.overflow_add-rows
overflow_add-rows c =
    let a = c.args in
    omega (arith, below a.self.now a.rows c.requires.1, few a.self.now a.panel.now c.requires.0, c.loop-i-test.true)

pub left_in_row-sum-requires : goal.left_in_row-sum-requires
left_in_row-sum-requires c = (c.requires.0, omega (arith, below c.args.self.now c.args.rows c.requires.1, c.loop-i-test.true))

pub overflow_add-sum : goal.overflow_add-sum
overflow_add-sum c =
    let a = c.args in
    let down = below a.self.now a.rows c.requires.1 in
    let most = few a.self.now a.panel.now c.requires.0 in
    omega (arith, down, most, c.loop-i-test.true, c.loop-i.invariant.1, c.left_in_row-sum.ensures.near)

pub loop-i-preserved : goal.loop-i-preserved
loop-i-preserved c =
    let inv = c.loop-i.invariant in (
      one-row-more _ _ _ (as_painted c.args.self.now c.args.panel.now) c.loop-i.i _ _ inv.0 c.left_in_row-sum.ensures.value,
      omega (arith, inv.1, c.left_in_row-sum.ensures.near),
    )

pub returns : goal.returns
returns c =
    let a = c.args in
    let l = a.self.now in
    let after = as_painted l a.panel.now in
    let there : c.loop-i.i ≡ a.rows.count = omega arith in
    c.loop-i.invariant.0 ∙ ap (λ (n : ℕ). lit_in l.shape l.label.strip a.rows.first n after) there
    ∙ rows_lit l a.rows c.requires.1 after
