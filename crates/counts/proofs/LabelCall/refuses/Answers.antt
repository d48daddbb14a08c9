-- `counts::LabelCall::refuses` meets its contract: where it is sure, no label leaves what the count may be; else what it would leave is
-- compared.
-- Assumes nothing.
use Prim.Native.Nat.{ℕ, ◌*◌, ◌≤◌}
use mathlib.Core.Path.{sym, ap, ap₂, ◌∙◌}
use native.Mathlib.Omega.{arith}
use Rattle.counts.specs.declared.Rows.{Rows}
use Rattle.counts.specs.Lit.{leaves}
use Rattle.counts.specs.Band.{as_painted, left_by}
use Rattle.counts.proofs.Reached.{reached-most}
use Rattle.counts.proofs.Calling.{few, below}
use Rattle.counts.proofs.LabelCall.refuses.Goals as goal

pub sure-requires : goal.sure-requires
sure-requires c =
    let a = c.args in
    omega (arith, below a.self.now a.t.rows c.requires.1, few a.self.now a.panel.now c.requires.0)

pub returns-then-sure : goal.returns-then-sure
returns-then-sure c =
    let a = c.args in
    let l = a.self.now in
    let left = left_by l a.panel.now in
    let most = reached-most l.view l.font.now l.shape l.label (as_painted l a.panel.now) in
    let same = ap (λ (t : Rows). l.shape.width * t.count) c.requires.1 in
    let few : left ≤ l.shape.width * a.t.rows.count = omega (arith, same, most) in
    sym (c.sure.ensures c.if-sure.true left few)

pub left-left-requires : goal.left-left-requires
left-left-requires c = c.requires

pub returns : goal.returns
returns c =
    c.leaves.ensures
    ∙ ap₂ (λ (most left : ℕ). leaves most c.args.t.held left c.args.t.lit) c.most_lit.ensures
    c.left-left.ensures
