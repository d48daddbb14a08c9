use Rattle.std.proofs.Common.{◌≡◌, ◌+◌, ◌-◌, ◌^◌, suc, ◌≤◌, refl, arith}
use Rattle.std.proofs.Math.Nat.{pow-le-pow_right, one-le-pow}
use Rattle.replay.specs.Text.{last_pairs, name_bytes}
use Rattle.replay.proofs.Putting.{part-put, nothing_left}
use Rattle.replay.proofs.text.Output.put_name.Goals as goal

pub loop-k-init : goal.loop-k-init
unfolding name_bytes
loop-k-init g c = refl

pub loop-k-preserved : goal.loop-k-preserved
unfolding last_pairs
loop-k-preserved g c =
    let more : 9 - c.loop-k.k ≡ suc (8 - c.loop-k.k) = omega arith in
    let rest : 9 - (c.loop-k.k + 1) ≡ 8 - c.loop-k.k = omega arith in
    let left = rw more at c.loop-k.invariant in
    rw rest (part-put c.args.self.now c.loop-k.self _ (name_bytes c.args.name) _ _ _ left refl (rw c.pow.ensures at c.put_pair.ensures))

pub returns : goal.returns
unfolding last_pairs
returns g c =
    let none : 9 - c.loop-k.k ≡ 0 = omega arith in
    nothing_left c.args.self.now c.loop-k.self (name_bytes c.args.name) _ c.loop-k.invariant (rw none)

pub pow-requires : goal.pow-requires
pow-requires g c =
    let most : 100 ^ (8 - c.loop-k.k) ≤ 100 ^ 8 = pow-le-pow_right {n = 100} (omega arith) {i = 8 - c.loop-k.k} {j = 8} (omega arith) in
    omega (arith, most)

pub nonzero_div-name : goal.nonzero_div-name
nonzero_div-name g c =
    let some : 1 ≤ 100 ^ (8 - c.loop-k.k) = one-le-pow (8 - c.loop-k.k) 100 (omega arith) in
    omega (arith, some, c.pow.ensures)
