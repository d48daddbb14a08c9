-- `counts::sure` meets its contract: a count that is not below the dots lit there does not go below 0, and with all the dots of the rows
-- more it is not over the most.
-- Assumes nothing.
use Prim.Native.Nat.{◌+◌, ◌*◌, ◌≤◌}
use mathlib.Core.Path.{sym}
use mathlib.Core.Bool.{true≢false}
use native.Mathlib.Nat.{mul-le-mul}
use native.Mathlib.Omega.{arith}
use borrow.Author.Tests.{leb-true}
use Rattle.counts.proofs.Moves.{product, stays}
use Rattle.counts.proofs.sure.Goals as goal
use Rattle.counts.proofs.sure.Goals.{Else-t}

pub returns-then-t : goal.returns-then-t
returns-then-t c = λ no. absurd (true≢false (sym no))

-- the dots of the rows
room : (c : Else-t) → c.args.s.width * c.args.t.rows.count ≤ 1099511627520
room c = mul-le-mul {n₂ = 4294967295} {m₂ = 256} (omega arith) (omega arith)

pub overflow_mul-room : goal.overflow_mul-room
overflow_mul-room c = omega (arith, room (goal.at.overflow_mul-room c).Else-t)

pub overflow_add-result : goal.overflow_add-result
overflow_add-result c = omega (arith, room (goal.at.overflow_add-result c).Else-t)

pub overflow_add-result-2 : goal.overflow_add-result-2
overflow_add-result-2 c =
    let s = c.args.s in
    omega (arith, product s.width s.rows (omega arith) (omega arith))

pub returns : goal.returns
returns c =
    λ yes more few.
    let within : c.args.t.held + c.args.s.width * c.args.t.rows.count ≤ c.most_lit.result + c.args.t.lit = leb-true _ _ yes in
    stays (c.args.s.width * c.args.s.rows) c.args.t.held more c.args.t.lit (omega arith) (omega arith)
