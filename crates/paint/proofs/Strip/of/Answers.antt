-- `paint::Strip::of` meets its contract: k strips of at most 2^32 - 1 columns, and one more, fit.
-- Assumes nothing.
use Prim.Native.Nat.{◌*◌, ◌≤◌}
use native.Mathlib.Nat.{mul-le-mul}
use native.Mathlib.Omega.{arith}
use Rattle.paint.proofs.Strip.of.Goals as goal
use Rattle.paint.proofs.Strip.of.Goals.{After-struct_known-1}

columns : (c : After-struct_known-1) → c.args.k * c.args.s.width ≤ 4294967295 * 4294967295
columns c = mul-le-mul {n₁ = c.args.k} {m₁ = c.args.s.width} {n₂ = 4294967295} {m₂ = 4294967295} (omega arith) (omega arith)

pub overflow_mul-from : goal.overflow_mul-from
overflow_mul-from c = omega (arith, columns (goal.at.overflow_mul-from c).After-struct_known-1)

pub overflow_add-result : goal.overflow_add-result
overflow_add-result c = omega (arith, columns (goal.at.overflow_add-result c).After-struct_known-1)
