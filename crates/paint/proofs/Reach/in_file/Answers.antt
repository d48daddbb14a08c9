-- `paint::Reach::in_file` meets its contract, by its one test.
-- Assumes nothing.
use Prim.Native.Nat.{◌-◌, ◌*◌, ◌≤◌}
use mathlib.Core.Path.{refl}
use native.Mathlib.Nat.{mul-le-mul}
use native.Mathlib.Omega.{arith}
use Rattle.paint.specs.declared.Reach.{Reach}
use Rattle.paint.specs.Reach.{in_file}
use Rattle.paint.proofs.Reach.in_file.Goals as goal

-- all rows of a strike
rows-far : (r : Reach) → r.rows ≤ 256 → r.raster ≤ 65535 → (r.rows - 1) * r.raster ≤ 16776960
rows-far r h k = mul-le-mul {n₂ = 256} {m₂ = 65535} (omega arith) k

pub overflow_mul-result : goal.overflow_mul-result
overflow_mul-result c = omega (arith, rows-far c.args.self (omega arith) (omega arith))

pub overflow_add-result : goal.overflow_add-result
overflow_add-result c = omega (arith, rows-far c.args.self (omega arith) (omega arith))

pub overflow_add-result-2 : goal.overflow_add-result-2
overflow_add-result-2 c = omega (arith, rows-far c.args.self (omega arith) (omega arith))

pub overflow_add-result-3 : goal.overflow_add-result-3
overflow_add-result-3 c = omega (arith, rows-far c.args.self (omega arith) (omega arith))

pub returns : goal.returns
unfolding in_file
returns c = refl
