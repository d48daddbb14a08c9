-- `paint::Reach::over` meets its contract, field by field.
-- Assumes nothing.
use Prim.Native.Nat.{ℕ, ◌*◌, ◌≤◌}
use native.Mathlib.Nat.{mul-le-mul}
use native.Mathlib.Omega.{arith}
use Rattle.paint.specs.Reach.{reach_over}
use Rattle.paint.proofs.Reach.over.Goals as goal
use Rattle.paint.proofs.Reach.over.Goals.{After-struct_known-6-1}

-- rows of the panel, and of a strike
panel-far : (row rowwords : ℕ) → row ≤ 256 → rowwords ≤ 128 → row * rowwords ≤ 32768
panel-far row rowwords h k = mul-le-mul {n₂ = 256} {m₂ = 128} h k

strike-far : (row raster : ℕ) → row ≤ 67839 → raster ≤ 65535 → row * raster ≤ 4445828865
strike-far row raster h k = mul-le-mul {n₂ = 67839} {m₂ = 65535} h k

rows-far : (c : After-struct_known-6-1) → c.first_row-row.result * c.args.k.rowwords ≤ 32768
rows-far c = panel-far c.first_row-row.result c.args.k.rowwords (omega arith) (omega arith)

pub overflow_mul-result : goal.overflow_mul-result
overflow_mul-result c = omega (arith, rows-far (goal.at.overflow_mul-result c).After-struct_known-6-1)

pub overflow_add-result : goal.overflow_add-result
overflow_add-result c = omega (arith, rows-far (goal.at.overflow_add-result c).After-struct_known-6-1)

pub overflow_mul-result-2 : goal.overflow_mul-result-2
overflow_mul-result-2 c =
    let g = c.args.g in
    omega (arith, strike-far c.saturating_sub-2.result g.raster (omega arith) (omega arith))

pub overflow_add-result-2 : goal.overflow_add-result-2
overflow_add-result-2 c =
    let g = c.args.g in
    omega (arith, strike-far c.saturating_sub-2.result g.raster (omega arith) (omega arith))

pub returns : goal.returns
unfolding reach_over
returns c =
    let g = c.args.g in
    let rows = strike-far c.saturating_sub-2.result g.raster (omega arith) (omega arith) in
    record { value = cc; near = (omega (arith, rows), omega arith, omega arith) }
