-- `paint::Shape::panel_words` meets its contract: two numbers below 2^32 have a product below 2^64.
-- Assumes nothing.
use native.Mathlib.Nat.{mul-le-mul}
use native.Mathlib.Omega.{arith}
use Rattle.paint.proofs.Shape.panel_words.Goals as goal

pub overflow_mul-result : goal.overflow_mul-result
overflow_mul-result c =
    let s = c.args.self in
    let small = mul-le-mul {n₁ = s.rowwords} {m₁ = s.rows} {n₂ = 4294967295} {m₂ = 4294967295} (omega arith) (omega arith) in
    omega (arith, small)
