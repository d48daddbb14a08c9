-- `counts::most_lit` meets its contract: the product of two numbers of 32 bits fits 64.
-- Assumes nothing.
use native.Mathlib.Omega.{arith}
use Rattle.counts.proofs.Moves.{product}
use Rattle.counts.proofs.most_lit.Goals as goal

pub overflow_mul-result : goal.overflow_mul-result
overflow_mul-result c = let s = c.args.s in omega (arith, product s.width s.rows (omega arith) (omega arith))
