-- `convert::Layout::bitmap_words` meets its contract: the product of two numbers of 32 bits is so far below 2⁶⁴ that codes still fit
-- behind it.
use Prim.Native.Nat.{◌*◌, ◌≤◌}
use native.Mathlib.Omega.{arith}
use native.Mathlib.Nat.{mul-le-mul}
use Rattle.convert.proofs.Layout.bitmap_words.Goals as goal
use Rattle.convert.proofs.Layout.bitmap_words.Goals.{Start}

product : (c : Start) → c.args.self.raster * c.args.self.rows ≤ 18446744065119617025
product c = mul-le-mul {n₂ = 4294967295} {m₂ = 4294967295} (omega arith) (omega arith)

pub overflow_mul-result : goal.overflow_mul-result
overflow_mul-result c = omega (arith, product (goal.at.overflow_mul-result c).Start)

pub returns-clause-small : goal.returns-clause-small
returns-clause-small c = product (goal.at.returns-clause-small c).Start
