-- `convert::cu::char_words` meets its contract: the product of two words is far from wrapping.
-- Assumes nothing.
use Prim.Native.Nat.{◌*◌, ◌≤◌}
use native.Mathlib.Nat.{mul-le-mul}
use native.Mathlib.Omega.{arith}
use Rattle.convert.proofs.cu.char_words.Goals as goal
use Rattle.convert.proofs.cu.char_words.Goals.{After-word_at-2}

product : (c : After-word_at-2) → c.word_at.result * c.word_at-2.result ≤ 4294836225
product c = mul-le-mul {n₂ = 65535} {m₂ = 65535} (omega arith) (omega arith)

pub overflow_mul-result : goal.overflow_mul-result
overflow_mul-result c = omega (arith, product (goal.at.overflow_mul-result c).After-word_at-2)

pub overflow_add-result : goal.overflow_add-result
overflow_add-result c = omega (arith, product (goal.at.overflow_add-result c).After-word_at-2)
