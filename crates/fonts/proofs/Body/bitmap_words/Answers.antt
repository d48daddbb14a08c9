-- `fonts::Body::bitmap_words` meets its contract: a word times a sum of two words is at most 65,535 × 131,070.
-- Assumes nothing.
use native.Mathlib.Omega.{arith}
use native.Mathlib.Nat.{mul-le-mul}
use Prim.Native.Nat.{ℕ, ◌*◌, ◌≤◌}
use mathlib.Core.Path.{ap}
use Rattle.fonts.proofs.Body.bitmap_words.Goals as goal
use Rattle.fonts.proofs.Body.bitmap_words.Goals.{After-height}

product : (c : After-height) → c.args.self.raster * c.height.result ≤ 8589672450
product c = mul-le-mul {n₂ = 65535} {m₂ = 131070} (omega arith) (omega arith)

pub overflow_mul-result : goal.overflow_mul-result
overflow_mul-result c = omega (arith, product (goal.at.overflow_mul-result c).After-height)

pub returns : goal.returns
returns c = record {
  value = ap (λ (n : ℕ). c.args.self.raster * n) c.height.ensures.value;
  small =
      product (goal.at.returns c).After-height;
}
