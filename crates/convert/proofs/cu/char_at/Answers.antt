-- A character ends within the file, so its place fits.
use Prim.Native.Nat.{ℕ, ◌+◌, ◌*◌, ◌≤◌}
use mathlib.Core.Path.{ap}
use native.Mathlib.Omega.{arith}
use lib.ListN.{length}
use Rattle.convert.specs.Cu.{char_at}
use Rattle.convert.proofs.Chars.{char-within}
use Rattle.convert.proofs.cu.char_at.Goals as goal
use Rattle.convert.proofs.cu.char_at.Goals.{After-char_words}

within : (c : After-char_words) → 2 + c.args.k * c.char_words.result ≤ length c.args.cu.now
unfolding char_at
within c =
    let same = ap (λ (n : ℕ). c.args.k * n) c.char_words.ensures.value in
    let ends = char-within c.args.cu.now c.args.k c.requires in
    omega arith

pub overflow_mul-result : goal.overflow_mul-result
overflow_mul-result c = omega (arith, within (goal.at.overflow_mul-result c).After-char_words)

pub overflow_add-result : goal.overflow_add-result
overflow_add-result c = omega (arith, within (goal.at.overflow_add-result c).After-char_words)

pub returns : goal.returns
unfolding char_at
returns c = ap (λ (n : ℕ). 2 + c.args.k * n) c.char_words.ensures.value
