-- `convert::cu::dot` meets its contract: the product of a row's number and a word is far from wrapping.
-- Assumes nothing.
use Prim.Native.Nat.{ℕ, ◌+◌, ◌*◌, ◌/◌, ◌%◌, ◌≤◌}
use mathlib.Core.Path.{◌≡◌, ap, ◌∙◌}
use native.Mathlib.Nat.{mul-le-mul}
use native.Mathlib.Omega.{arith}
use Rattle.words.specs.Word.{word, bit_of}
use Rattle.convert.specs.Cu.{raster_dot, row_words}
use Rattle.convert.proofs.cu.dot.Goals as goal
use Rattle.convert.proofs.cu.dot.Goals.{After-word_at}

product : (c : After-word_at) → c.args.i * c.word_at.result ≤ 281470681677825
product c = mul-le-mul {n₂ = 4294967295} {m₂ = 65535} (omega arith) (omega arith)

pub overflow_mul-row : goal.overflow_mul-row
overflow_mul-row c = omega (arith, product (goal.at.overflow_mul-row c).After-word_at)

pub overflow_add-row : goal.overflow_add-row
overflow_add-row c = omega (arith, product (goal.at.overflow_add-row c).After-word_at)

pub overflow_add-row-2 : goal.overflow_add-row-2
overflow_add-row-2 c = omega (arith, product (goal.at.overflow_add-row-2 c).After-word_at)

pub returns : goal.returns
unfolding raster_dot row_words
returns c =
    let row : 2 + c.args.i * c.word_at.result + c.args.j / 16 ≡ 2 + c.args.i * word c.args.cu.now 1 + c.args.j / 16 = cc in
    let at : c.args.place + (2 + c.args.i * word c.args.cu.now 1 + c.args.j / 16)
    ≡ c.args.place + 2 + c.args.i * word c.args.cu.now 1 + c.args.j / 16 = omega arith in
    c.bit.ensures ∙ ap (λ (w : ℕ). bit_of w (c.args.j % 16)) (c.word_past.ensures
    ∙ ap (λ (k : ℕ). word c.args.cu.now k) (ap (λ (k : ℕ). c.args.place + k) row ∙ at))
