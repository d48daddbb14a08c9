use Prim.Native.Nat.{ℕ, ◌+◌, ◌<◌}
use mathlib.Core.Path.{◌≡◌, refl}
use native.Mathlib.Omega.{arith}
use Rattle.words.specs.Word.{word_to, word_of}
use Rattle.fonts.specs.Face.{dots_of}
use Rattle.words.proofs.Bits.{one-bit-more, one-bit-fits}
use Rattle.fonts.proofs.Dots.{dot-bit, dots_from}
use Rattle.fonts.proofs.Glyph.dots.Goals as goal

pub loop-i-init : goal.loop-i-init
unfolding word_to
loop-i-init c = (omega arith, refl)

pub overflow_mul-word : goal.overflow_mul-word
overflow_mul-word c =
    let a = c.args in
    let f = dots_from a.font.now a.self a.row a.column in
    let bits : (k : ℕ) → f k < 2 = λ k. dot-bit a.font.now a.self a.row (a.column + k) in
    omega (arith, one-bit-fits f bits c.loop-i.i c.loop-i.word (f c.loop-i.i) (omega arith) c.loop-i.invariant.1 refl)

pub overflow_add-word : goal.overflow_add-word
overflow_add-word c =
    let a = c.args in
    let f = dots_from a.font.now a.self a.row a.column in
    let bits : (k : ℕ) → f k < 2 = λ k. dot-bit a.font.now a.self a.row (a.column + k) in
    record { fits = one-bit-fits f bits c.loop-i.i c.loop-i.word c.dot.result (omega arith) c.loop-i.invariant.1 c.dot.ensures }

pub loop-i-preserved : goal.loop-i-preserved
loop-i-preserved c =
    let a = c.args in
    let f = dots_from a.font.now a.self a.row a.column in
    (omega arith, one-bit-more f c.loop-i.i c.loop-i.word c.dot.result c.loop-i.invariant.1 c.dot.ensures)

pub returns : goal.returns
unfolding dots_of word_of
returns c =
    let e : c.loop-i.i ≡ 16 = omega arith in
    rw e at c.loop-i.invariant.1
