-- `words::bit` meets its contract: past 15 the definition shifts by nothing.
-- Assumes nothing.
use mathlib.Core.Path.{◌≡◌, sym, ap}
use Prim.Native.Nat.{ℕ, ◌-◌, ◌%◌}
use native.Mathlib.Nat.{div-one}
use native.Mathlib.Omega.{arith}
use Rattle.words.specs.Word.{bit_of}
use borrow.Author.Rules.{rules}
use Rattle.words.proofs.bit.Goals as goal

pub returns-then-j-gt15 : goal.returns-then-j-gt15
unfolding bit_of
returns-then-j-gt15 c =
    let e : 15 - c.args.j ≡ 0 = omega arith in
    rw (e) (ap (λ (n : ℕ). n % 2) (sym (div-one _)))

pub returns : goal.returns
unfolding bit_of
returns c = search rules
