-- `replay::text::Output::put_hexadecimal` puts a figure or a letter.
use Prim.Native.Nat.{◌+◌, ◌-◌}
use mathlib.Core.Path.{◌≡◌, ap, ◌∙◌}
use native.Mathlib.Omega.{arith}
use Rattle.words.proofs.Chain.{chain}
use Rattle.replay.proofs.Putting.{one_byte}
use Rattle.replay.specs.Text.{with_byte, digit_of}
use Rattle.replay.proofs.text.Output.put_hexadecimal.Goals as goal

pub returns-then-digit-lt10 : goal.returns-then-digit-lt10
unfolding digit_of
returns-then-digit-lt10 g c =
    let is : 48 + c.args.digit ≡ digit_of c.args.digit = search chain depth 20 in
    one_byte _ _ (c.put.ensures ∙ ap (with_byte c.args.self.now) is)

pub returns-else-digit-lt10 : goal.returns-else-digit-lt10
unfolding digit_of
returns-else-digit-lt10 g c =
    let letter : 65 + (c.args.digit - 10) ≡ 55 + c.args.digit = omega arith in
    let is : 55 + c.args.digit ≡ digit_of c.args.digit = search chain depth 20 in
    one_byte _ _ (c.put-else-digit-lt10.ensures ∙ ap (with_byte c.args.self.now) (letter ∙ is))
