-- `words::put_bit` meets its contract: the one dot is painted where b is odd, and erased where it is even.
-- Assumes nothing.
use mathlib.Core.Path.{ap, ◌∙◌}
use native.Mathlib.Omega.{arith}
use Rattle.words.specs.declared.Effect.{Effect}
use Rattle.words.specs.Effect.{apply_to}
use Rattle.words.proofs.OneBit.{unput, painted, erased}
use Rattle.words.proofs.put_bit.Goals as goal

pub returns-then-j-gt15 : goal.returns-then-j-gt15
returns-then-j-gt15 c = unput c.args.w c.args.j c.args.b c.ranges.w.fits (omega arith)

pub returns-then-b-eq1 : goal.returns-then-b-eq1
returns-then-b-eq1 c =
    let a = c.args in
    c.apply.ensures ∙ ap (λ (e : Effect). apply_to e a.w) c.paint.ensures ∙ painted a.w a.j a.b (omega arith) (omega arith) (omega arith)

pub returns : goal.returns
returns c =
    let a = c.args in
    c.apply-2.ensures ∙ ap (λ (e : Effect). apply_to e a.w) c.erase.ensures ∙ erased a.w a.j a.b (omega arith) (omega arith) (omega arith)
