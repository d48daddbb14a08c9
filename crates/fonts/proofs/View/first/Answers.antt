-- `fonts::View::first` meets its contract.
-- Assumes nothing.
use Prim.Native.Nat.{◌+◌}
use Rattle.fonts.specs.Strike.{first_strike}
use Rattle.fonts.proofs.View.first.Goals as goal

pub returns : goal.returns
unfolding first_strike
returns c =
    let v = c.args.self in
    (λ i. record { bitmap = c.first_at.ensures.value i + 5; body = v.body })
