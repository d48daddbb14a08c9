-- Every limit, and the order of the refusals, holds of the definitions: antt computes both sides of the table.
use mathlib.Core.Path.{◌≡◌, refl}
use mathlib.Core.List.{map}
use Rattle.claims.proofs.Tables.{Hold, both_hold}
use Rattle.claims.specs.Limits.{font_limits, call_limits, cu_limits, writing_limits, label_order, conversion_order, limits}
use Rattle.claims.proofs.Compute.{computing}

fonts-hold : Hold font_limits
unfolding Hold computing
fonts-hold = refl

calls-hold : Hold call_limits
unfolding Hold computing
calls-hold = refl

cu-holds : Hold cu_limits
unfolding Hold computing
cu-holds = refl

writing-holds : Hold writing_limits
unfolding Hold computing
writing-holds = refl

label-order-holds : Hold label_order
unfolding Hold computing
label-order-holds = refl

conversion-order-holds : Hold conversion_order
unfolding Hold computing
conversion-order-holds = refl

all_hold : Hold limits
unfolding limits
all_hold =
    both_hold _ _
    (both_hold _ _ (both_hold _ _ (both_hold _ _ (both_hold _ _ fonts-hold calls-hold) cu-holds) writing-holds) label-order-holds)
    conversion-order-holds

pub limits-hold : map (λ r. r.0) limits ≡ map (λ r. r.1) limits
unfolding Hold
limits-hold = all_hold
