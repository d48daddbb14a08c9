-- What is painted and gathered at the edges holds of the definitions: antt computes both sides of the table.
use mathlib.Core.Path.{◌≡◌, refl}
use mathlib.Core.List.{map}
use Rattle.claims.specs.Edges.{one_wide, fifteen_wide, sixteen_wide, seventeen_wide, thirty_three_wide, two_rows, on_sheets, edges}
use Rattle.claims.proofs.Compute.{computing}
use Rattle.claims.proofs.Tables.{Hold, both_hold}

one-hold : Hold one_wide
unfolding Hold computing
one-hold = refl

fifteen-hold : Hold fifteen_wide
unfolding Hold computing
fifteen-hold = refl

sixteen-hold : Hold sixteen_wide
unfolding Hold computing
sixteen-hold = refl

seventeen-hold : Hold seventeen_wide
unfolding Hold computing
seventeen-hold = refl

thirty-three-hold : Hold thirty_three_wide
unfolding Hold computing
thirty-three-hold = refl

two-rows-hold : Hold two_rows
unfolding Hold computing
two-rows-hold = refl

on-sheets-hold : Hold on_sheets
unfolding Hold computing
on-sheets-hold = refl

all_hold : Hold edges
unfolding edges
all_hold =
    both_hold _ _
    (both_hold _ _ (both_hold _ _ (both_hold _ _ (both_hold _ _ (both_hold _ _ one-hold fifteen-hold) sixteen-hold) seventeen-hold)
    thirty-three-hold) two-rows-hold)
    on-sheets-hold

pub edges-hold : map (λ c. c.0) edges ≡ map (λ c. c.1) edges
unfolding Hold
edges-hold = all_hold
