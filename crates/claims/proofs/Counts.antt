-- What calls with counts leave holds of the definitions: antt computes both sides of each table. A panel after a call is computed once, and
-- then the counts of it.
use Prim.Native.Nat.{ℕ}
use mathlib.Core.Path.{◌≡◌, refl, ap, ap₂, ◌∙◌}
use mathlib.Core.List.{List, [], ◌∷◌, map}
use Rattle.counts.specs.Lit.{Counted, counted_of}
use Rattle.counts.specs.Calls.{plain_number, plain_after, counted_by}
use Rattle.claims.specs.Counts.{Row, painted, refused_painting, lost_painting, cleared, applied, spare_applied, count_limits, lit_dots}
use Rattle.claims.proofs.Compute.{computing}
use Rattle.claims.proofs.Tables.{Hold}

-- every call of a table leaves what its row says
abbrev pub AllLeft : List Row → Type 0
AllLeft rows = map (λ (r : Row). counted_by r.shape r.call r.panel r.counts) rows ≡ map (λ (r : Row). r.left) rows

abbrev numbers : List Row → List ℕ
numbers rows = map (λ (r : Row). plain_number r.shape r.call r.panel) rows

abbrev panels : List Row → List (List ℕ)
panels rows = map (λ (r : Row). plain_after r.shape r.call r.panel) rows

-- the counts, where the numbers and the panels are given
abbrev counting : List Row → List ℕ → List (List ℕ) → List Counted
counting [] ns ps = []
counting (r ∷ rows) [] ps = []
counting (r ∷ rows) (n ∷ ns) [] = []
counting (r ∷ rows) (n ∷ ns) (p ∷ ps) = counted_of r.shape n r.panel p r.counts ∷ counting rows ns ps

in-two-steps : (rows : List Row) → map (λ (r : Row). counted_by r.shape r.call r.panel r.counts) rows
    ≡ counting rows (numbers rows) (panels rows)
in-two-steps [] = refl
in-two-steps (r ∷ rows) =
    ap (λ (cs : List Counted). counted_by r.shape r.call r.panel r.counts ∷ cs) (in-two-steps rows)

pub all_left : (rows : List Row) → numbers rows ≡ map (λ (r : Row). r.own) rows → panels rows ≡ map (λ (r : Row). r.after) rows
    → counting rows (map (λ (r : Row). r.own) rows) (map (λ (r : Row). r.after) rows) ≡ map (λ (r : Row). r.left) rows → AllLeft rows
all_left rows same_numbers same-panels counted = in-two-steps rows ∙ ap₂ (counting rows) same_numbers same-panels ∙ counted

pub painted-left : AllLeft painted
unfolding computing
painted-left = all_left painted refl refl refl

pub refused-left : AllLeft refused_painting
unfolding computing
refused-left = all_left refused_painting refl refl refl

pub lost-left : AllLeft lost_painting
unfolding computing
lost-left = all_left lost_painting refl refl refl

pub cleared-left : AllLeft cleared
unfolding computing
cleared-left = all_left cleared refl refl refl

pub applied-left : AllLeft applied
unfolding computing
applied-left = all_left applied refl refl refl

pub spare-left : AllLeft spare_applied
unfolding computing
spare-left = all_left spare_applied refl refl refl

-- the limits of a count, and the lit dots of some strips
pub limits-hold : Hold count_limits
unfolding Hold computing
limits-hold = refl

pub lit-hold : Hold lit_dots
unfolding Hold computing
lit-hold = refl
