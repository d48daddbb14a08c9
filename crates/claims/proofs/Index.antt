-- What fonts with an index show, paint and are refused for holds of the definitions: antt computes both sides of each table.
use mathlib.Core.Path.{◌≡◌, refl}
use mathlib.Core.List.{[], ◌∷◌}
use Rattle.fonts.specs.Reading.{font_number}
use Rattle.fonts.specs.Face.{row_of}
use Rattle.claims.specs.Fonts.{holds}
use Rattle.claims.specs.Index.{plain_pictures, plain_rows, plain_measures, kerned_pictures, kerned_seen}
use Rattle.claims.specs.Index.{across_bodies, shared_painted, on_sheets, kerned_painted, small_painted}
use Rattle.claims.specs.Index.{front_limits, count_limits, before_bodies, size_limits, length_limits, pointer_limits}
use Rattle.claims.specs.Index.{body_by_body, name_limits, dummy_limits, unread}
use Rattle.claims.specs.Index.{limit_pictures, dot_limits, limit_seen}
use Rattle.claims.specs.Index.{plain_order, kerned_order, call_order}
use Rattle.claims.specs.Index.{many_bodies, many_limits, many_seen, many_pictures, large_limits, large_dots, large_rows}
use Rattle.claims.specs.Index.{counted, kerned_counted}
use Rattle.claims.proofs.Compute.{computing}
use Rattle.claims.proofs.Tables.{Hold}
use Rattle.claims.proofs.Counts.{AllLeft, all_left}

-- What the codes of the two fonts show, and rows and measures of them
pub plain-pictures-hold : Hold plain_pictures
unfolding Hold computing
plain-pictures-hold = refl

pub plain-rows-hold : Hold plain_rows
unfolding Hold computing
plain-rows-hold = refl

pub plain-measures-hold : Hold plain_measures
unfolding Hold computing
plain-measures-hold = refl

pub kerned-pictures-hold : Hold kerned_pictures
unfolding Hold computing
kerned-pictures-hold = refl

pub kerned-seen-hold : Hold kerned_seen
unfolding Hold computing
kerned-seen-hold = refl

-- labels across bodies
pub across-bodies-hold : Hold across_bodies
unfolding Hold computing
across-bodies-hold = refl

pub shared-painted-hold : Hold shared_painted
unfolding Hold computing
shared-painted-hold = refl

pub on-sheets-hold : Hold on_sheets
unfolding Hold computing
on-sheets-hold = refl

pub kerned-painted-hold : Hold kerned_painted
unfolding Hold computing
kerned-painted-hold = refl

pub small-painted-hold : Hold small_painted
unfolding Hold computing
small-painted-hold = refl

-- the limits of the refusals
pub front-limits-hold : Hold front_limits
unfolding Hold computing
front-limits-hold = refl

pub count-limits-hold : Hold count_limits
unfolding Hold computing
count-limits-hold = refl

pub before-bodies-hold : Hold before_bodies
unfolding Hold computing
before-bodies-hold = refl

pub size-limits-hold : Hold size_limits
unfolding Hold computing
size-limits-hold = refl

pub length-limits-hold : Hold length_limits
unfolding Hold computing
length-limits-hold = refl

pub pointer-limits-hold : Hold pointer_limits
unfolding Hold computing
pointer-limits-hold = refl

pub body-by-body-hold : Hold body_by_body
unfolding Hold computing
body-by-body-hold = refl

pub name-limits-hold : Hold name_limits
unfolding Hold computing
name-limits-hold = refl

pub dummy-limits-hold : Hold dummy_limits
unfolding Hold computing
dummy-limits-hold = refl

pub unread-hold : Hold unread
unfolding Hold computing
unread-hold = refl

-- what is seen at these limits
pub limit-pictures-hold : Hold limit_pictures
unfolding Hold computing
limit-pictures-hold = refl

pub dot-limits-hold : Hold dot_limits
unfolding Hold computing
dot-limits-hold = refl

pub limit-seen-hold : Hold limit_seen
unfolding Hold computing
limit-seen-hold = refl

-- the order
pub plain-order-hold : Hold plain_order
unfolding Hold computing
plain-order-hold = refl

pub kerned-order-hold : Hold kerned_order
unfolding Hold computing
kerned-order-hold = refl

pub call-order-hold : Hold call_order
unfolding Hold computing
call-order-hold = refl

-- many bodies, and large ones: a font of 128 bodies is as much as one declaration may compute
all_there : font_number (many_bodies 128) ≡ 0
unfolding computing
all_there = refl

one_fewer : font_number (many_bodies 127) ≡ 16
unfolding computing
one_fewer = refl

pub many-limits-hold : Hold many_limits
unfolding Hold many_limits
many-limits-hold = λ i. all_there i ∷ one_fewer i ∷ []

last_row : row_of (many_bodies 128) 127 0 ≡ 0x8000 ∷ []
unfolding computing
last_row = refl

past-the-last : row_of (many_bodies 128) 128 0 ≡ []
unfolding computing
past-the-last = refl

pub many-seen-hold : Hold many_seen
unfolding Hold many_seen
many-seen-hold = λ i. holds (last_row i) ∷ holds (past-the-last i) ∷ []

pub many-pictures-hold : Hold many_pictures
unfolding Hold computing
many-pictures-hold = refl

pub large-limits-hold : Hold large_limits
unfolding Hold computing
large-limits-hold = refl

pub large-dots-hold : Hold large_dots
unfolding Hold computing
large-dots-hold = refl

pub large-rows-hold : Hold large_rows
unfolding Hold computing
large-rows-hold = refl

-- labels painted with counts
pub counted-left : AllLeft counted
unfolding computing
counted-left = all_left counted refl refl refl

pub kerned-counted-left : AllLeft kerned_counted
unfolding computing
kerned-counted-left = all_left kerned_counted refl refl refl
