-- `counts::LabelCall::rows` meets its contract: each of its numbers is the definition's, by the calls' contracts in turn.
-- Assumes nothing.
use Prim.Native.Nat.{ℕ, ◌+◌, ◌-◌, min}
use mathlib.Core.Path.{◌≡◌, ap, ap₂, ◌∙◌}
use native.Mathlib.Omega.{arith}
use mir.Facts.{to_z-of_z}
use Rattle.words.specs.Place.{place_of}
use Rattle.words.proofs.Signs.{place-le}
use Rattle.fonts.specs.declared.Extent.{Extent}
use Rattle.fonts.specs.Strike.{extent_of}
use Rattle.counts.specs.Band.{first_row, end_row, rows_reached}
use Rattle.counts.proofs.LabelCall.rows.Goals as goal
use Rattle.counts.proofs.LabelCall.rows.Goals.{After-place_of-y}

placed : (c : After-place_of-y) → c.place_of-y.result ≡ place_of c.args.self.now.label.y
placed c = grind (arith, to_z-of_z)

pub overflow_add-below : goal.overflow_add-below
overflow_add-below c = omega (arith, placed (goal.at.overflow_add-below c).After-place_of-y, place-le c.args.self.now.label.y)

pub overflow_add-below-2 : goal.overflow_add-below-2
overflow_add-below-2 c = omega (arith, placed (goal.at.overflow_add-below-2 c).After-place_of-y, place-le c.args.self.now.label.y)

pub returns : goal.returns
unfolding rows_reached
returns c =
    let l = c.args.self.now in
    let extent = extent_of l.view l.font.now in
    let y = placed (goal.at.returns c).After-place_of-y in
    let e = c.rows_in_all-e.ensures in
    let first : c.min-first.result ≡ first_row extent l.shape l.label =
    c.min-first.ensures
    ∙ ap (min l.shape.rows) (c.saturating_sub.ensures ∙ ap₂ (λ (y : ℕ) (e : Extent). y - (2048 + e.above)) y e) in
    let end : c.min-end.result ≡ end_row extent l.shape l.label =
    c.min-end.ensures
    ∙ ap (min l.shape.rows)
    (c.saturating_sub-2.ensures ∙ ap₂ (λ (y : ℕ) (e : Extent). y + e.above + e.below - (2048 + e.above)) y e) in
    let count = c.saturating_sub-3.ensures ∙ ap₂ (λ (m n : ℕ). m - n) end first in
    λ i. record { first = first i; count = count i }
