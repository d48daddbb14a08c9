-- `convert::cu::frame_from` meets its contract, field by field: in a file of good size every row and column found is at most 256.
-- Assumes nothing.
use Prim.Native.Nat.{ℕ, ◌+◌, ◌-◌, ◌%◌, ◌≤◌}
use mathlib.Core.Path.{ap, ap₂, ◌∙◌}
use native.Mathlib.Omega.{arith}
use Rattle.convert.specs.Cu.{first_in_row, frame_from}
use Rattle.convert.proofs.Measured.{lowest-few, first-few, leftmost-few, rightmost-few, top-few, bottom-few}
use Rattle.convert.proofs.cu.frame_from.Goals as goal
use Rattle.convert.proofs.cu.frame_from.Goals.{After-saturating_sub, After-saturating_sub-2, After-top-first}

row-few : (c : After-top-first) → c.lowest_of-row.result ≤ 128
row-few c = omega (arith, c.lowest_of-row.ensures, lowest-few c.args.cu.now c.requires c.args.place)

origin-few : (c : After-top-first) → c.first_in_row-origin.result ≤ 256
origin-few c =
    omega
    (arith, c.first_in_row-origin.ensures, first-few c.args.cu.now c.requires c.args.place c.lowest_of-row.result)

left-few : (c : After-top-first) → c.leftmost-left.result ≤ 256
left-few c = omega (arith, c.leftmost-left.ensures, leftmost-few c.args.cu.now c.requires)

first-row-few : (c : After-top-first) → c.top-first.result ≤ 128
first-row-few c = omega (arith, c.top-first.ensures, top-few c.args.cu.now c.requires)

pub overflow_cast-result : goal.overflow_cast-result
overflow_cast-result c = omega (arith, origin-few (goal.at.overflow_cast-result c).After-top-first)

pub overflow_cast-result-2 : goal.overflow_cast-result-2
overflow_cast-result-2 c = omega (arith, left-few (goal.at.overflow_cast-result-2 c).After-top-first)

pub overflow_cast-result-3 : goal.overflow_cast-result-3
overflow_cast-result-3 c = omega (arith, first-row-few (goal.at.overflow_cast-result-3 c).After-top-first)

pub fbbox-requires : goal.fbbox-requires
fbbox-requires c = (left-few (goal.at.fbbox-requires c).After-top-first, origin-few (goal.at.fbbox-requires c).After-top-first)

wide-few : (c : After-saturating_sub) → c.saturating_sub.result ≤ 256
wide-few c =
    omega (arith, c.saturating_sub.ensures, c.rightmost.ensures, rightmost-few c.args.cu.now c.requires)

pub overflow_add-result : goal.overflow_add-result
overflow_add-result c = omega (arith, wide-few (goal.at.overflow_add-result c).After-saturating_sub)

pub overflow_cast-result-4 : goal.overflow_cast-result-4
overflow_cast-result-4 c = omega (arith, wide-few (goal.at.overflow_cast-result-4 c).After-saturating_sub)

row-few-above : (c : After-saturating_sub-2) → c.lowest_of-row.result ≤ 128
row-few-above c = omega (arith, c.lowest_of-row.ensures, lowest-few c.args.cu.now c.requires c.args.place)

above-few : (c : After-saturating_sub-2) → c.saturating_sub-2.result ≤ 128
above-few c = omega (arith, c.saturating_sub-2.ensures, row-few-above c)

pub overflow_add-result-2 : goal.overflow_add-result-2
overflow_add-result-2 c = omega (arith, above-few (goal.at.overflow_add-result-2 c).After-saturating_sub-2)

pub overflow_cast-result-5 : goal.overflow_cast-result-5
overflow_cast-result-5 c = omega (arith, above-few (goal.at.overflow_cast-result-5 c).After-saturating_sub-2)

pub overflow_cast-result-6 : goal.overflow_cast-result-6
overflow_cast-result-6 c = omega (arith, c.saturating_sub-3.ensures, c.bottom.ensures, bottom-few c.args.cu.now c.requires)

pub returns : goal.returns
unfolding frame_from
returns c =
    let place = c.args.place in
    let row = c.lowest_of-row.ensures in
    let origin = c.first_in_row-origin.ensures ∙ ap (first_in_row c.args.cu.now place) row in
    let left = c.leftmost-left.ensures in
    let first = c.top-first.ensures in
    let box = c.fbbox.ensures ∙ ap₂ (λ (l o : ℕ). (65536 + l - o) % 65536) left origin in
    let right = c.rightmost.ensures in
    let wide = c.saturating_sub.ensures ∙ ap₂ (λ (r l : ℕ). r - l) right left in
    let above = c.saturating_sub-2.ensures ∙ ap₂ (λ (r t : ℕ). r - t) row first in
    let below = c.saturating_sub-3.ensures ∙ ap₂ (λ (b r : ℕ). b - r) c.bottom.ensures row in
    λ i. record {
      origin = origin i;
      left = left i;
      top = first i;
      fbbox = box i;
      fbbdx = wide i + 1;
      ascent = above i + 1;
      descent = below i;
    }
