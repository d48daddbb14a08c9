-- `counts::Band::of` meets its contract, field by field, by the strip's columns.
-- Assumes nothing.
use Prim.Native.Nat.{ℕ, ◌+◌, ◌-◌, ◌*◌, ◌/◌, ◌≤◌}
use mathlib.Core.Path.{◌≡◌, ap, ◌∙◌}
use native.Mathlib.Nat.{mul-le-mul}
use native.Mathlib.Omega.{arith}
use Rattle.paint.specs.declared.Strip.{Strip}
use Rattle.paint.specs.Reach.{from_column, upto_column}
use Rattle.counts.specs.Band.{band_of}
use Rattle.counts.proofs.Band.of.Goals as goal
use Rattle.counts.proofs.Band.of.Goals.{After-of-strip, After-upto_column}

from_is : (o : After-of-strip) → o.of-strip.result.from ≡ o.args.k * o.args.s.width
from_is o = ap (λ (t : Strip). t.from) o.of-strip.ensures

upto_is : (o : After-of-strip) → o.of-strip.result.upto ≡ o.args.k * o.args.s.width + o.args.s.width
upto_is o = ap (λ (t : Strip). t.upto) o.of-strip.ensures

pub overflow_sub-end : goal.overflow_sub-end
overflow_sub-end c = omega (arith, upto_is (goal.at.overflow_sub-end c).After-of-strip, c.requires.1)

pub overflow_sub-result : goal.overflow_sub-result
overflow_sub-result c =
    let o = (goal.at.overflow_sub-result c).After-of-strip in omega (arith, upto_is o, from_is o, c.requires.1)

-- the place of a row's first word
low : (c : After-upto_column) → (c.args.row * c.args.s.rowwords ≤ 1099511627520)
low c =
    mul-le-mul {n₂ = 256} {m₂ = 4294967295} c.requires.0 (omega arith)

pub overflow_mul-result : goal.overflow_mul-result
overflow_mul-result c = omega (arith, low (goal.at.overflow_mul-result c).After-upto_column)

pub overflow_add-result : goal.overflow_add-result
overflow_add-result c = omega (arith, low (goal.at.overflow_add-result c).After-upto_column)

pub returns : goal.returns
unfolding band_of
returns c =
    let s = c.args.s in
    let strip = c.of-strip.ensures in
    let head = c.from_column.ensures ∙ ap from_column (from_is (goal.at.returns c).After-of-strip) in
    let tail = c.upto_column.ensures ∙ ap (λ (n : ℕ). upto_column (n - 1)) (upto_is (goal.at.returns c).After-of-strip) in
    λ i. record {
      rows = c.args.rows;
      last = ((strip i).upto - 1) / 16 - (strip i).from / 16;
      head = head i;
      tail = tail i;
      at = c.args.row * s.rowwords + (strip i).from / 16;
      rowwords = s.rowwords;
    }
