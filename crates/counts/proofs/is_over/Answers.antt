-- `counts::is_over` meets its contract: a count is a number of 32 bits, and not over one that is larger.
-- Assumes nothing.
use Prim.Native.Nat.{ℕ, ◌≤◌, min}
use mathlib.Core.Path.{◌≡◌, refl, sym, ap, ◌∙◌}
use mathlib.Core.Bool.{Bool, true, false}
use native.Mathlib.Omega.{arith}
use lib.Dec.{ltb}
use borrow.Author.Tests.{lt-ltb, le-ltb, ltb-true, ltb-false}
use Rattle.counts.proofs.is_over.Goals as goal

over-least : (most count : ℕ) → count ≤ 4294967295 → ltb (min most 4294967295) count ≡ ltb most count
over-least most count fits = by-test (ltb most count) refl
  where
    by-test : (t : Bool) → ltb most count ≡ t → ltb (min most 4294967295) count ≡ ltb most count
    by-test true over =
        let less = ltb-true most count over in
        lt-ltb (min most 4294967295) count (omega (arith, less)) ∙ sym over
    by-test false under =
        let more = ltb-false most count under in
        le-ltb (min most 4294967295) count (omega (arith, more)) ∙ sym under

pub overflow_cast-result : goal.overflow_cast-result
overflow_cast-result c = omega (arith, c.min.ensures)

pub returns : goal.returns
returns c = ap (λ (n : ℕ). ltb n c.args.count) c.min.ensures ∙ over-least c.args.most c.args.count (omega (arith, c.ranges.count))
