-- Two strips share no column.
use Prim.Native.Nat.{ℕ, ◌+◌, ◌*◌, ◌<◌, ◌≤◌}
use mathlib.Core.Path.{◌≡◌, refl, ap, ◌∙◌}
use mathlib.Core.Bool.{Bool, true, false}
use native.Mathlib.Nat.{suc-mul, mul-le-mul_right}
use native.Mathlib.Numerals.{add-one}
use native.Mathlib.Omega.{arith}
use lib.Dec.{leb, ltb}
use borrow.Author.Tests.{leb-true, ltb-true, ltb-false}
use Rattle.words.proofs.Passed.{both, choice-one}
use Rattle.paint.specs.declared.Shape.{Shape}
use Rattle.paint.specs.declared.Strip.{Strip}
use Rattle.paint.specs.Panel.{strip_of}
use Rattle.paint.specs.Pen.{in_strip}

pub within-strip : (strip : Strip) (column : ℕ) → in_strip strip column ≡ 1 → (strip.from ≤ column) × (column < strip.upto)
unfolding in_strip
within-strip strip column e =
    let tests = both (leb strip.from column) (ltb column strip.upto) (choice-one _ 1 e).0 in
    (leb-true strip.from column tests.0, ltb-true column strip.upto tests.1)

-- a strip ends before a later one begins
ends-before : (s : Shape) (k l : ℕ) → k < l → (strip_of s k).upto ≤ (strip_of s l).from
ends-before s k l less =
    let upto : (k + 1) * s.width ≤ l * s.width = mul-le-mul_right s.width (omega arith) in
    let next : (k + 1) * s.width ≡ k * s.width + s.width = ap (λ (n : ℕ). n * s.width) (add-one k) ∙ suc-mul k s.width in
    omega arith

pub strips-apart : (s : Shape) (k l column : ℕ) → in_strip (strip_of s k) column ≡ 1 → in_strip (strip_of s l) column ≡ 1 → k ≡ l
strips-apart s k l column ink inl = by_order (ltb k l) (ltb l k) refl refl
  where
    by_order : (t u : Bool) → ltb k l ≡ t → ltb l k ≡ u → k ≡ l
    by_order true u e f =
        let apart = ends-before s k l (ltb-true k l e) in
        let one = within-strip (strip_of s k) column ink in
        let two = within-strip (strip_of s l) column inl in
        absurd (omega arith)
    by_order false true e f =
        let apart = ends-before s l k (ltb-true l k f) in
        let one = within-strip (strip_of s k) column ink in
        let two = within-strip (strip_of s l) column inl in
        absurd (omega arith)
    by_order false false e f = let up = ltb-false k l e in let down = ltb-false l k f in omega arith
