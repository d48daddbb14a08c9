-- Only the first bytes of a line are kept, and nothing is lost by that: a line that has more of them is no label.
use Prim.Native.Nat.{ℕ, ◌+◌, ◌-◌, ◌<◌, ◌≤◌}
use mathlib.Core.Path.{◌≡◌, refl, sym, ap, ◌∙◌}
use mathlib.Core.Bool.{Bool, true, false, cond}
use mathlib.Core.Logic.{◌⊎◌, inl, inr, ⊎_elim}
use mathlib.Core.List.{List, [], ◌∷◌}
use native.Mathlib.Omega.{arith}
use lib.Dec.{eqb, ltb}
use lib.ListN.{length, get_or, take}
use lib.Seq.{take_all, length-take-le}
use borrow.Author.Tests.{lt-ltb, ltb-true, ltb-false}
use Rattle.paint.specs.declared.Shape.{Shape}
use Rattle.preview.specs.declared.label.Line.TheVariants.{Passed, Other}
use Rattle.preview.specs.Line.{longest, without_return, kind_of, line_of, Dots, after_line}
use Rattle.preview.specs.Begun.{most}
use Rattle.preview.proofs.Lines.{passed-line, other-line}

-- at most one byte is left out for a return
return-is-one : (line : List ℕ) → length line ≤ length (without_return line) + 1
unfolding without_return
return-is-one line = by (eqb (get_or line (length line - 1) 0) 13)
  where
    by : (t : Bool) → length line ≤ length (cond t (take (length line - 1) line) line) + 1
    by true = let shorter = length-take-le (length line - 1) line (omega arith) in omega arith
    by false = omega arith

-- a line of so many bytes is no label
long-kind : (line : List ℕ) → longest < length line → (Passed ≡ kind_of line) ⊎ (Other ≡ kind_of line)
unfolding kind_of
long-kind [] long = absurd (omega arith)
long-kind (b ∷ bytes) long = rw (lt-ltb longest (length (b ∷ bytes)) long) (by (eqb b 35))
  where
    by : (t : Bool) → (Passed ≡ cond t Passed Other) ⊎ (Other ≡ cond t Passed Other)
    by true = inl refl
    by false = inr refl

long-line : (font : List ℕ) (s : Shape) (line : List ℕ) (dots : Dots) → most ≤ length line → dots ≡ after_line font s line dots
unfolding line_of
long-line font s line dots long =
    let cut = return-is-one line in
    ⊎_elim (passed-line font line s dots) (other-line font line s dots) (long-kind (without_return line) (omega arith))

-- what is kept of a line paints what the whole line paints
pub kept-paints : (font : List ℕ) (s : Shape) (line : List ℕ) (dots : Dots)
    → after_line font s (take most line) dots ≡ after_line font s line dots
kept-paints font s line dots = by (ltb most (length line)) refl
  where
    by : (t : Bool) → ltb most (length line) ≡ t → after_line font s (take most line) dots ≡ after_line font s line dots
    by true more =
        let long : most < length line = ltb-true most (length line) more in
        let whole = length-take-le most line (omega arith) in
        sym (long-line font s (take most line) dots (omega arith)) ∙ long-line font s line dots (omega arith)
    by false few = ap (λ (l : List ℕ). after_line font s l dots) (take_all most line (ltb-false most (length line) few))
