-- Lines that are read part by part, of which only the first bytes are kept.
use Prim.Native.Nat.{ℕ, zero, suc}
use mathlib.Core.Path.{◌≡◌, refl, sym, ap, ◌∙◌}
use mathlib.Core.Bool.{Bool, true, false, cond}
use mathlib.Core.List.{List, [], ◌∷◌, ◌++◌}
use native.Mathlib.Omega.{arith}
use lib.Dec.{eqb}
use lib.ListN.{take}
use lib.Seq.{take-take}
use Rattle.paint.specs.declared.Shape.{Shape}
use Rattle.preview.specs.Line.{Dots, after_line}
use Rattle.preview.specs.Begun.{most}
use Rattle.preview.specs.Lines.{ended, unended, after_lines}
use Rattle.preview.proofs.Keeping.{kept-paints}

-- a claim about a test holds if it does both ways
pub by-test : (claim : Bool → Type 0) → claim true → claim false → (test : Bool) → claim test
by-test claim held failed true = held
by-test claim held failed false = failed

-- ---- parts of what is read

ended-on : (begun first more : List ℕ) → ended begun (first ++ more) ≡ ended begun first ++ ended (unended begun first) more
unfolding ended unended
ended-on begun [] more = refl
ended-on begun (b ∷ first) more =
    by-test
    (λ (t : Bool).
    cond t (begun ∷ ended [] (first ++ more)) (ended (begun ++ (b ∷ [])) (first ++ more))
    ≡ cond t (begun ∷ ended [] first) (ended (begun ++ (b ∷ [])) first)
    ++ ended (cond t (unended [] first) (unended (begun ++ (b ∷ [])) first)) more)
    (ap (λ (l : List (List ℕ)). begun ∷ l) (ended-on [] first more))
    (ended-on (begun ++ (b ∷ [])) first more)
    (eqb b 10)

unended-on : (begun first more : List ℕ) → unended begun (first ++ more) ≡ unended (unended begun first) more
unfolding unended
unended-on begun [] more = refl
unended-on begun (b ∷ first) more =
    by-test
    (λ (t : Bool).
    cond t (unended [] (first ++ more)) (unended (begun ++ (b ∷ [])) (first ++ more))
    ≡ unended (cond t (unended [] first) (unended (begun ++ (b ∷ [])) first)) more)
    (unended-on [] first more)
    (unended-on (begun ++ (b ∷ [])) first more)
    (eqb b 10)

pub painted-on : (font : List ℕ) (s : Shape) (first more : List (List ℕ)) (dots : Dots)
    → after_lines font s (first ++ more) dots ≡ after_lines font s more (after_lines font s first dots)
unfolding after_lines
painted-on font s [] more dots = refl
painted-on font s (line ∷ first) more dots = painted-on font s first more (after_line font s line dots)

-- ---- a line of which only the first bytes are kept

-- bytes behind those that are kept
cut_on : (n : ℕ) (line more : List ℕ) → take n (take n line ++ more) ≡ take n (line ++ more)
cut_on zero line more = refl
cut_on (suc n) [] more = refl
cut_on (suc n) (b ∷ line) more = ap (λ (l : List ℕ). b ∷ l) (cut_on n line more)

module _ (font : List ℕ) (s : Shape) where
  cut-paints : (begun bytes : List ℕ) (dots : Dots)
      → after_lines font s (ended (take most begun) bytes) dots ≡ after_lines font s (ended begun bytes) dots
  unfolding ended after_lines
  cut-paints begun [] dots = refl
  cut-paints begun (b ∷ bytes) dots =
      by-test
      (λ (t : Bool).
      after_lines font s (cond t (take most begun ∷ ended [] bytes) (ended (take most begun ++ (b ∷ [])) bytes)) dots
      ≡ after_lines font s (cond t (begun ∷ ended [] bytes) (ended (begun ++ (b ∷ [])) bytes)) dots)
      (ap (after_lines font s (ended [] bytes)) (kept-paints font s begun dots))
      (sym (cut-paints (take most begun ++ (b ∷ [])) bytes dots)
      ∙ ap (λ (l : List ℕ). after_lines font s (ended l bytes) dots) (cut_on most begun (b ∷ []))
      ∙ cut-paints (begun ++ (b ∷ [])) bytes dots)
      (eqb b 10)

cut-unended : (begun bytes : List ℕ) → take most (unended (take most begun) bytes) ≡ take most (unended begun bytes)
unfolding unended
cut-unended begun [] = take-take most most begun (omega arith)
cut-unended begun (b ∷ bytes) =
    by-test
    (λ (t : Bool).
    take most (cond t (unended [] bytes) (unended (take most begun ++ (b ∷ [])) bytes))
    ≡ take most (cond t (unended [] bytes) (unended (begun ++ (b ∷ [])) bytes)))
    refl
    (sym (cut-unended (take most begun ++ (b ∷ [])) bytes)
    ∙ ap (λ (l : List ℕ). take most (unended l bytes)) (cut_on most begun (b ∷ []))
    ∙ cut-unended (begun ++ (b ∷ [])) bytes)
    (eqb b 10)

-- what is read in two parts, and of the line that the first part leaves only the first bytes are kept
pub painted-in-parts : (font : List ℕ) (s : Shape) (begun first more : List ℕ) (dots : Dots)
    → after_lines font s (ended begun (first ++ more)) dots
    ≡ after_lines font s (ended (take most (unended begun first)) more) (after_lines font s (ended begun first) dots)
painted-in-parts font s begun first more dots =
    ap (λ (l : List (List ℕ)). after_lines font s l dots) (ended-on begun first more)
    ∙ painted-on font s (ended begun first) (ended (unended begun first) more) dots
    ∙ sym (cut-paints font s (unended begun first) more (after_lines font s (ended begun first) dots))

pub unended-in-parts : (begun first more : List ℕ)
    → take most (unended (take most (unended begun first)) more) ≡ take most (unended begun (first ++ more))
unended-in-parts begun first more =
    cut-unended (unended begun first) more ∙ ap (take most) (sym (unended-on begun first more))
