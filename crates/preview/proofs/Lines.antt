-- What a line is, test by test.
use Prim.Native.Nat.{ℕ, ◌-◌}
use mathlib.Core.Path.{◌≡◌, refl, ap}
use mathlib.Core.List.{List, [], ◌∷◌, ◌++◌}
use native.Mathlib.Omega.{arith}
use borrow.Author.Tests.{eq-eqb}
use lib.ListN.{length, get_or}
use lib.Seq.{take_at, get_or_at}
use Rattle.words.proofs.Tables.{joined_length}
use Rattle.paint.specs.declared.Shape.{Shape}
use Rattle.preview.specs.declared.label.Line.{Line}
use Rattle.preview.specs.declared.label.Line.TheVariants.{Passed, Other}
use Rattle.preview.specs.Line.{without_return, text_of, line_of, Dots, painted, after_line}

-- ---- the carriage return

-- a line that ends with a return is what stands before it, whatever that is: one return only is no part of it
pub return-cut : (line : List ℕ) → without_return (line ++ (13 ∷ [])) ≡ line
unfolding without_return
return-cut line =
    let whole = joined_length line (13 ∷ []) (length line) refl 1 refl in
    let last : length line ≡ length (line ++ (13 ∷ [])) - 1 = omega arith in
    let return = eq-eqb (get_or (line ++ (13 ∷ [])) (length (line ++ (13 ∷ [])) - 1) 0) 13 (get_or_at line 13 [] 0 _ last) in
    rw return (take_at line (13 ∷ []) _ last)

-- ---- what is left after a line

module _ (font line : List ℕ) (s : Shape) (dots : Dots) where
  pub passed-line : Passed ≡ line_of line → dots ≡ after_line font s line dots
  unfolding after_line painted
  passed-line is = ap (λ (r : Line). painted font s r (text_of line) dots) is

  pub other-line : Other ≡ line_of line → dots ≡ after_line font s line dots
  unfolding after_line painted
  other-line is = ap (λ (r : Line). painted font s r (text_of line) dots) is
