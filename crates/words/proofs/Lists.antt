-- Laws of lists and their parts.
use Prim.Native.Nat.{ℕ, ◌-◌, ◌≤◌}
use mathlib.Core.Path.{◌≡◌, sym, ap, ap₂, ◌∙◌}
use mathlib.Core.List.{List, [], ◌++◌, append-nil}
use native.Mathlib.Omega.{arith}
use lib.ListN.{length, get_or, take, drop, drop_of_length-le, length-drop, get_or-eq_default}
use lib.Seq.{take_all, take-nil, take_at, drop_at}

-- past its end a list has the default
pub past_end : (xs : List ℕ) (i : ℕ) → length xs ≤ i → 0 ≡ get_or xs i 0
past_end xs i h = sym (get_or-eq_default xs 0 h)

-- a part that begins at or past the end is empty
pub part_none : (xs : List ℕ) (from count : ℕ) → length xs ≤ from → ◌≡◌ {A = List ℕ} [] (take count (drop from xs))
part_none xs from count h = rw (drop_of_length-le xs h) (sym (take-nil count))

-- a part that would go on past the end is all that is left
pub part-rest : (xs : List ℕ) (from count : ℕ) → length xs - from ≤ count
    → take (length xs - from) (drop from xs) ≡ take count (drop from xs)
part-rest xs from count h =
    let left : length (drop from xs) ≡ length xs - from = length-drop from xs in
    take_all (length xs - from) (drop from xs) (omega arith) ∙ sym (take_all count (drop from xs) (omega arith))

-- a slice whose front has been written, with the k words behind the front written too
pub behind-front : (front rest ys : List ℕ) (n k : ℕ) → length front ≡ n
    → take n (front ++ rest) ++ (ys ++ drop k (drop n (front ++ rest))) ≡ front ++ (ys ++ drop k rest)
behind-front front rest ys n k long =
    ap₂ (λ (a b : List ℕ). a ++ (ys ++ drop k b)) (take_at front rest n long) (drop_at front rest n long)

-- what is behind the front, lent to its end
pub rest-lent : (front rest : List ℕ) (n k : ℕ) → length front ≡ n → length rest ≤ k → take k (drop n (front ++ rest)) ≡ rest
rest-lent front rest n k long all = ap (take k) (drop_at front rest n long) ∙ take_all k rest all

-- nothing is left behind a part that goes on to the end
pub nothing-behind : (xs ys : List ℕ) (k : ℕ) → length xs ≤ k → ys ++ drop k xs ≡ ys
nothing-behind xs ys k h = ap (λ (a : List ℕ). ys ++ a) (drop_of_length-le xs h) ∙ append-nil ys
