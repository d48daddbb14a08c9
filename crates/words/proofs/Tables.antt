-- Laws of lists written as tables, and of lists put one behind the other.
use Prim.Native.Nat.{ℕ, zero, suc, ◌+◌, ◌<◌, ◌≤◌}
use mathlib.Core.Path.{◌≡◌, refl, sym, ap, ap₂, ◌∙◌}
use mathlib.Core.List.{List, ◌∷◌, ◌++◌}
use native.Mathlib.Omega.{arith}
use lib.ListN.{length, set, take, drop, length-append, length-drop, get_or-append}
use lib.Seq.{length-take-le, get_or-append-add, get_or-take, get_or-drop, ext_get_or}
use Rattle.words.specs.Word.{word, table}

pub table-length : (n : ℕ) (f : ℕ → ℕ) → length (table n f) ≡ n
unfolding table
table-length zero f = refl
table-length (suc n) f = ap suc (table-length n (λ i. f (suc i)))

pub table_at : (n : ℕ) (f : ℕ → ℕ) (i : ℕ) → i < n → word (table n f) i ≡ f i
unfolding table
table_at zero f i h = absurd (omega arith)
table_at (suc n) f zero h = refl
table_at (suc n) f (suc i) h = table_at n (λ j. f (suc j)) i (omega arith)

pub table_same : (n : ℕ) (f g : ℕ → ℕ) → ((i : ℕ) → i < n → f i ≡ g i) → table n f ≡ table n g
unfolding table
table_same zero f g h = refl
table_same (suc n) f g h =
    ap₂ (λ (x : ℕ) (xs : List ℕ). x ∷ xs) (h 0 (omega arith))
    (table_same n (λ i. f (suc i)) (λ i. g (suc i)) (λ i less. h (suc i) (omega arith)))

-- a list is the table of its words
pub table-words : (ws : List ℕ) → table (length ws) (λ i. word ws i) ≡ ws
table-words ws =
    ext_get_or 0 (table (length ws) (λ i. word ws i)) ws (table-length (length ws) (λ i. word ws i))
    (λ i room. table_at (length ws) (λ j. word ws j) i (rw (table-length (length ws) (λ j. word ws j)) at room))

-- with one word written over, it is the table of what differs at that word only
pub table-set : (n : ℕ) (f g : ℕ → ℕ) (i v : ℕ) → i < n → g i ≡ v → ((j : ℕ) → (j ≡ i → ⊥) → g j ≡ f j) → set (table n f) i v ≡ table n g
unfolding table
table-set zero f g i v h here others = absurd (omega arith)
table-set (suc n) f g zero v h here others =
    ap₂
    (λ (x : ℕ) (xs : List ℕ). x ∷ xs)
    (sym here)
    (table_same n (λ j. f (suc j)) (λ j. g (suc j)) (λ j less. sym (others (suc j) (λ q. absurd (omega arith)))))
table-set (suc n) f g (suc i) v h here others =
    ap₂
    (λ (x : ℕ) (xs : List ℕ). x ∷ xs)
    (sym (others 0 (λ q. absurd (omega arith))))
    (table-set n (λ j. f (suc j)) (λ j. g (suc j)) i v (omega arith) here (λ j other. others (suc j) (λ q. other (omega arith))))

-- n words of a list that are f 0, f 1, .. one after the other are the table of f
pub part-table : (ws : List ℕ) (from n : ℕ) (f : ℕ → ℕ) → from + n ≤ length ws → ((i : ℕ) → i < n → word ws (from + i) ≡ f i)
    → take n (drop from ws) ≡ table n f
part-table ws from n f room at =
    let left = length-drop from ws in
    let long : length (take n (drop from ws)) ≡ n = length-take-le n (drop from ws) (omega arith) in
    ext_get_or 0 (take n (drop from ws)) (table n f) (long ∙ sym (table-length n f))
    (λ i h.
    let less : i < n = rw long at h in
    get_or-take n (drop from ws) i 0 less ∙ get_or-drop from ws i 0 ∙ at i less ∙ sym (table_at n f i less))

module _ (xs ys : List ℕ) (m : ℕ) (long : length xs ≡ m) where
  pub joined_length : (n : ℕ) → length ys ≡ n → length (xs ++ ys) ≡ m + n
  joined_length n h = rw (length-append xs ys, long, h)

  -- the words of the first list, and those of the second
  pub joined-first : (i : ℕ) → i < m → word (xs ++ ys) i ≡ word xs i
  joined-first i h = get_or-append xs ys 0 i (rw long h)

  pub joined-second : (i : ℕ) → word (xs ++ ys) (m + i) ≡ word ys i
  joined-second i = rw (← long) (get_or-append-add xs ys i 0)
