-- Sums of sums: in the other order, sixteen at a time, and of what vanishes outside a window.
use Prim.Native.Nat.{ℕ, zero, suc, ◌+◌, ◌*◌, ◌<◌, ◌≤◌}
use mathlib.Core.Path.{◌≡◌, refl, sym, ap, ◌∙◌}
use native.Mathlib.Omega.{arith}
use Rattle.words.specs.Search.{sum_below}
use Rattle.counts.proofs.Sums.{sum-adds, sum-split, sum-none}

pub sum-swap : (m n : ℕ) (h : ℕ → ℕ → ℕ) → sum_below m (λ w. sum_below n (h w)) ≡ sum_below n (λ i. sum_below m (λ w. h w i))
unfolding sum_below
sum-swap zero n h = sym (sum-none n (λ i. 0) (λ i less. refl))
sum-swap (suc m) n h =
    ap (λ (k : ℕ). k + sum_below n (h m)) (sum-swap m n h) ∙ sum-adds n (λ i. sum_below m (λ w. h w i)) (h m)

-- sixteen at a time
pub sum-words : (m : ℕ) (f : ℕ → ℕ) → sum_below m (λ w. sum_below 16 (λ j. f (16 * w + j))) ≡ sum_below (16 * m) f
unfolding sum_below
sum-words zero f = refl
sum-words (suc m) f =
    ap (λ (k : ℕ). k + sum_below 16 (λ j. f (16 * m + j))) (sum-words m f)
    ∙ sym (sum-split (16 * m) 16 f)
    ∙ ap (λ (k : ℕ). sum_below k f) {x = 16 * m + 16} {y = 16 * suc m} (omega arith)

-- a window of what vanishes before it and behind it
pub sum-window : (before n behind : ℕ) (f : ℕ → ℕ) → ((i : ℕ) → i < before → f i ≡ 0) → ((i : ℕ) → before + n ≤ i → f i ≡ 0)
    → sum_below (before + n + behind) f ≡ sum_below n (λ i. f (before + i))
sum-window before n behind f low high =
    let all = sum-split (before + n) behind f in
    let front = sum-split before n f in
    let none = sum-none before f low in
    let rest = sum-none behind (λ i. f (before + n + i)) (λ i less. high (before + n + i) (omega arith)) in
    omega (arith, all, front, none, rest)
