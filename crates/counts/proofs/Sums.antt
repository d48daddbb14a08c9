-- Laws of the sums over the dots of a strip: by summands that are equal, that are added, or that are 0 or 1, and by rows.
use Prim.Native.Nat.{ℕ, zero, suc, ◌+◌, ◌-◌, ◌*◌, ◌<◌, ◌≤◌}
use mathlib.Core.Path.{◌≡◌, refl, sym, ap, ◌∙◌}
use native.Mathlib.Nat.{add-zero, add-suc, add_assoc, mul-suc}
use native.Mathlib.Omega.{arith}
use Rattle.words.specs.Search.{sum_below}
use Rattle.words.proofs.Search.{sum_same}
use Rattle.paint.specs.declared.Strip.{Strip}
use Rattle.counts.specs.Lit.{over_dots}

-- ---- sums of the numbers below n

pub sum-adds : (n : ℕ) (f g : ℕ → ℕ) → sum_below n f + sum_below n g ≡ sum_below n (λ i. f i + g i)
unfolding sum_below
sum-adds zero f g = refl
sum-adds (suc n) f g = let before = sum-adds n f g in omega arith

pub sum-split : (n m : ℕ) (f : ℕ → ℕ) → sum_below (n + m) f ≡ sum_below n f + sum_below m (λ i. f (n + i))
unfolding sum_below
sum-split n zero f = ap (λ (k : ℕ). sum_below k f) (add-zero n) ∙ sym (add-zero (sum_below n f))
sum-split n (suc m) f =
    ap (λ (k : ℕ). sum_below k f) (add-suc n m)
    ∙ ap (λ (k : ℕ). k + f (n + m)) (sum-split n m f)
    ∙ add_assoc (sum_below n f) (sum_below m (λ i. f (n + i))) (f (n + m))

pub sum-le : (n most : ℕ) (f : ℕ → ℕ) → ((i : ℕ) → i < n → f i ≤ most) → sum_below n f ≤ most * n
unfolding sum_below
sum-le zero most f h = omega arith
sum-le (suc n) most f h =
    let before = sum-le n most f (λ i less. h i (omega arith)) in
    let here = h n (omega arith) in
    let next = mul-suc most n in
    omega arith

pub sum-none : (n : ℕ) (f : ℕ → ℕ) → ((i : ℕ) → i < n → f i ≡ 0) → sum_below n f ≡ 0
unfolding sum_below
sum-none zero f h = refl
sum-none (suc n) f h =
    let before = sum-none n f (λ i less. h i (omega arith)) in
    let here = h n (omega arith) in
    omega arith

-- ---- sums over dots

pub dots-same : (strip : Strip) (row n : ℕ) (f g : ℕ → ℕ → ℕ)
    → ((i j : ℕ) → row ≤ i → i < row + n → strip.from ≤ j → j < strip.upto → f i j ≡ g i j)
    → over_dots strip row n f ≡ over_dots strip row n g
unfolding over_dots
dots-same strip row n f g same =
    sum_same n _ _
    (λ i down. sum_same (strip.upto - strip.from) _ _
    (λ j across. same (row + i) (strip.from + j) (omega arith) (omega arith) (omega arith) (omega arith)))

pub dots-add : (strip : Strip) (row n : ℕ) (f g : ℕ → ℕ → ℕ)
    → over_dots strip row n f + over_dots strip row n g ≡ over_dots strip row n (λ i j. f i j + g i j)
unfolding over_dots
dots-add strip row n f g =
    let wide = strip.upto - strip.from in
    let across : (ℕ → ℕ → ℕ) → ℕ → ℕ = λ h i. sum_below wide (λ j. h (row + i) (strip.from + j)) in
    sum-adds n (across f) (across g)
    ∙ sum_same n _ _ (λ i less. sum-adds wide (λ j. f (row + i) (strip.from + j)) (λ j. g (row + i) (strip.from + j)))

pub dots-split : (strip : Strip) (row n m : ℕ) (f : ℕ → ℕ → ℕ)
    → over_dots strip row (n + m) f ≡ over_dots strip row n f + over_dots strip (row + n) m f
unfolding over_dots
dots-split strip row n m f =
    let across : ℕ → ℕ = λ i. sum_below (strip.upto - strip.from) (λ j. f i (strip.from + j)) in
    sum-split n m (λ i. across (row + i))
    ∙ ap (λ (k : ℕ). sum_below n (λ i. across (row + i)) + k) (sum_same m _ _ (λ i less. ap across (sym (add_assoc row n i))))

pub dots-le : (strip : Strip) (row n : ℕ) (f : ℕ → ℕ → ℕ) → ((i j : ℕ) → f i j ≤ 1)
    → over_dots strip row n f ≤ (strip.upto - strip.from) * n
unfolding over_dots
dots-le strip row n f small =
    let wide = strip.upto - strip.from in
    sum-le n wide _
    (λ i down.
    let line = sum-le wide 1 (λ j. f (row + i) (strip.from + j)) (λ j across. small (row + i) (strip.from + j)) in
    omega arith)

-- nothing but zeros
pub dots-none : (strip : Strip) (row n : ℕ) (f : ℕ → ℕ → ℕ)
    → ((i j : ℕ) → row ≤ i → i < row + n → strip.from ≤ j → j < strip.upto → f i j ≡ 0) → over_dots strip row n f ≡ 0
unfolding over_dots
dots-none strip row n f none =
    sum-none n _
    (λ i down. sum-none (strip.upto - strip.from) _
    (λ j across. none (row + i) (strip.from + j) (omega arith) (omega arith) (omega arith) (omega arith)))
