-- Looking through the numbers below n: what a search has found, and what a loop that searches knows.
use Prim.Native.Nat.{ℕ, zero, suc, ◌+◌, ◌-◌, ◌<◌, ◌≤◌}
use mathlib.Core.Path.{◌≡◌, refl, sym, ap, ap₂, ◌∙◌}
use mathlib.Core.Bool.{Bool, true, false, cond, ◌||◌, true≢false}
use native.Mathlib.Numerals.{add-one}
use native.Mathlib.Omega.{arith}
use lib.Dec.{ltb, eqb}
use borrow.Author.Tests.{lt-ltb, le-ltb, eqb-true, eqb-false, ltb-true, ltb-false}
use Rattle.words.specs.Search.{some_below, first_below, last_below, sum_below, most_below}

or_left : (s t : Bool) → s ≡ true → (s || t) ≡ true
or_left s t h = rw h

or_right : (s t : Bool) → t ≡ true → (s || t) ≡ true
or_right true t h = refl
or_right false t h = h

or-none : (s t : Bool) → s ≡ false → t ≡ false → (s || t) ≡ false
or-none s t h k = rw (h, k)

pub none_left : (s t : Bool) → (s || t) ≡ false → s ≡ false
none_left true t h = h
none_left false t h = refl

pub none_right : (s t : Bool) → (s || t) ≡ false → t ≡ false
none_right true t h = absurd (true≢false h)
none_right false t h = h

or-of-false : (s : Bool) → (s || false) ≡ true → s ≡ true
or-of-false true h = refl
or-of-false false h = h

-- a number up to n is n, or below it
up_to : {A : Type 0} (n i : ℕ) (t : Bool) → eqb i n ≡ t → i ≤ n → (i ≡ n → A) → (i < n → A) → A
up_to n i true q le last before = last (eqb-true i n q)
up_to n i false q le last before = let other = eqb-false i n q in before (omega (arith, other))

module _ (test : ℕ → Bool) where
  -- ---- some number below n passes

  pub some-here : (n i : ℕ) → i < n → test i ≡ true → some_below n test ≡ true
  unfolding some_below
  some-here zero i h p = absurd (omega arith)
  some-here (suc n) i h p =
      up_to n i (eqb i n) refl (omega arith)
      (λ same. or_right (some_below n test) (test n) (rw same at p))
      (λ less. or_left (some_below n test) (test n) (some-here n i less p))

  -- a loop has looked at one number more
  pub none_more : (i : ℕ) → some_below i test ≡ false → test i ≡ false → some_below (i + 1) test ≡ false
  unfolding some_below
  none_more i h p = rw (add-one i) (or-none (some_below i test) (test i) h p)

  pub none_passes : (n : ℕ) → ((i : ℕ) → i < n → test i ≡ false) → some_below n test ≡ false
  unfolding some_below
  none_passes zero h = refl
  none_passes (suc n) h = or-none (some_below n test) (test n) (none_passes n (λ i less. h i (omega arith))) (h n (omega arith))

  pub none_below : (n i : ℕ) → some_below n test ≡ false → i < n → test i ≡ false
  unfolding some_below
  none_below zero i h less = absurd (omega arith)
  none_below (suc n) i h less =
      up_to n i (eqb i n) refl (omega arith)
      (λ same. rw same (none_right (some_below n test) (test n) h))
      (λ before. none_below n i (none_left (some_below n test) (test n) h) before)

  -- ---- the first

  pub first-none : (n : ℕ) → some_below n test ≡ false → first_below n test ≡ n
  unfolding some_below first_below
  first-none zero h = refl
  first-none (suc n) h =
      let before : first_below n test ≡ n = first-none n (none_left (some_below n test) (test n) h) in
      rw (before, le-ltb n n (omega arith), none_right (some_below n test) (test n) h)

  pub first-here : (n i : ℕ) → i < n → some_below i test ≡ false → test i ≡ true → first_below n test ≡ i
  unfolding first_below
  first-here zero i less h p = absurd (omega arith)
  first-here (suc n) i less h p =
      up_to n i (eqb i n) refl (omega arith)
      (λ same. rw (← same, first-none i h, le-ltb i i (omega arith), p))
      (λ before. rw (first-here n i before h p, lt-ltb i n before))

  pub first-le : (n : ℕ) → first_below n test ≤ n
  unfolding first_below
  first-le zero = omega arith
  first-le (suc n) = least-of (first_below n test) (ltb (first_below n test) n) (test n) (first-le n)
    where
      least-of : (least : ℕ) (found passes : Bool) → least ≤ n → cond found least (cond passes n (suc n)) ≤ suc n
      least-of least true passes h = omega arith
      least-of least false true h = omega arith
      least-of least false false h = omega arith

  -- none is found before n: the search has gone through all of them
  all-of-them : (n : ℕ) → ltb (first_below n test) n ≡ false → first_below n test ≡ n
  all-of-them n q = let up : n ≤ first_below n test = ltb-false _ _ q in let down = first-le n in omega arith

  -- none below the first passes
  pub before-first : (n : ℕ) → some_below (first_below n test) test ≡ false
  unfolding some_below first_below
  before-first zero = refl
  before-first (suc n) = none_of (ltb (first_below n test) n) refl (test n) refl (before-first n)
    where
      none_of : (found : Bool) → ltb (first_below n test) n ≡ found → (passes : Bool) → test n ≡ passes
          → some_below (first_below n test) test ≡ false
          → some_below (cond found (first_below n test) (cond passes n (suc n))) test ≡ false
      none_of true q passes p h = h
      none_of false q true p h = rw (all-of-them n q) at h
      none_of false q false p h = or-none (some_below n test) (test n) (rw (all-of-them n q) at h) p

  -- the first passes, where there is one
  pub first_passes : (n : ℕ) → first_below n test < n → test (first_below n test) ≡ true
  unfolding first_below
  first_passes zero h = absurd (omega arith)
  first_passes (suc n) h = passes_of (ltb (first_below n test) n) refl (test n) refl (first_passes n) h
    where
      passes_of : (found : Bool) → ltb (first_below n test) n ≡ found → (passes : Bool) → test n ≡ passes
          → (first_below n test < n → test (first_below n test) ≡ true)
          → cond found (first_below n test) (cond passes n (suc n)) < suc n
          → test (cond found (first_below n test) (cond passes n (suc n))) ≡ true
      passes_of true q passes p before less = before (ltb-true _ _ q)
      passes_of false q true p before less = p
      passes_of false q false p before less = absurd (omega arith)

  pub first-lt : (n : ℕ) → some_below n test ≡ true → first_below n test < n
  first-lt n h = lt-or-not (ltb (first_below n test) n) refl
    where
      lt-or-not : (t : Bool) → ltb (first_below n test) n ≡ t → first_below n test < n
      lt-or-not true q = ltb-true _ _ q
      lt-or-not false q =
          let all : first_below n test ≡ n = all-of-them n q in
          absurd (true≢false (sym h ∙ ap (λ (k : ℕ). some_below k test) (sym all) ∙ before-first n))

  -- one that passes is not below the first
  pub first-least : (n i : ℕ) → test i ≡ true → first_below n test ≤ i
  first-least n i p = below_or_not (ltb i (first_below n test)) refl
    where
      below_or_not : (t : Bool) → ltb i (first_below n test) ≡ t → first_below n test ≤ i
      below_or_not true q = absurd (true≢false (sym p ∙ none_below (first_below n test) i (before-first n) (ltb-true _ _ q)))
      below_or_not false q = ltb-false _ _ q

  -- ---- the last

  pub last-here : (n : ℕ) → test n ≡ true → last_below (n + 1) test ≡ n
  unfolding last_below
  last-here n p = rw (add-one n, p)

  -- a loop has looked at one number less
  pub last-lower : (n : ℕ) → test n ≡ false → last_below (n + 1) test ≡ last_below n test
  unfolding last_below
  last-lower n p = rw (add-one n, p)

  -- what a loop knows that goes down from n, has come to i, and looks at i - 1
  pub last_found : (n i : ℕ) → 0 < i → last_below n test ≡ last_below i test → test (i - 1) ≡ true → i - 1 ≡ last_below n test
  last_found n i h e p = let up : i - 1 + 1 ≡ i = omega arith in sym (e ∙ ap (λ (k : ℕ). last_below k test) (sym up) ∙ last-here (i - 1) p)

  pub last-goes-down : (n i : ℕ) → 0 < i → last_below n test ≡ last_below i test → test (i - 1) ≡ false
      → last_below n test ≡ last_below (i - 1) test
  last-goes-down n i h e p = let up : i - 1 + 1 ≡ i = omega arith in e ∙ ap (λ (k : ℕ). last_below k test) (sym up) ∙ last-lower (i - 1) p

  pub last-not-found : (n i : ℕ) → i ≤ 0 → last_below n test ≡ last_below i test → 0 ≡ last_below n test
  unfolding last_below
  last-not-found n i h e = let none : i ≡ 0 = omega arith in sym (e ∙ ap (λ (k : ℕ). last_below k test) none)

  -- it is a number below n, or 0 where there are none
  pub last-le : (n : ℕ) → last_below n test ≤ n - 1
  unfolding last_below
  last-le zero = omega arith
  last-le (suc n) = here-or-before (test n) (last-le n)
    where
      here-or-before : (t : Bool) → last_below n test ≤ n - 1 → cond t n (last_below n test) ≤ suc n - 1
      here-or-before true h = omega arith
      here-or-before false h = omega arith

  pub last-passes : (n : ℕ) → some_below n test ≡ true → (last_below n test < n) × (test (last_below n test) ≡ true)
  unfolding some_below last_below
  last-passes zero h = absurd (true≢false (sym h))
  last-passes (suc n) h = last-or-before (test n) refl h (last-passes n)
    where
      last-or-before : (t : Bool) → test n ≡ t → (some_below n test || t) ≡ true
          → (some_below n test ≡ true → (last_below n test < n) × (test (last_below n test) ≡ true))
          → (cond t n (last_below n test) < suc n) × (test (cond t n (last_below n test)) ≡ true)
      last-or-before true p some before = (omega arith, p)
      last-or-before false p some before = let found = before (or-of-false _ some) in let less = found.0 in (omega arith, found.1)

  pub after_last : (n i : ℕ) → i < n → last_below n test < i → test i ≡ false
  unfolding last_below
  after_last zero i less h = absurd (omega arith)
  after_last (suc n) i less h = here-or-before (test n) refl h (after_last n i)
    where
      here-or-before : (t : Bool) → test n ≡ t → cond t n (last_below n test) < i
          → (i < n → last_below n test < i → test i ≡ false)
          → test i ≡ false
      here-or-before true p after before = absurd (omega arith)
      here-or-before false p after before = up_to n i (eqb i n) refl (omega arith) (λ same. rw same p) (λ lower. before lower after)

  -- one that passes is not above the last
  pub last-greatest : (n i : ℕ) → i < n → test i ≡ true → i ≤ last_below n test
  last-greatest n i less p = above-or-not (ltb (last_below n test) i) refl
    where
      above-or-not : (t : Bool) → ltb (last_below n test) i ≡ t → i ≤ last_below n test
      above-or-not true q = absurd (true≢false (sym p ∙ after_last n i less (ltb-true _ _ q)))
      above-or-not false q = ltb-false _ _ q

-- ---- sums, and the greatest

module _ (f : ℕ → ℕ) where
  pub sum_more : (n : ℕ) → sum_below (n + 1) f ≡ sum_below n f + f n
  unfolding sum_below
  sum_more n = rw (add-one n)

  pub sum-rises : (m n : ℕ) → m ≤ n → sum_below m f ≤ sum_below n f
  unfolding sum_below
  sum-rises m zero h = let none : m ≡ 0 = omega arith in rw none (omega arith)
  sum-rises m (suc n) h =
      up_to (suc n) m (eqb m (suc n)) refl h
      (λ same. rw same (omega arith))
      (λ less. let before = sum-rises m n (omega arith) in omega arith)

  pub most-more : (n : ℕ) → most_below (n + 1) f ≡ cond (ltb (most_below n f) (f n)) (f n) (most_below n f)
  unfolding most_below
  most-more n = rw (add-one n)

  pub most-here : (n i : ℕ) → i < n → f i ≤ most_below n f
  unfolding most_below
  most-here zero i h = absurd (omega arith)
  most-here (suc n) i h = greater (ltb (most_below n f) (f n)) refl (most-here n i)
    where
      greater : (t : Bool) → ltb (most_below n f) (f n) ≡ t → (i < n → f i ≤ most_below n f) → f i ≤ cond t (f n) (most_below n f)
      greater true q before =
          let more : most_below n f < f n = ltb-true _ _ q in
          up_to n i (eqb i n) refl (omega arith) (λ same. rw same (omega arith)) (λ less. let le = before less in omega arith)
      greater false q before =
          let most : f n ≤ most_below n f = ltb-false _ _ q in
          up_to n i (eqb i n) refl (omega arith) (λ same. rw same (omega arith)) before

  pub most-le : (n most : ℕ) → ((i : ℕ) → i < n → f i ≤ most) → most_below n f ≤ most
  unfolding most_below
  most-le zero most h = omega arith
  most-le (suc n) most h = either (ltb (most_below n f) (f n)) (most-le n most (λ i less. h i (omega arith))) (h n (omega arith))
    where
      either : (t : Bool) → most_below n f ≤ most → f n ≤ most → cond t (f n) (most_below n f) ≤ most
      either true a b = b
      either false a b = a

-- ---- the same test, the same answer

pub some_same : (n : ℕ) (s t : ℕ → Bool) → ((i : ℕ) → i < n → s i ≡ t i) → some_below n s ≡ some_below n t
unfolding some_below
some_same zero s t h = refl
some_same (suc n) s t h = ap₂ (λ (a b : Bool). a || b) (some_same n s t (λ i less. h i (omega arith))) (h n (omega arith))

pub sum_same : (n : ℕ) (f g : ℕ → ℕ) → ((i : ℕ) → i < n → f i ≡ g i) → sum_below n f ≡ sum_below n g
unfolding sum_below
sum_same zero f g h = refl
sum_same (suc n) f g h = ap₂ (λ (a b : ℕ). a + b) (sum_same n f g (λ i less. h i (omega arith))) (h n (omega arith))
