-- Looking through the numbers below n for one that passes a test.
use Rattle.std.specs.Prelude.{ℕ, zero, suc, ◌+◌, Bool, false, cond, ◌||◌, ltb}

-- some number below n passes
unfoldable pub some_below : ℕ → (ℕ → Bool) → Bool
some_below zero test = false
some_below (suc n) test = some_below n test || test n

-- the least number below n that passes; n where none does
unfoldable pub first_below : ℕ → (ℕ → Bool) → ℕ
first_below zero test = 0
first_below (suc n) test =
    let least = first_below n test in
    cond (ltb least n) least (cond (test n) n (suc n))

-- the greatest number below n that passes; 0 where none does
unfoldable pub last_below : ℕ → (ℕ → Bool) → ℕ
last_below zero test = 0
last_below (suc n) test = cond (test n) n (last_below n test)

-- the sum f 0 + f 1 + .. of n numbers
unfoldable pub sum_below : ℕ → (ℕ → ℕ) → ℕ
sum_below zero f = 0
sum_below (suc n) f = sum_below n f + f n

-- the greatest of 0 and the n numbers f 0, f 1, ..
unfoldable pub most_below : ℕ → (ℕ → ℕ) → ℕ
most_below zero f = 0
most_below (suc n) f = cond (ltb (most_below n f) (f n)) (f n) (most_below n f)
