-- What is said of a closure that tests numbers.
use Rattle.std.specs.Prelude.{ℕ, ◌≡◌, ◌<◌, Bool}

-- below n its replies are a test's
abbrev pub TestsAs : (ℕ → Bool → Type 0) → ℕ → (ℕ → Bool) → Type 0
TestsAs post n test = (i : ℕ) (reply : Bool) → i < n → post i reply → reply ≡ test i
