-- Chains of tests. A definition goes through its tests by `cond`, and the code through the same tests by `if`. Each law takes one
-- step down the chain by what the code knows of the test; `search chain` then answers an early return, and `as-chain (search chain)` one of
-- a test made of several.
use Prim.Native.Nat.{ℕ, ◌<◌, ◌≤◌}
use mathlib.Core.Path.{◌≡◌, refl, sym, ◌∙◌}
use mathlib.Core.Bool.{Bool, true, false, cond, not, ◌&&◌, ◌||◌}
use lib.Dec.{ltb, leb, eqb}
use borrow.Author.Tests.{lt-ltb, le-ltb, le-leb, lt-leb, eq-eqb, ne_eqb}
use Rattle.words.specs.Refusal.{or_else}

module _ {A : Type 0} (z x y : A) where
  pub on-true : (t : Bool) → t ≡ true → z ≡ x → z ≡ cond t x y
  on-true t h p = rw h p

  pub on-false : (t : Bool) → t ≡ false → z ≡ y → z ≡ cond t x y
  on-false t h p = rw h p

  pub on-lt : (a b : ℕ) → a < b → z ≡ x → z ≡ cond (ltb a b) x y
  on-lt a b h p = rw (lt-ltb a b h) p

  pub on-ge : (a b : ℕ) → b ≤ a → z ≡ y → z ≡ cond (ltb a b) x y
  on-ge a b h p = rw (le-ltb a b h) p

  pub on-le : (a b : ℕ) → a ≤ b → z ≡ x → z ≡ cond (leb a b) x y
  on-le a b h p = rw (le-leb a b h) p

  pub on-gt : (a b : ℕ) → b < a → z ≡ y → z ≡ cond (leb a b) x y
  on-gt a b h p = rw (lt-leb a b h) p

  pub on-eq : (a b : ℕ) → a ≡ b → z ≡ x → z ≡ cond (eqb a b) x y
  on-eq a b h p = rw (eq-eqb a b h) p

  pub on-ne : (a b : ℕ) → (a ≡ b → ⊥) → z ≡ y → z ≡ cond (eqb a b) x y
  on-ne a b h p = rw (ne_eqb a b h) p

  -- the code tested a call's reply r, which is the definition's test t
  pub on-told : (t r : Bool) → r ≡ t → r ≡ true → z ≡ x → z ≡ cond t x y
  on-told t r e h p = rw (← e, h) p

  pub on-denied : (t r : Bool) → r ≡ t → r ≡ false → z ≡ y → z ≡ cond t x y
  on-denied t r e h p = rw (← e, h) p

  -- the code tested a call's reply r, which is one of the two numbers that the definition compares
  pub on-eq-left : (a b r : ℕ) → r ≡ a → r ≡ b → z ≡ x → z ≡ cond (eqb a b) x y
  on-eq-left a b r e h p = on-eq a b (sym e ∙ h) p

  pub on-ne-left : (a b r : ℕ) → r ≡ a → (r ≡ b → ⊥) → z ≡ y → z ≡ cond (eqb a b) x y
  on-ne-left a b r e h p = on-ne a b (λ k. h (e ∙ k)) p

  pub on-eq-right : (a b r : ℕ) → r ≡ b → a ≡ r → z ≡ x → z ≡ cond (eqb a b) x y
  on-eq-right a b r e h p = on-eq a b (h ∙ e) p

  pub on-ne-right : (a b r : ℕ) → r ≡ b → (a ≡ r → ⊥) → z ≡ y → z ≡ cond (eqb a b) x y
  on-ne-right a b r e h p = on-ne a b (λ k. h (k ∙ sym e)) p

  pub on-lt-right : (a b r : ℕ) → r ≡ b → a < r → z ≡ x → z ≡ cond (ltb a b) x y
  on-lt-right a b r e h p = rw (← e) (on-lt a r h p)

  pub on-ge-right : (a b r : ℕ) → r ≡ b → r ≤ a → z ≡ y → z ≡ cond (ltb a b) x y
  on-ge-right a b r e h p = rw (← e) (on-ge a r h p)

  -- the definition's `||`, `&&` and `not`, where the code has an `if` for each
  pub on_or : (s t : Bool) → z ≡ cond s x (cond t x y) → z ≡ cond (s || t) x y
  on_or true t p = p
  on_or false t p = p

  pub on_and : (s t : Bool) → z ≡ cond s (cond t x y) y → z ≡ cond (s && t) x y
  on_and true t p = p
  on_and false t p = p

  pub on-not : (t : Bool) → z ≡ cond t y x → z ≡ cond (not t) x y
  on-not true p = p
  on-not false p = p

-- the last test's own outcome is handed back
pub on-itself : (t r : Bool) → r ≡ t → r ≡ cond t true false
on-itself true r e = e
on-itself false r e = e

pub ruleset chain = (
  on-itself,
  on-true,
  on-false,
  on-lt,
  on-ge,
  on-le,
  on-gt,
  on-eq,
  on-ne,
  on-told,
  on-denied,
  on_or,
  on_and,
  on-not,
  refl,
)

-- the same, where the code compares numbers that calls have handed it
pub ruleset chain-of-replies = (on-eq-left, on-ne-left, on-eq-right, on-ne-right, on-lt-right, on-ge-right, chain)

-- a test, as a chain of the tests that it is made of
pub as-chain : {t z : Bool} → z ≡ cond t true false → z ≡ t
as-chain {t = true} p = p
as-chain {t = false} p = p

-- ---- one part of the table after another

pub stage-stops : (n first second : ℕ) → n ≡ first → (n ≡ 0 → ⊥) → n ≡ or_else first second
unfolding or_else
stage-stops n first second e h = rw (← e) (rw (ne_eqb n 0 h))

pub stage-goes-on : (z n first second : ℕ) → n ≡ first → n ≡ 0 → z ≡ second → z ≡ or_else first second
unfolding or_else
stage-goes-on z n first second e h p = rw (← e) (rw (eq-eqb n 0 h) p)
