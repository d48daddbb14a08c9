-- Refusal 8 of several lent slices, one slice after the other.
use Prim.Native.Nat.{ℕ, min}
use mathlib.Core.Path.{◌≡◌, refl, ap}
use mathlib.Core.Bool.{Bool, true, false, cond, true≢false, false≢true, ◌||◌}
use mathlib.Core.List.{List, [], ◌∷◌}
use lib.Dec.{ltb}
use native.Mathlib.Omega.{arith}
use borrow.Author.Tests.{ltb-true, ltb-false, lt-ltb, le-ltb}
use Rattle.words.specs.Refusal.{first_of}
use Rattle.paint.specs.declared.Shape.{Shape}
use Rattle.paint.specs.Panel.{panel_words, bad_shape, some_short, bad_panel, panel_number}

bad-first : (shape short rest : Bool) → (shape || (short || false)) ≡ true → ◌≡◌ {A = ℕ} 8 (cond (shape || (short || rest)) 8 0)
bad-first true short rest e = refl
bad-first false true rest e = refl
bad-first false false rest e = absurd (false≢true e)

good-first : (shape short rest : Bool) → (shape || (short || false)) ≡ false
    → ◌≡◌ {A = ℕ} (cond (shape || rest) 8 0) (cond (shape || (short || rest)) 8 0)
good-first true short rest e = absurd (true≢false e)
good-first false true rest e = absurd (true≢false e)
good-first false false rest e = refl

module _ (s : Shape) (n : ℕ) (more : List ℕ) where
  pub refused-by-first : bad_panel s (n ∷ []) ≡ true → 8 ≡ panel_number s (n ∷ more)
  unfolding bad_panel some_short panel_number first_of
  refused-by-first bad = bad-first (bad_shape s) (ltb n (panel_words s)) (some_short s more) bad

  pub passed-by-first : bad_panel s (n ∷ []) ≡ false → panel_number s more ≡ panel_number s (n ∷ more)
  unfolding bad_panel some_short panel_number first_of
  passed-by-first good = good-first (bad_shape s) (ltb n (panel_words s)) (some_short s more) good

one-slice : (t : Bool) → t ≡ false → ◌≡◌ {A = ℕ} 0 (cond t 8 0)
one-slice true e = absurd (true≢false e)
one-slice false e = refl

pub passed-alone : (s : Shape) (n : ℕ) → bad_panel s (n ∷ []) ≡ false → 0 ≡ panel_number s (n ∷ [])
unfolding panel_number first_of
passed-alone s n good = one-slice (bad_panel s (n ∷ [])) good

-- what an accepted number promises
pub good-number : (s : Shape) (lent : List ℕ) → 0 ≡ panel_number s lent → bad_panel s lent ≡ false
unfolding panel_number first_of
good-number s lent = one-rule (bad_panel s lent)
  where
    one-rule : (t : Bool) → ◌≡◌ {A = ℕ} 0 (cond t 8 0) → t ≡ false
    one-rule true e = absurd (omega arith)
    one-rule false e = refl

-- and what any other number promises
pub bad-number : (s : Shape) (lent : List ℕ) (n : ℕ) → n ≡ panel_number s lent → (n ≡ 0 → ⊥) → (n ≡ 8) × (bad_panel s lent ≡ true)
unfolding panel_number first_of
bad-number s lent n = one-rule (bad_panel s lent)
  where
    one-rule : (t : Bool) → n ≡ cond t 8 0 → (n ≡ 0 → ⊥) → (n ≡ 8) × (t ≡ true)
    one-rule true e some = (e, refl)
    one-rule false e some = absurd (some e)

-- the shorter of two slices decides for both
short-or : (a b n : ℕ) (s t : Bool) → ltb a n ≡ s → ltb b n ≡ t → ltb (min a b) n ≡ (s || t)
short-or a b n true t p q = let less = ltb-true a n p in lt-ltb (min a b) n (omega arith)
short-or a b n false true p q = let less = ltb-true b n q in lt-ltb (min a b) n (omega arith)
short-or a b n false false p q =
    let one = ltb-false a n p in
    let two = ltb-false b n q in
    le-ltb (min a b) n (omega arith)

either-or : (x s t rest : Bool) → x ≡ (s || t) → (x || rest) ≡ (s || (t || rest))
either-or x true t rest e = rw e
either-or x false t rest e = rw e

module _ (s : Shape) (a b : ℕ) (more : List ℕ) where
  pub shorter-decides : bad_panel s (min a b ∷ more) ≡ bad_panel s (a ∷ b ∷ more)
  unfolding bad_panel some_short
  shorter-decides =
      let n = panel_words s in
      let one = short-or a b n (ltb a n) (ltb b n) refl refl in
      ap (λ (t : Bool). bad_shape s || t) (either-or (ltb (min a b) n) (ltb a n) (ltb b n) (some_short s more) one)

  pub shorter-number : panel_number s (min a b ∷ more) ≡ panel_number s (a ∷ b ∷ more)
  unfolding panel_number
  shorter-number = ap (λ (t : Bool). first_of ((t, 8) ∷ [])) shorter-decides
