-- The test for a falling pointer, one pointer at a time.
use Prim.Native.Nat.{ℕ, zero, suc, ◌+◌, ◌<◌, ◌≤◌}
use mathlib.Core.Path.{◌≡◌, refl, sym, ap, ◌∙◌}
use mathlib.Core.Bool.{Bool, true, false, ◌||◌}
use mathlib.Core.List.{List, [], ◌∷◌}
use native.Mathlib.Omega.{arith}
use native.Mathlib.Numerals.{add-one}
use lib.Dec.{ltb}
use lib.ListN.{length, get_or, drop, drop_of_length-le}
use lib.Seq.{drop-cons}
use borrow.Author.Tests.{le-ltb}
use Rattle.words.specs.Word.{table}
use Rattle.fonts.specs.Reading.{falls_from}

module _ (xs : List ℕ) (i before : ℕ) (here : i < length xs) where
  pub falls-step : falls_from before (drop i xs) ≡ (ltb (get_or xs i 0) before || falls_from (get_or xs i 0) (drop (i + 1) xs))
  unfolding falls_from
  falls-step = rw (add-one, drop-cons xs i 0)

-- no pointer is smaller than 0: the test begins with the second
pub falls-first : (xs : List ℕ) → falls_from 0 xs ≡ (false || falls_from (get_or xs 0 0) (drop 1 xs))
unfolding falls_from
falls-first [] = refl
falls-first (x ∷ xs) = rw (le-ltb x 0 (omega arith))

pub falls-no-more : (xs : List ℕ) (i before : ℕ) → length xs ≤ i → falls_from before (drop i xs) ≡ false
unfolding falls_from
falls-no-more xs i before h = rw (drop_of_length-le xs h)

-- a loop has looked at one pointer more: the test is in what is known, and no longer in what is left
moved : (fallen here rest : Bool) → (fallen || (here || rest)) ≡ ((here || fallen) || rest)
moved true true rest = refl
moved true false rest = refl
moved false true rest = refl
moved false false rest = refl

nothing_left : (fallen : Bool) → (fallen || false) ≡ fallen
nothing_left true = refl
nothing_left false = refl

module _ (xs : List ℕ) (i before : ℕ) (fallen : Bool) (so_far : falls_from 0 xs ≡ (fallen || falls_from before (drop i xs))) where
  pub falls-more : (next : Bool) (pointer : ℕ) → i < length xs → pointer ≡ get_or xs i 0 → next ≡ (ltb pointer before || fallen)
      → falls_from 0 xs ≡ (next || falls_from pointer (drop (i + 1) xs))
  falls-more next pointer here read told =
      let same = sym read in
      so_far
      ∙ ap (◌||◌ fallen) (falls-step xs i before here)
      ∙ moved fallen (ltb (get_or xs i 0) before) _
      ∙ (λ t. (ltb (same t) before || fallen) || falls_from (same t) (drop (i + 1) xs))
      ∙ ap (λ f. f || falls_from pointer (drop (i + 1) xs)) (sym told)

  pub falls-all : length xs ≤ i → fallen ≡ falls_from 0 xs
  falls-all past = sym (so_far ∙ ap (◌||◌ fallen) (falls-no-more xs i before past) ∙ nothing_left fallen)

-- pointers that rise do not fall
pub rising : (n before : ℕ) (f : ℕ → ℕ) → before ≤ f 0 → ((i : ℕ) → f i ≤ f (suc i)) → falls_from before (table n f) ≡ false
unfolding falls_from table
rising zero before f h rises = refl
rising (suc n) before f h rises = rw (le-ltb (f 0) before h, rising n (f 0) (λ i. f (suc i)) (rises 0) (λ i. rises (suc i)))
