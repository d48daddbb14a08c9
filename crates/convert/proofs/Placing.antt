-- Where each code stands among the first characters of a CU file, and what one character more changes.
use Prim.Native.Nat.{ℕ, suc, ◌+◌, ◌<◌, ◌≤◌}
use mathlib.Core.Path.{◌≡◌, refl, sym, ap, ap₂, ◌∙◌}
use mathlib.Core.Bool.{Bool, true, false, cond, ◌||◌}
use mathlib.Core.List.{List}
use native.Mathlib.Numerals.{add-one}
use native.Mathlib.Omega.{arith}
use lib.Dec.{ltb, eqb}
use lib.ListN.{set}
use borrow.Author.Tests.{lt-ltb, le-ltb, ltb-true, ltb-false, eqb-true, eq-eqb, ne_eqb}
use Rattle.std.specs.Prelude.{Some, None}
use Rattle.words.specs.Word.{word, table}
use Rattle.words.specs.Search.{some_below, first_below}
use Rattle.words.proofs.Search.{first-lt, first-none, first-here, some-here, none_more}
use Rattle.words.proofs.Tables.{table_at, table_same, table-set}
use Rattle.convert.specs.declared.cu.Places.{Places}
use Rattle.convert.specs.Cu.{chars, char_at, bad_code, place_among, code_place, places_of, placed_of, placed_with}

pub none-bad : (t : Bool) (places : Places) → None ≡ cond t None (Some places) → t ≡ true
none-bad true places e = refl
none-bad false places e = cc

pub some-good : (t : Bool) (places after : Places) → Some after ≡ cond t None (Some places) → (t ≡ false) × (after ≡ places)
some-good true places after e = cc
some-good false places after e = (refl, cc)

module _ (ws : List ℕ) where
  -- character i has this code
  abbrev coded : ℕ → ℕ → Bool
  coded c i = eqb (word ws (char_at ws i)) c

  -- character k has a code that is over 255 or was there before
  abbrev bad_at : ℕ → Bool
  bad_at k = ltb 255 (word ws (char_at ws k)) || some_below k (coded (word ws (char_at ws k)))

  module _ (n c : ℕ) where
    -- a code that was there stays where it was first
    pub place-there : some_below n (coded c) ≡ true → place_among ws (n + 1) c ≡ place_among ws n c
    unfolding place_among first_below
    place-there h =
        let less : first_below n (coded c) < n = first-lt (coded c) n h in
        rw (add-one n, lt-ltb (first_below n (coded c)) n less, lt-ltb (first_below n (coded c)) (suc n) (omega arith))

    -- one that is not there stays absent where the character has another code
    place-absent : some_below n (coded c) ≡ false → coded c n ≡ false → place_among ws (n + 1) c ≡ place_among ws n c
    unfolding place_among first_below
    place-absent h other =
        rw (add-one n, first-none (coded c) n h, le-ltb n n (omega arith), other, le-ltb (suc n) (suc n) (omega arith))

    pub place_other : coded c n ≡ false → place_among ws (n + 1) c ≡ place_among ws n c
    place_other other = there-or-not (some_below n (coded c)) refl
      where
        there-or-not : (t : Bool) → some_below n (coded c) ≡ t → place_among ws (n + 1) c ≡ place_among ws n c
        there-or-not true h = place-there h
        there-or-not false h = place-absent h other

    -- one that was not there stands at its first character
    pub place-new : some_below n (coded c) ≡ false → coded c n ≡ true → place_among ws (n + 1) c ≡ char_at ws n
    unfolding place_among
    place-new h here = rw (first-here (coded c) (n + 1) n (omega arith) h here, lt-ltb n (n + 1) (omega arith))

    -- a character stands past the first two words: 0 says that the code is not there
    pub placed-there : ltb 0 (place_among ws n c) ≡ some_below n (coded c)
    unfolding place_among char_at
    placed-there = there-or-not (some_below n (coded c)) refl
      where
        there-or-not : (t : Bool) → some_below n (coded c) ≡ t → ltb 0 (place_among ws n c) ≡ t
        there-or-not true h =
            let less : first_below n (coded c) < n = first-lt (coded c) n h in
            rw (lt-ltb (first_below n (coded c)) n less) (lt-ltb 0 (char_at ws (first_below n (coded c))) (omega arith))
        there-or-not false h = rw (first-none (coded c) n h, le-ltb n n (omega arith)) (le-ltb 0 0 (omega arith))

  -- what the code asks of the table is what the definition asks of the characters
  bad-by-table : (k code : ℕ) → (ltb 255 code || ltb 0 (word (table 256 (place_among ws k)) code))
      ≡ (ltb 255 code || some_below k (coded code))
  bad-by-table k code = over-or-not (ltb 255 code) refl
    where
      over-or-not : (t : Bool) → ltb 255 code ≡ t
          → (t || ltb 0 (word (table 256 (place_among ws k)) code)) ≡ (t || some_below k (coded code))
      over-or-not true q = refl
      over-or-not false q =
          let within : code ≤ 255 = ltb-false 255 code q in
          ap (ltb 0) (table_at 256 (place_among ws k) code (omega arith)) ∙ placed-there k code

  places-next : (k code : ℕ) → code ≡ word ws (char_at ws k)
      → cond (ltb 255 code || some_below k (coded code)) (table 256 (place_among ws k))
      (set (table 256 (place_among ws k)) code (char_at ws k))
      ≡ table 256 (place_among ws (k + 1))
  places-next k code is = by_tests (ltb 255 code) refl (some_below k (coded code)) refl
    where
      this-or-other : (c : ℕ) (t : Bool) → eqb (word ws (char_at ws k)) c ≡ t → some_below k (coded code) ≡ true
          → place_among ws k c ≡ place_among ws (k + 1) c
      this-or-other c true q there =
          let same : code ≡ c = is ∙ eqb-true (word ws (char_at ws k)) c q in
          sym (place-there k c (ap (λ (d : ℕ). some_below k (coded d)) (sym same) ∙ there))
      this-or-other c false q there = sym (place_other k c q)

      by_tests : (over : Bool) → ltb 255 code ≡ over → (there : Bool) → some_below k (coded code) ≡ there
          → cond (over || there) (table 256 (place_among ws k)) (set (table 256 (place_among ws k)) code (char_at ws k))
          ≡ table 256 (place_among ws (k + 1))
      by_tests true p there q =
          let large : 255 < code = ltb-true 255 code p in
          table_same 256 (place_among ws k) (place_among ws (k + 1))
          (λ c less. sym (place_other k c (ne_eqb (word ws (char_at ws k)) c (λ e. absurd (omega arith)))))
      by_tests false p true q =
          table_same 256 (place_among ws k) (place_among ws (k + 1)) (λ c less. this-or-other c (eqb (word ws (char_at ws k)) c) refl q)
      by_tests false p false q =
          let within : code ≤ 255 = ltb-false 255 code p in
          table-set
          256
          (place_among ws k)
          (place_among ws (k + 1))
          code
          (char_at ws k)
          (omega arith)
          (place-new k code q (eq-eqb (word ws (char_at ws k)) code (sym is)))
          (λ j other. place_other k j (ne_eqb (word ws (char_at ws k)) j (λ e. other (sym e ∙ sym is))))

  -- what a loop knows that has read n characters, none of which is bad
  pub record PlacedAmong (n : ℕ) (places : List ℕ) : Type 0 where
    pub placed : places ≡ table 256 (place_among ws n)
    pub good : some_below n bad_at ≡ false

  pub placed-none : PlacedAmong 0 (table 256 (λ c. 0))
  unfolding place_among first_below some_below
  placed-none = record { placed = refl; good = refl }

  -- what it does in a turn
  module _ (k place code : ℕ) (before : Places) (here : place ≡ char_at ws k) (is : code ≡ word ws place)
      (among : PlacedAmong k before.table) where
    code-is : code ≡ word ws (char_at ws k)
    code-is = is ∙ ap (word ws) here

    bad-is : (ltb 255 code || ltb 0 (word before.table code)) ≡ bad_at k
    bad-is =
        ap (λ (places : List ℕ). ltb 255 code || ltb 0 (word places code)) among.placed
        ∙ bad-by-table k code
        ∙ ap (λ (d : ℕ). ltb 255 d || some_below k (coded d)) code-is

    pub placed-bad : k < chars ws → None ≡ placed_with before code place → None ≡ placed_of ws
    unfolding placed_of bad_code
    placed-bad less none = rw (some-here bad_at (chars ws) k less (sym bad-is ∙ none-bad _ _ none))

    pub placed-next : (after : Places) → Some after ≡ placed_with before code place → PlacedAmong (k + 1) after.table
    placed-next after some =
        let good = some-good _ _ after some in
        let none = none_more bad_at k among.good (sym bad-is ∙ good.0) in
        let fine : (ltb 255 code || some_below k (coded code)) ≡ false = sym (bad-by-table k code)
        ∙ ap (λ (places : List ℕ). ltb 255 code || ltb 0 (word places code)) (sym among.placed) ∙ good.0 in
        record {
          placed =
              ap (λ (p : Places). p.table) good.1
              ∙ ap₂ (λ (places : List ℕ) (p : ℕ). set places code p) among.placed here
              ∙ sym (ap (λ (t : Bool). cond t (table 256 (place_among ws k)) (set (table 256 (place_among ws k)) code (char_at ws k))) fine)
              ∙ places-next k code code-is;
          good = none;
        }

  pub placed-all : (places : Places) → PlacedAmong (chars ws) places.table → Some places ≡ placed_of ws
  unfolding placed_of places_of code_place bad_code
  placed-all places among = rw among.good (λ i. Some (record { table = among.placed i }))
