-- Where a code stands in a CU file: at the character that has it, and nowhere where none has.
use Prim.Native.Nat.{ℕ, ◌<◌}
use mathlib.Core.Path.{◌≡◌, refl}
use mathlib.Core.Bool.{Bool, true, false, cond}
use mathlib.Core.List.{List}
use native.Mathlib.Omega.{arith}
use lib.Dec.{ltb, eqb}
use borrow.Author.Tests.{lt-ltb, le-ltb, ltb-true, ltb-false, eq-eqb, ne_eqb, eqb-true}
use Rattle.words.specs.Word.{word}
use Rattle.words.specs.Search.{first_below, some_below}
use Rattle.words.proofs.Search.{none_below, none_passes, first-none, first-here, first_passes}
use Rattle.words.proofs.Passed.{neither}
use Rattle.convert.specs.Cu.{chars, char_at, bad_code, place_among, code_place}

module _ (ws : List ℕ) where
  abbrev pub code_of : ℕ → ℕ
  code_of k = word ws (char_at ws k)

  -- a character of the file that has a code and stands at a place
  pub record Character (c place : ℕ) : Type 0 where
    pub k : ℕ
    pub counted : k < chars ws
    pub here : place ≡ char_at ws k
    pub code : code_of k ≡ c

  pub character-there : (c : ℕ) → 0 < code_place ws c → Character c (code_place ws c)
  unfolding code_place place_among
  character-there c there = found (ltb first (chars ws)) refl there
    where
      first : ℕ
      first = first_below (chars ws) (λ i. eqb (code_of i) c)

      found : (t : Bool) → ltb first (chars ws) ≡ t → 0 < cond t (char_at ws first) 0 → Character c (cond t (char_at ws first) 0)
      found true q h =
          let less = ltb-true first (chars ws) q in
          record { k = first; counted = less; here = refl; code = eqb-true _ c (first_passes (λ i. eqb (code_of i) c) (chars ws) less) }
      found false q h = absurd (omega arith)

  -- a code that no character has
  pub code-absent : (c : ℕ) → ((k : ℕ) → k < chars ws → code_of k ≡ c → ⊥) → code_place ws c ≡ 0
  unfolding code_place place_among
  code-absent c none =
      let all = first-none (λ i. eqb (code_of i) c) (chars ws) (none_passes _ (chars ws) (λ k less. ne_eqb (code_of k) c (none k less))) in
      rw (all, le-ltb (chars ws) (chars ws) (omega arith))

  -- no code is over 255, and none there twice: each character is the one that its code stands for
  module _ (good : bad_code ws ≡ false) (k : ℕ) (less : k < chars ws) where
    abbrev twice : Bool
    twice = some_below k (λ i. eqb (code_of i) (code_of k))

    good-code : (ltb 255 (code_of k) ≡ false) × (twice ≡ false)
    unfolding bad_code
    good-code = neither (ltb 255 (code_of k)) twice (none_below _ (chars ws) k good less)

    pub code-small : code_of k < 256
    code-small = let small = ltb-false 255 (code_of k) good-code.0 in omega arith

    pub character-place : code_place ws (code_of k) ≡ char_at ws k
    unfolding code_place place_among
    character-place =
        let first = first-here (λ i. eqb (code_of i) (code_of k)) (chars ws) k less good-code.1 (eq-eqb (code_of k) (code_of k) refl) in
        rw (first, lt-ltb k (chars ws) less)
