-- The tables of 128 numbers, one for each body that there is.
use Prim.Native.Nat.{ℕ, ◌+◌, ◌-◌, ◌<◌, min}
use mathlib.Core.Path.{◌≡◌, refl, ◌∙◌}
use mathlib.Core.Bool.{Bool, true, false, cond}
use mathlib.Core.List.{List}
use native.Mathlib.Omega.{arith}
use lib.Dec.{ltb, eqb}
use borrow.Author.Tests.{ltb-true, ltb-false}
use Rattle.words.specs.Word.{word, table, over}
use Rattle.words.proofs.Over.{over-at, over-past}
use Rattle.words.proofs.Tables.{table-length, table_at}
use Rattle.fonts.specs.declared.Header.{Header}
use Rattle.fonts.specs.declared.View.{View}
use Rattle.fonts.specs.Strike.{body_of, body_start, bitmaps_of, strike_in, strike_by, pointer_count, first_strike}
use Rattle.fonts.specs.Reading.{pairs_in, pairs_of}

module _ (f : ℕ → ℕ) (bodies none k : ℕ) (small : k < 128) where
  pub tabled : word (over (min 128 bodies) f (table 128 (λ i. none))) k ≡ cond (ltb k bodies) (f k) none
  tabled = there-or-not (ltb k bodies) refl
    where
      there-or-not : (t : Bool) → ltb k bodies ≡ t → word (over (min 128 bodies) f (table 128 (λ i. none))) k ≡ cond t (f k) none
      there-or-not true there =
          let less = ltb-true k bodies there in
          let long = table-length 128 (λ i. none) in
          over-at (min 128 bodies) f (table 128 (λ i. none)) k (omega arith) (omega arith)
      there-or-not false gone =
          let past = ltb-false k bodies gone in
          over-past (min 128 bodies) f (table 128 (λ i. none)) k (omega arith) ∙ table_at 128 (λ i. none) k small

pub pairs-at : (h : Header) (ws : List ℕ) (k : ℕ) → k < 128 → word (pairs_of h ws) k ≡ pairs_in h ws k
unfolding pairs_of pairs_in
pairs-at h ws k small = tabled (λ i. pointer_count (body_of ws (body_start h ws i))) h.bodies 0 k small

-- a body found by the table is the body
pub strike-tabled : (v : View) (ws : List ℕ) (k : ℕ) → k < 128 → strike_by v (bitmaps_of v.header ws) ws k ≡ strike_in v ws k
unfolding strike_by strike_in bitmaps_of
strike-tabled v ws k small = there-or-not (ltb k v.header.bodies) refl
  where
    start : ℕ → ℕ
    start i = body_start v.header ws i + 5

    there-or-not : (t : Bool) → ltb k v.header.bodies ≡ t → strike_by v (bitmaps_of v.header ws) ws k ≡ strike_in v ws k
    there-or-not true there =
        let at : word (bitmaps_of v.header ws) k ≡ start k = tabled start v.header.bodies 5 k small ∙ rw there in
        let back : word (bitmaps_of v.header ws) k - 5 ≡ body_start v.header ws k = omega (arith, at) in
        rw there (λ i. cond (eqb k 0) (first_strike v) (record { bitmap = at i; body = body_of ws (back i) }))
    there-or-not false gone = rw gone
