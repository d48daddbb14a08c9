-- Laws of a count that is to move: what it may be at most, and by what it leaves that.
use Prim.Native.Nat.{ℕ, ◌+◌, ◌-◌, ◌*◌, ◌<◌, ◌≤◌}
use mathlib.Core.Path.{◌≡◌, refl, sym, ap, ◌∙◌}
use mathlib.Core.Bool.{Bool, true, false}
use mathlib.Core.List.{List}
use native.Mathlib.Nat.{mul-le-mul}
use native.Mathlib.Omega.{arith}
use lib.Dec.{ltb}
use borrow.Author.Tests.{lt-ltb, le-ltb, ltb-true, ltb-false}
use Rattle.words.specs.Word.{word}
use Rattle.words.specs.Search.{some_below}
use Rattle.words.specs.Refusal.{first_of}
use Rattle.words.proofs.Search.{none_left, none_right, some_same}
use Rattle.paint.specs.declared.Shape.{Shape}
use Rattle.counts.specs.Lit.{area, some_over, leaves}
use Rattle.counts.specs.Band.{settled_number}
use Rattle.counts.proofs.Balance.{area-is}

-- a product of two numbers of 32 bits
pub product : (a b : ℕ) → a ≤ 4294967295 → b ≤ 4294967295 → a * b ≤ 18446744065119617025
product a b h k = mul-le-mul {n₂ = 4294967295} {m₂ = 4294967295} h k

pub over-is : (s : Shape) (counts : List ℕ) → some_below 32 (λ k. ltb (s.width * s.rows) (word counts k)) ≡ some_over s counts
unfolding some_over
over-is s counts =
    some_same 32 (λ k. ltb (s.width * s.rows) (word counts k)) (λ k. ltb (area s k) (word counts k))
    (λ k less. ap (λ (most : ℕ). ltb most (word counts k)) (sym (area-is s k)))

module _ (most held more fewer : ℕ) where
  -- it would be below 0
  pub leaves-below : held + more < fewer → leaves most held more fewer ≡ true
  unfolding leaves
  leaves-below h = rw (lt-ltb (held + more) fewer h)

  -- where it is not, it leaves what it may be by being over it
  pub leaves-above : fewer ≤ held + more → leaves most held more fewer ≡ ltb most (held + more - fewer)
  unfolding leaves
  leaves-above h = rw (le-ltb (held + more) fewer h) (by (ltb most (held + more - fewer)) refl)
    where
      by : (t : Bool) → ltb most (held + more - fewer) ≡ t → ltb (most + fewer) (held + more) ≡ ltb most (held + more - fewer)
      by true q =
          let above : most < held + more - fewer = ltb-true most (held + more - fewer) q in
          lt-ltb (most + fewer) (held + more) (omega arith) ∙ sym q
      by false q =
          let within : held + more - fewer ≤ most = ltb-false most (held + more - fewer) q in
          le-ltb (most + fewer) (held + more) (omega arith) ∙ sym q

  -- it stays what it may be
  pub stays : fewer ≤ held + more → held + more ≤ most + fewer → leaves most held more fewer ≡ false
  unfolding leaves
  stays h k = rw (le-ltb (held + more) fewer h, le-ltb (most + fewer) (held + more) k)

  pub not-below : leaves most held more fewer ≡ false → fewer ≤ held + more
  unfolding leaves
  not-below h = ltb-false (held + more) fewer (none_left _ (ltb (most + fewer) (held + more)) h)

  pub not-above : leaves most held more fewer ≡ false → held + more ≤ most + fewer
  unfolding leaves
  not-above h = ltb-false (most + fewer) (held + more) (none_right (ltb (held + more) fewer) _ h)

-- by what applying and clearing are refused, by the tests
module _ (s : Shape) (counts : List ℕ) (left lit : ℕ → ℕ) where
  abbrev some_leaving : Bool
  some_leaving = some_below 32 (λ k. leaves (s.width * s.rows) (word counts k) (left k) (lit k))

  pub settled-over : some_over s counts ≡ true → 30 ≡ settled_number s counts left lit
  unfolding settled_number first_of
  settled-over h = rw h

  pub settled-leaving : some_over s counts ≡ false → some_leaving ≡ true → 30 ≡ settled_number s counts left lit
  unfolding settled_number first_of
  settled-leaving h k = rw (h, k)

  pub settled-moved : some_over s counts ≡ false → some_leaving ≡ false → 0 ≡ settled_number s counts left lit
  unfolding settled_number first_of
  settled-moved h k = rw (h, k)
