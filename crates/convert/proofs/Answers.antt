-- What an answer of converting tells in the paper's numbers: the number of its refusal, and beside it 0; or 0, and the words written.
use Prim.Native.Nat.{ℕ}
use mathlib.Core.Path.{◌≡◌, refl, sym, ap, ◌∙◌}
use mathlib.Core.Bool.{Bool, true, false, cond, true≢false}
use mathlib.Core.List.{List}
use lib.Dec.{eqb}
use borrow.Author.Tests.{eqb-true}
use Rattle.std.specs.Prelude.{Result, Ok, Err}
use Rattle.words.specs.declared.refusal.Refusal.{Refusal}
use Rattle.words.specs.Refusal.{first_of, or_else, number_of, numbered, refusal_of, answered}
use Rattle.convert.specs.Writing.{file_words, drawing_number}
use Rattle.convert.specs.Cu.{drawing_of, cu_file_number}
use Rattle.convert.specs.Conversion.{cu_number, conversion_of, conversion_number, words_written, Tells}

-- 0, or the number of a refusal
pub record Known (n : ℕ) : Type 0 where
  pub known : eqb n 0 ≡ false → number_of (refusal_of n) ≡ n

-- what an answer says of its number
module _ {A : Type 0} (n : ℕ) (value : A) where
  pub accepted-by : (answer : A) → Ok answer ≡ answered n value → (n ≡ 0) × (answer ≡ value)
  unfolding answered
  accepted-by answer e = by_number (eqb n 0) refl e
    where
      by_number : (t : Bool) → eqb n 0 ≡ t → ◌≡◌ {A = Result A Refusal} (Ok answer) (cond t (Ok value) (Err (refusal_of n)))
          → (n ≡ 0) × (answer ≡ value)
      by_number true q e = (eqb-true n 0 q, cc)
      by_number false q e = cc

  pub refused-by : (refusal : Refusal) → Known n → Err refusal ≡ answered n value → number_of refusal ≡ n
  unfolding answered
  refused-by refusal known e = by_number (eqb n 0) refl e
    where
      by_number : (t : Bool) → eqb n 0 ≡ t → ◌≡◌ {A = Result A Refusal} (Err refusal) (cond t (Ok value) (Err (refusal_of n)))
          → number_of refusal ≡ n
      by_number true q e = cc
      by_number false q e = let same : refusal ≡ refusal_of n = cc in ap number_of same ∙ known.known q

module _ (n : ℕ) (is : number_of (refusal_of n) ≡ n) where
  pub known-if : (t : Bool) (others : ℕ) → Known others → Known (cond t n others)
  known-if true others rest = record { known = λ q. is }
  known-if false others rest = rest

known-none : Known 0
known-none = record { known = λ q. absurd (true≢false q) }

known-else : (first second : ℕ) → Known first → Known second → Known (or_else first second)
unfolding or_else
known-else first second h k = by_number (eqb first 0) h k
  where
    by_number : (t : Bool) → Known first → Known second → Known (cond t second first)
    by_number true h k = k
    by_number false h k = h

pub file-known : (ws : List ℕ) → Known (cu_file_number ws)
unfolding cu_file_number first_of refusal_of numbered
file-known ws = known-if 20 refl _ _ (known-if 21 refl _ _ (known-if 22 refl _ _ (known-if 23 refl _ _ known-none)))

module _ (ws : List ℕ) (room : ℕ) where
  cu-known : Known (cu_number ws room)
  unfolding cu_number drawing_number first_of refusal_of numbered
  cu-known =
      known-else
      (cu_file_number ws)
      (drawing_number (drawing_of ws) room)
      (file-known ws)
      (known-if 24 refl _ _ (known-if 25 refl _ _ (known-if 26 refl _ _ (known-if 27 refl _ _ known-none))))

  pub tells : (answer : Result ℕ Refusal) → answer ≡ conversion_of ws room → Tells answer ws room
  unfolding conversion_of answered
  tells answer is = rw is (by_number (eqb (cu_number ws room) 0) refl)
    where
      words : ℕ
      words = file_words (drawing_of ws)

      by_number : (t : Bool) → eqb (cu_number ws room) 0 ≡ t
          → (conversion_number (cond t (Ok words) (Err (refusal_of (cu_number ws room)))) ≡ cu_number ws room)
          × (words_written (cond t (Ok words) (Err (refusal_of (cu_number ws room)))) ≡ cond t words 0)
      by_number true q = (sym (eqb-true (cu_number ws room) 0 q), refl)
      by_number false q = (cu-known.known q, refl)
