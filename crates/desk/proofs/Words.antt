-- Words of bytes, once the number is known.
use Prim.Native.Nat.{ℕ, ◌/◌, min}
use mathlib.Core.Path.{◌≡◌, sym}
use mathlib.Core.List.{List}
use native.Mathlib.Omega.{arith}
use lib.Dec.{ltb}
use lib.ListN.{length}
use borrow.Author.Tests.{ne_eqb, ltb-false}
use Rattle.words.specs.Word.{word, words_of, odd_bytes, over}
use Rattle.words.specs.Refusal.{first_of}
use Rattle.words.proofs.Passed.{passed}
use Rattle.desk.specs.declared.Written.{Written}
use Rattle.desk.specs.Desk.{words_number, words_answer, words_after}

abbrev answer : ℕ → ℕ → Written
answer number words = record { number = number; words = words }

module _ (bytes : List ℕ) (room : ℕ) where
  pub words-refused : (n : ℕ) → n ≡ words_number bytes room → (n ≡ 0 → ⊥) → answer n 0 ≡ words_answer bytes room
  unfolding words_answer
  words-refused n e some = rw (← e) (rw (ne_eqb n 0 some))

  pub words-done : (count : ℕ) → 0 ≡ words_number bytes room → count ≡ length bytes / 2 → answer 0 count ≡ words_answer bytes room
  unfolding words_answer
  words-done count e same = rw (← e) (λ i. record { number = 0; words = same i })

  -- there is room for them all
  pub words-fit : 0 ≡ words_number bytes room → min (length bytes / 2) room ≡ length bytes / 2
  unfolding words_number first_of
  words-fit e =
      let even = passed (odd_bytes bytes) 14 _ (omega arith) (sym e) in
      let fits = ltb-false room (length bytes / 2) (passed (ltb room (length bytes / 2)) 27 _ (omega arith) even.1).0 in
      omega arith

module _ (bytes out : List ℕ) where
  pub out_stays : (n : ℕ) → n ≡ words_number bytes (length out) → (n ≡ 0 → ⊥) → out ≡ words_after bytes out
  unfolding words_after
  out_stays n e some = rw (← e) (rw (ne_eqb n 0 some))

  pub out_written : (after : List ℕ) → 0 ≡ words_number bytes (length out) → after ≡ over (length bytes / 2) (word (words_of bytes)) out
      → after ≡ words_after bytes out
  unfolding words_after
  out_written after e same = rw (← e) same
