-- P2, the calls with counts: the counts that are put into their register are read again from it.
use Prim.Native.Nat.{ℕ, ◌+◌, ◌*◌, ◌/◌, ◌%◌, ◌<◌}
use mathlib.Core.Path.{◌≡◌, ap, ap₂, ◌∙◌}
use mathlib.Core.List.{List}
use native.Mathlib.Omega.{arith}
use lib.ListN.{length}
use lib.Seq.{take_all}
use Rattle.words.specs.Word.{word}
use Rattle.words.proofs.Tables.{table-length, table_at, table_same, table-words}
use Rattle.replay.specs.declared.names.Register.TheVariants.{Counts}
use Rattle.replay.specs.declared.registers.Registers.{Registers}
use Rattle.replay.specs.Calls.{count_at, counts_in, count_word, count_words}
use Rattle.replay.specs.Registers.{registers_with, with_counts}

-- the words of counts are 64, so that all of them are held
pub words-length : (given : List ℕ) → length (count_words given) ≡ 64
unfolding count_words
words-length given = table-length 64 (count_word given)

-- the register then holds the words of the counts, all of them
pub counts-stay : (given : List ℕ) (r : Registers) → registers_with Counts (count_words given) r ≡ with_counts (count_words given) r
unfolding registers_with
counts-stay given r =
    let few = words-length given in
    ap (λ words. with_counts words r) (take_all 64 (count_words given) (omega arith))

-- from which the same counts are read
module _ (given : List ℕ) (k : ℕ) (below : k < 32) where
  high_word : word (count_words given) (2 * k) ≡ word given k / 65536
  unfolding count_words count_word
  high_word =
      let even : 2 * k % 2 ≡ 0 = omega arith in
      let half : 2 * k / 2 ≡ k = omega arith in
      table_at 64 (count_word given) (2 * k) (omega arith) ∙ rw (even, half)

  low_word : word (count_words given) (2 * k + 1) ≡ word given k % 65536
  unfolding count_words count_word
  low_word =
      let odd : (2 * k + 1) % 2 ≡ 1 = omega arith in
      let half : (2 * k + 1) / 2 ≡ k = omega arith in
      table_at 64 (count_word given) (2 * k + 1) (omega arith) ∙ rw (odd, half)

  read_back : count_at (count_words given) k ≡ word given k
  unfolding count_at
  read_back =
      let whole : word given k / 65536 * 65536 + word given k % 65536 ≡ word given k = omega arith in
      ap₂ (λ (a b : ℕ). a * 65536 + b) high_word low_word ∙ whole

pub counts-again : (given : List ℕ) → length given ≡ 32 → counts_in (count_words given) ≡ given
unfolding counts_in
counts-again given all =
    table_same 32 (count_at (count_words given)) (word given) (λ k below. read_back given k below) ∙ (rw all at (table-words given))
