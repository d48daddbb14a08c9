-- The characters of a CU file, one after the other.
use Prim.Native.Nat.{ℕ, ◌+◌, ◌-◌, ◌*◌, ◌<◌, ◌≤◌}
use mathlib.Core.Path.{◌≡◌}
use mathlib.Core.List.{List}
use native.Mathlib.Nat.{le-div_iff_mul-le, suc-mul}
use native.Mathlib.Numerals.{add-one}
use native.Mathlib.Omega.{arith}
use lib.ListN.{length}
use Rattle.convert.specs.Cu.{char_words, chars, char_at}

module _ (ws : List ℕ) where
  pub char-next : (k : ℕ) → char_at ws k + char_words ws ≡ char_at ws (k + 1)
  unfolding char_at
  char-next k = rw (add-one k) (let more = suc-mul k (char_words ws) in omega arith)

  some_words : 0 < char_words ws
  unfolding char_words
  some_words = omega arith

  -- a character ends within the file, so that its place and its words sum without wrapping
  pub char-within : (k : ℕ) → k < chars ws → char_at ws k + char_words ws ≤ length ws
  unfolding char_at chars
  char-within k h =
      let all : (k + 1) * char_words ws ≤ length ws - 2 = (le-div_iff_mul-le some_words).0 (omega arith) in
      let more : (k + 1) * char_words ws ≡ k * char_words ws + char_words ws = rw (add-one k) (suc-mul k (char_words ws)) in
      let some = some_words in
      omega arith
