-- Bytes put one behind the other.
use Prim.Native.Nat.{ℕ, suc, ◌+◌, ◌<◌, ◌≤◌}
use mathlib.Core.Path.{◌≡◌, refl, sym, ap, ◌∙◌}
use mathlib.Core.List.{List, [], ◌∷◌, ◌++◌}
use native.Mathlib.Numerals.{add-one}
use lib.ListN.{length, get_or, drop, drop_of_length-le}
use lib.Seq.{drop-cons}
use Rattle.replay.specs.Text.{Waiting, with_byte, with_bytes}

pub puts-join : (before : Waiting) (xs ys : List ℕ) → with_bytes (with_bytes before xs) ys ≡ with_bytes before (xs ++ ys)
unfolding with_bytes
puts-join before [] ys = refl
puts-join before (x ∷ xs) ys = puts-join (with_byte before x) xs ys

-- bytes behind bytes
pub then : {between after : Waiting} (before : Waiting) (xs ys : List ℕ)
    → between ≡ with_bytes before xs → after ≡ with_bytes between ys → after ≡ with_bytes before (xs ++ ys)
then before xs ys first second = second ∙ ap (λ (w : Waiting). with_bytes w ys) first ∙ puts-join before xs ys

-- the same bytes in other words
pub puts-same : {after : Waiting} {xs ys : List ℕ} (before : Waiting) → after ≡ with_bytes before xs → xs ≡ ys
    → after ≡ with_bytes before ys
puts-same before put same = put ∙ ap (with_bytes before) same

-- one byte, and bytes behind it
pub one_byte : {after : Waiting} (before : Waiting) (b : ℕ) → after ≡ with_byte before b → after ≡ with_bytes before (b ∷ [])
unfolding with_bytes
one_byte before b e = e

pub byte-then : {between after : Waiting} (before : Waiting) (b : ℕ) (ys : List ℕ)
    → between ≡ with_byte before b → after ≡ with_bytes between ys → after ≡ with_bytes before (b ∷ ys)
byte-then before b ys first second = then before (b ∷ []) ys (one_byte before b first) second

-- no byte
pub no_byte : (before : Waiting) → before ≡ with_bytes before []
unfolding with_bytes
no_byte before = refl

-- a loop that puts all bytes
module _ (start now : Waiting) (bytes : List ℕ) (i : ℕ) (left : with_bytes start bytes ≡ with_bytes now (drop i bytes)) where
  pub all_more : (next : Waiting) → i < length bytes → next ≡ with_byte now (get_or bytes i 0)
      → with_bytes start bytes ≡ with_bytes next (drop (i + 1) bytes)
  unfolding with_bytes
  all_more next here put =
      left
      ∙ ap (with_bytes now) (drop-cons bytes i 0 here)
      ∙ ap (λ (w : Waiting). with_bytes w (drop (suc i) bytes)) (sym put)
      ∙ ap (λ (k : ℕ). with_bytes next (drop k bytes)) (sym (add-one i))

  pub all_done : length bytes ≤ i → now ≡ with_bytes start bytes
  unfolding with_bytes
  all_done past = sym (left ∙ ap (with_bytes now) (drop_of_length-le bytes past))

-- what is left to be put, where its first part has been
pub part-put : (start now next : Waiting) (all left part rest : List ℕ) → with_bytes start all ≡ with_bytes now left → left ≡ part ++ rest
    → next ≡ with_bytes now part → with_bytes start all ≡ with_bytes next rest
part-put start now next all left part rest inv split put =
    inv ∙ ap (with_bytes now) split ∙ sym (puts-join now part rest) ∙ ap (λ (w : Waiting). with_bytes w rest) (sym put)

pub nothing_left : (start now : Waiting) (all left : List ℕ) → with_bytes start all ≡ with_bytes now left → left ≡ []
    → now ≡ with_bytes start all
unfolding with_bytes
nothing_left start now all left inv none = sym (inv ∙ ap (with_bytes now) none)
