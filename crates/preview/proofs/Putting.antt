-- Bytes put into a lent slice from a place on, one run behind the other.
use Prim.Native.Nat.{ℕ, ◌+◌, ◌≤◌}
use mathlib.Core.Path.{◌≡◌, refl, sym, ap, ap₂, ◌∙◌}
use mathlib.Core.List.{List, [], ◌++◌, append_assoc}
use native.Mathlib.Nat.{add-zero, zero-add}
use native.Mathlib.Omega.{arith}
use lib.ListN.{length, take, drop, take-append-drop}
use lib.Seq.{take_at, drop_at, drop-drop, length-take-le}
use Rattle.words.proofs.Tables.{joined_length}
use borrow.Rule.Slice.PartMut.{put_mid}
use Rattle.preview.specs.Picture.{put_at, Put}

pub put-none : (at : ℕ) (lent : List ℕ) → Put at [] lent at lent
unfolding put_at
put-none at lent = record {
  ends = sym (add-zero at);
  leaves = sym (ap (λ (k : ℕ). take at lent ++ drop k lent) (add-zero at) ∙ take-append-drop at lent);
}

-- from the first byte on
pub put_first : (bytes lent : List ℕ) → put_at 0 bytes lent ≡ bytes ++ drop (length bytes) lent
unfolding put_at
put_first bytes lent = ap (λ (k : ℕ). bytes ++ drop k lent) (zero-add (length bytes))

-- what is put first is counted within the slice
pub first_counted : {n : ℕ} {xs lent l : List ℕ} → Put 0 xs lent n l → n ≤ length l
first_counted {n = n} {xs = xs} {lent = lent} {l = l} put =
    let whole = put.leaves ∙ put_first xs lent in
    let sum = ap length whole ∙ joined_length xs (drop (length xs) lent) (length xs) refl (length (drop (length xs) lent)) refl in
    let count = put.ends in
    omega arith

pub put_run : (at k : ℕ) (bytes lent after : List ℕ) → k ≡ length bytes → after ≡ bytes
    → Put at bytes lent (at + length bytes) (put_mid at k lent after)
unfolding put_at
put_run at k bytes lent after many written = record {
  ends = refl;
  leaves = ap₂ (λ (l : List ℕ) (n : ℕ). take at lent ++ (l ++ drop n (drop at lent))) written many
      ∙ ap (λ (l : List ℕ). take at lent ++ (bytes ++ l)) (drop-drop (length bytes) at lent);
}

-- one run behind the other is one run
module _ (at : ℕ) (xs ys lent : List ℕ) (here : at ≤ length lent) where
  abbrev front : List ℕ
  front = take at lent

  front_length : length (front ++ xs) ≡ at + length xs
  front_length = joined_length front xs at (length-take-le at lent here) (length xs) refl

  whole : put_at at xs lent ≡ (front ++ xs) ++ drop (at + length xs) lent
  unfolding put_at
  whole = sym (append_assoc front xs (drop (at + length xs) lent))

  both-length : length (xs ++ ys) ≡ length xs + length ys
  both-length = joined_length xs ys (length xs) refl (length ys) refl

  sums : at + length xs + length ys ≡ at + length (xs ++ ys)
  sums = let sum = both-length in omega arith

  before : take (at + length xs) (put_at at xs lent) ≡ front ++ xs
  before = ap (take (at + length xs)) whole ∙ take_at (front ++ xs) (drop (at + length xs) lent) (at + length xs) front_length

  behind : drop (at + length xs + length ys) (put_at at xs lent) ≡ drop (at + length (xs ++ ys)) lent
  behind =
      sym (drop-drop (length ys) (at + length xs) (put_at at xs lent))
      ∙ ap (λ (l : List ℕ). drop (length ys) (drop (at + length xs) l)) whole
      ∙ ap (drop (length ys)) (drop_at (front ++ xs) (drop (at + length xs) lent) (at + length xs) front_length)
      ∙ drop-drop (length ys) (at + length xs) lent
      ∙ ap (λ (k : ℕ). drop k lent) sums

  twice : put_at (at + length xs) ys (put_at at xs lent) ≡ put_at at (xs ++ ys) lent
  unfolding put_at
  twice =
      ap₂ (λ (a b : List ℕ). a ++ (ys ++ b)) before behind
      ∙ append_assoc front xs (ys ++ drop (at + length (xs ++ ys)) lent)
      ∙ ap (λ (a : List ℕ). front ++ a) (sym (append_assoc xs ys (drop (at + length (xs ++ ys)) lent)))

-- bytes put behind those that have been put are one run
pub then : {at mid end : ℕ} {xs ys lent between after : List ℕ}
    → Put at xs lent mid between → Put mid ys between end after → at ≤ length lent → Put at (xs ++ ys) lent end after
then {at = at} {xs = xs} {ys = ys} {lent = lent} first second here = record {
  ends = let sum = both-length at xs ys lent here in let a = first.ends in let b = second.ends in omega arith;
  leaves = second.leaves ∙ ap₂ (λ (k : ℕ) (l : List ℕ). put_at k ys l) first.ends first.leaves ∙ twice at xs ys lent here;
}
