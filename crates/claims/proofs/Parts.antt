-- The words of the index file of one body that is made of a strike: the words up to the body, the counts, the map, and the rest of the
-- strike, part behind part. Its format is the strike's with the index bit.
use Prim.Native.Nat.{ℕ, zero, suc, ◌+◌, ◌-◌, ◌/◌, ◌%◌, ◌<◌, ◌≤◌}
use mathlib.Core.Path.{◌≡◌, refl, sym, ap, ◌∙◌}
use mathlib.Core.Bool.{Bool, true, false}
use mathlib.Core.List.{List, [], ◌∷◌, ◌++◌}
use native.Mathlib.Omega.{arith}
use lib.Dec.{eqb, ltb}
use lib.ListN.{length, take, drop, length-append, length-drop, get_or-eq_default}
use lib.Seq.{length-take-le, get_or-take, get_or-drop, take_at, drop_at, drop-drop}
use borrow.Author.Tests.{eqb-false, ltb-true, ltb-false, eq-eqb}
use Rattle.words.specs.Word.{word, table, bit_of}
use Rattle.words.proofs.Tables.{table-length, table_at, joined-first, joined-second}
use Rattle.words.proofs.Altering.{AllWords}
use Rattle.fonts.specs.Strike.{kerned_format, index_format}

-- ---- lists of words

cons-words : (x : ℕ) (xs : List ℕ) → x < 65536 → AllWords xs → AllWords (x ∷ xs)
cons-words x xs fits all zero = fits
cons-words x xs fits all (suc i) = all i

joined_words : (xs ys : List ℕ) → AllWords xs → AllWords ys → AllWords (xs ++ ys)
joined_words [] ys all more i = more i
joined_words (x ∷ xs) ys all more zero = all 0
joined_words (x ∷ xs) ys all more (suc i) = joined_words xs ys (λ j. all (suc j)) more i

drop-words : (n : ℕ) (xs : List ℕ) → AllWords xs → AllWords (drop n xs)
drop-words n xs all i = rw (get_or-drop n xs i 0) (all (n + i))

take_words : (n : ℕ) (xs : List ℕ) → AllWords xs → AllWords (take n xs)
take_words zero xs all i = omega arith
take_words (suc n) [] all i = omega arith
take_words (suc n) (x ∷ xs) all zero = all 0
take_words (suc n) (x ∷ xs) all (suc i) = take_words n xs (λ j. all (suc j)) i

table-words : (n : ℕ) → n ≤ 65536 → AllWords (table n (λ k. k))
table-words n few i = by_end (ltb i n) refl
  where
    by_end : (t : Bool) → ltb i n ≡ t → word (table n (λ k. k)) i < 65536
    by_end true e = let less = ltb-true i n e in rw (table_at n (λ k. k) i less) (omega arith)
    by_end false e =
        let past = ltb-false i n e in
        rw (get_or-eq_default (table n (λ k. k)) 0 {n = i} (rw (table-length n (λ k. k)) past)) (omega arith)

-- ---- the words of the file, part behind part

module _ (ws : List ℕ) (format first ascent descent n : ℕ) where
  abbrev front : List ℕ
  front = format ∷ take (first - 1) (drop 1 ws)

  abbrev counts : List ℕ
  counts = ascent ∷ descent ∷ 1 ∷ []

  abbrev entries : List ℕ
  entries = table n (λ k. k)

  abbrev whole : List ℕ
  whole = front ++ (counts ++ (entries ++ drop first ws))

  pub whole_words : AllWords ws → format < 65536 → ascent < 65536 → descent < 65536 → n ≤ 65536 → AllWords whole
  whole_words all top up down few =
      let none : AllWords [] = λ i. omega arith in
      let front-all = cons-words format (take (first - 1) (drop 1 ws)) top (take_words (first - 1) (drop 1 ws) (drop-words 1 ws all)) in
      let Counts-all =
      cons-words ascent (descent ∷ 1 ∷ []) up (cons-words descent (1 ∷ []) down (cons-words 1 [] (omega arith) none)) in
      joined_words front (counts ++ (entries ++ drop first ws)) front-all
      (joined_words counts (entries ++ drop first ws) Counts-all
      (joined_words entries (drop first ws) (table-words n few) (drop-words first ws all)))

  module _ (some : 1 ≤ first) (room : first ≤ length ws) where
    front_length : length front ≡ first
    front_length =
        let rest = length-drop 1 ws in
        let taken = length-take-le (first - 1) (drop 1 ws) (omega arith) in
        omega (arith, taken)

    -- the words up to the body
    pub front-word : (i : ℕ) → 1 ≤ i → i < first → word whole i ≡ word ws i
    front-word zero low less = absurd (omega arith)
    front-word (suc i) low less =
        joined-first front _ first front_length (suc i) less
        ∙ get_or-take (first - 1) (drop 1 ws) i 0 (omega arith)
        ∙ get_or-drop 1 ws i 0
        ∙ ap (λ (k : ℕ). word ws k) (omega arith)

    -- the number of bodies
    pub count-word : word whole (first + 2) ≡ 1
    count-word = joined-second front _ first front_length 2

    behind-front : (k : ℕ) → drop (first + k) whole ≡ drop k (counts ++ (entries ++ drop first ws))
    behind-front k = sym (drop-drop k first whole) ∙ ap (drop k) (drop_at front _ first front_length)

    -- the map
    pub map-words : take n (drop (first + 3) whole) ≡ entries
    map-words = ap (take n) (behind-front 3) ∙ take_at entries (drop first ws) n (table-length n (λ k. k))

    -- and what stands behind it
    pub rest-words : (k : ℕ) → drop (first + (n + 3) + k) whole ≡ drop (first + k) ws
    rest-words k =
        let same : first + 3 + n + k ≡ first + (n + 3) + k = omega arith in
        ap (λ (j : ℕ). drop j whole) (sym same)
        ∙ sym (drop-drop k (first + 3 + n) whole)
        ∙ ap (drop k) (sym (drop-drop n (first + 3) whole)
        ∙ ap (drop n) (behind-front 3)
        ∙ drop_at entries (drop first ws) n (table-length n (λ k. k)))
        ∙ drop-drop k first ws

    pub whole_length : length whole ≡ length ws + (n + 3)
    whole_length =
        let rest = length-drop first ws in
        let table-long = table-length n (λ k. k) in
        let behind = length-append entries (drop first ws) in
        let all = length-append front (counts ++ (entries ++ drop first ws)) in
        omega (arith, front_length)

-- ---- the format: the index bit is added, and the others stay

abbrev pub by_index : ℕ → ℕ
by_index format = format + 16384

no-index-bit : (w : ℕ) → index_format w ≡ false → w / 16384 % 2 ≡ 0
unfolding index_format bit_of
no-index-bit w e = let other = eqb-false (w / 16384 % 2) 1 e in omega (arith, other)

pub index-added : (w : ℕ) → index_format w ≡ false → index_format (by_index w) ≡ true
unfolding index_format bit_of
index-added w e = let none = no-index-bit w e in eq-eqb (by_index w / 16384 % 2) 1 (omega arith)

pub kerned-kept : (w : ℕ) → kerned_format (by_index w) ≡ kerned_format w
unfolding kerned_format bit_of
kerned-kept w = let same : by_index w / 4096 % 2 ≡ w / 4096 % 2 = omega arith in ap (λ (b : ℕ). eqb b 1) same

pub top_kept : (w : ℕ) → index_format w ≡ false → bit_of (by_index w) 0 ≡ bit_of w 0
unfolding bit_of
top_kept w e =
    let none = no-index-bit w e in
    let here : w / 32768 ≡ w / 16384 / 2 = omega arith in
    let there : by_index w / 32768 ≡ by_index w / 16384 / 2 = omega arith in
    let more : by_index w / 16384 ≡ w / 16384 + 1 = omega arith in
    let same : (w / 16384 + 1) / 2 ≡ w / 16384 / 2 = omega arith in
    ap (λ (n : ℕ). n % 2) (there ∙ ap (λ (n : ℕ). n / 2) more ∙ same ∙ sym here)

-- a word stays a word
pub still-word : (w : ℕ) → index_format w ≡ false → w < 65536 → by_index w < 65536
still-word w e fits = let none = no-index-bit w e in omega arith

pub low-kept : (w : ℕ) → by_index w % 4096 ≡ w % 4096
low-kept w = omega arith
