-- The index file of one body that is made of an accepted strike: its header, its body and its tables are the strike's, and no test refuses
-- it where a code byte is left for the dummy.
use Prim.Native.Nat.{ℕ, ◌+◌, ◌-◌, ◌/◌, ◌%◌, ◌<◌, ◌≤◌}
use mathlib.Core.Path.{◌≡◌, refl, sym, ap, ap₂, ◌∙◌}
use mathlib.Core.Bool.{Bool, true, false, cond, not, ◌&&◌, ◌||◌}
use mathlib.Core.List.{List, [], ◌∷◌}
use native.Mathlib.Nat.{add-zero}
use native.Mathlib.Omega.{arith}
use lib.Dec.{eqb, ltb}
use lib.ListN.{length, take, drop}
use lib.Seq.{get_or-drop}
use borrow.Author.Tests.{eqb-true, ltb-false, le-ltb, lt-leb, eq-eqb, not-false}
use Rattle.words.specs.Word.{word, table, bit_of}
use Rattle.words.specs.Refusal.{first_of, or_else, not_within}
use Rattle.words.specs.Search.{some_below}
use Rattle.words.specs.Place.{place_of_word}
use Rattle.words.proofs.Tables.{table_at}
use Rattle.words.proofs.Passed.{passed, stages-passed}
use Rattle.words.proofs.Search.{none_passes, some-here}
use Rattle.words.proofs.Altering.{AllWords}
use Rattle.fonts.specs.declared.Header.{Header}
use Rattle.fonts.specs.declared.Body.{Body}
use Rattle.fonts.specs.declared.Strike.{Strike}
use Rattle.fonts.specs.declared.Name.{Name}
use Rattle.fonts.specs.Strike.{count_at, header_by, header_of, kerned, index, codes, map_at, map_of, first_at, body_of, start_from}
use Rattle.fonts.specs.Strike.{strike_at}
use Rattle.fonts.specs.Strike.{bitmap_words, pointer_count, pointers_of, behind, widths_of}
use Rattle.fonts.specs.Entry.{name_of, name_in, marked}
use Rattle.fonts.specs.Reading.{too_short, bad_format, kerned_too_short, bad_codes, bad_count, bad_box, front_number, bad_sizes}
use Rattle.fonts.specs.Reading.{wrong_length}
use Rattle.fonts.specs.Reading.{wrong_end, head_number, bad_pointers, body_number, bodies_number, pairs_in, lost, lost_at, nameless}
use Rattle.fonts.specs.Reading.{no_dummy}
use Rattle.fonts.specs.Reading.{table_number, number_by, font_number}
use Rattle.claims.proofs.Parts.{whole_words, front-word, count-word, map-words, rest-words, whole_length, by_index, index-added}
use Rattle.claims.proofs.Parts.{kerned-kept, top_kept, still-word, low-kept}
use Rattle.claims.specs.OneBody.{indexed, later, Single, Few}

-- ---- what an accepted strike has passed

pub record Front (h : Header) (count : ℕ) : Type 0 where
  nine : 9 ≤ count
  format : bad_format h ≡ false
  long : kerned_too_short h count ≡ false
  pub range : bad_codes h ≡ false
  box : bad_box h ≡ false

pub front-passed : (h : Header) (count : ℕ) → front_number h count ≡ 0 → Front h count
unfolding front_number first_of too_short
front-passed h count e =
    let short = passed (ltb count 9) 1 _ (omega arith) e in
    let format = passed (bad_format h) 2 _ (omega arith) short.1 in
    let long = passed (kerned_too_short h count) 1 _ (omega arith) format.1 in
    let range = passed (bad_codes h) 3 _ (omega arith) long.1 in
    let bodies = passed (bad_count h) 15 _ (omega arith) range.1 in
    let before = passed (ltb count (first_at h)) 1 _ (omega arith) bodies.1 in
    let box = passed (bad_box h) 4 _ (omega arith) before.1 in
    record { nine = ltb-false count 9 short.0; format = format.0; long = long.0; range = range.0; box = box.0 }

record Only (h : Header) (b : Body) (at count : ℕ) : Type 0 where
  five : at + 5 ≤ count
  sizes : bad_sizes b ≡ false
  exact : b.words ≡ bitmap_words b + 7 + codes h
  end : count ≡ at + b.words + behind h

only-passed : (h : Header) (b : Body) (at count : ℕ) → index h ≡ false → head_number h b at true count ≡ 0 → Only h b at count
unfolding head_number first_of wrong_length wrong_end
only-passed h b at count single e =
    let five = passed (ltb count (at + 5)) 5 _ (omega arith) e in
    let sizes = passed (bad_sizes b) 4 _ (omega arith) five.1 in
    let lengths = passed (wrong_length h b) 5 _ (omega arith) sizes.1 in
    let end = passed (not (eqb count (at + b.words + behind h))) 5 _ (omega arith) lengths.1 in
    let long : not (eqb b.words (bitmap_words b + 7 + codes h)) ≡ false = rw single at lengths.0 in
    record {
      five = ltb-false count (at + 5) five.0;
      sizes = sizes.0;
      exact = eqb-true b.words (bitmap_words b + 7 + codes h) (not-false _ long);
      end = eqb-true count (at + b.words + behind h) (not-false _ end.0);
    }

-- ---- names in a map

code-named : (k : ℕ) → k ≤ 255 → name_of k ≡ record { missing = false; body = 0; code = k }
unfolding name_of bit_of
code-named k low =
    let top : k / 32768 % 2 ≡ 0 = omega arith in
    let body : k / 256 % 128 ≡ 0 = omega arith in
    let code : k % 256 ≡ k = omega arith in
    λ i. record { missing = eqb (top i) 1; body = body i; code = code i }

pub only-name : (h : Header) (ws : List ℕ) → index h ≡ false → (k : ℕ) → name_in h ws k ≡ record { missing = false; body = 0; code = k }
unfolding name_in
only-name h ws single k = rw single

pub and_none : (t : Bool) → (t && false) ≡ false
and_none true = refl
and_none false = refl

-- ---- what is made of a strike

-- the header of the file
abbrev pub made_header : List ℕ → Header
made_header ws =
    let h = header_of ws in
    record { format = by_index h.format; min = h.min; max = h.max; fbbox = h.fbbox; bodies = 1 }

-- the strike's only body, and where it is then
abbrev pub made_strike : List ℕ → Strike
made_strike ws = record { bitmap = first_at (made_header ws) + 5; body = body_of ws (first_at (header_of ws)) }

-- ---- a strike

module _ (ws : List ℕ) (from : Single ws) where
  abbrev h : Header
  h = header_of ws

  abbrev b : Body
  b = body_of ws (first_at h)

  abbrev h' : Header
  h' = made_header ws

  abbrev ws' : List ℕ
  ws' = indexed ws

  pub one-body : h.bodies ≡ 1
  unfolding header_of header_by
  one-body = ap (λ (t : Bool). cond t (word ws (count_at (word ws 0))) 1) from.single

  front-good : Front h (length ws)
  unfolding font_number number_by
  front-good = front-passed h (length ws) (stages-passed _ _ from.good).0

  bodies-good : bodies_number h ws h.bodies ≡ 0
  unfolding font_number number_by
  bodies-good = (stages-passed _ (table_number h ws) (stages-passed _ _ from.good).1).0

  body-good : body_number h ws (first_at h) true ≡ 0
  unfolding bodies_number start_from or_else
  body-good =
      sym (ap (λ (n : ℕ). body_number h ws (first_at h) (eqb 1 n)) one-body) ∙ sym (ap (bodies_number h ws) one-body) ∙ bodies-good

  only-good : Only h b (first_at h) (length ws)
  unfolding body_number
  only-good = only-passed h b (first_at h) (length ws) from.single (stages-passed _ _ body-good).0

  pointers-good : bad_pointers b (pointers_of (strike_at ws (first_at h)) ws) ≡ false
  unfolding body_number first_of
  pointers-good = (passed (bad_pointers b (pointers_of (strike_at ws (first_at h)) ws)) 6 0 (omega arith) (stages-passed _ _ body-good).1).0

  tables-good : table_number h ws ≡ 0
  unfolding font_number number_by
  tables-good = (stages-passed (bodies_number h ws h.bodies) (table_number h ws) (stages-passed _ _ from.good).1).1

  dummy-good : no_dummy h ws ≡ false
  unfolding table_number first_of
  dummy-good =
      (passed (no_dummy h ws) 7 0 (omega arith) (passed (nameless h ws) 16 (cond (no_dummy h ws) 7 0) (omega arith) tables-good).1).0

  -- without an index the body begins with word 4, and in a kerned file with word 8
  first-is : first_at h ≡ cond (kerned h) 8 4
  unfolding first_at
  first-is = rw from.single

  four : 4 ≤ first_at h
  four = rw first-is (by_kind (kerned h))
    where
      by_kind : (t : Bool) → 4 ≤ cond t 8 4
      by_kind true = omega arith
      by_kind false = omega arith

  some : 1 ≤ first_at h
  some = omega (arith, four)

  room : first_at h ≤ length ws
  room = let five = only-good.five in omega (arith, five)

  pub index_is : index h' ≡ true
  index_is = index-added h.format from.single

  pub kerned-is : kerned h' ≡ kerned h
  kerned-is = kerned-kept h.format

  -- the body begins so many words later
  later-is : codes h + 1 + 3 ≡ later ws
  later-is = omega arith

  pub first'-is : first_at h' ≡ first_at h + later ws
  unfolding first_at map_at
  first'-is = rw (index_is, kerned-is, from.single) (by_kind (kerned h))
    where
      by_kind : (t : Bool) → cond t 11 7 + codes h + 1 ≡ cond t 8 4 + later ws
      by_kind true = omega arith
      by_kind false = omega arith

  map-at : map_at h' ≡ first_at h + 3
  unfolding first_at map_at
  map-at = rw (kerned-is, from.single) (by_kind (kerned h))
    where
      by_kind : (t : Bool) → cond t 11 7 ≡ cond t 8 4 + 3
      by_kind true = refl
      by_kind false = refl

  count-at : count_at (by_index h.format) ≡ first_at h + 2
  unfolding first_at count_at
  count-at = rw (kerned-is, from.single) (by_kind (kerned h))
    where
      by_kind : (t : Bool) → cond t 10 6 ≡ cond t 8 4 + 2
      by_kind true = refl
      by_kind false = refl

  -- ---- its words

  front-is : (i : ℕ) → 1 ≤ i → i < first_at h → word ws' i ≡ word ws i
  unfolding indexed
  front-is i low less = front-word ws (word ws 0 + 16384) (first_at h) b.ascent b.descent (codes h + 1) some room i low less

  count-is : word ws' (first_at h + 2) ≡ 1
  unfolding indexed
  count-is = count-word ws (word ws 0 + 16384) (first_at h) b.ascent b.descent (codes h + 1) some room

  map_is : map_of h' ws' ≡ table (codes h + 1) (λ k. k)
  unfolding indexed map_of
  map_is =
      ap (λ (at : ℕ). take (codes h + 1) (drop at ws')) map-at
      ∙ map-words ws (word ws 0 + 16384) (first_at h) b.ascent b.descent (codes h + 1) some room

  pub rest-is : (k : ℕ) → drop (first_at h + later ws + k) ws' ≡ drop (first_at h + k) ws
  unfolding indexed
  rest-is k =
      ap (λ (n : ℕ). drop (first_at h + n + k) ws') (sym later-is)
      ∙ rest-words ws (word ws 0 + 16384) (first_at h) b.ascent b.descent (codes h + 1) some room k

  pub word-is : (k : ℕ) → word ws' (first_at h + later ws + k) ≡ word ws (first_at h + k)
  word-is k =
      ap (λ (i : ℕ). word ws' i) (sym (add-zero (first_at h + later ws + k)))
      ∙ sym (get_or-drop (first_at h + later ws + k) ws' 0 0)
      ∙ ap (λ (xs : List ℕ). word xs 0) (rest-is k)
      ∙ get_or-drop (first_at h + k) ws 0 0
      ∙ ap (λ (i : ℕ). word ws i) (add-zero (first_at h + k))

  length-is : length ws' ≡ length ws + later ws
  unfolding indexed
  length-is =
      whole_length ws (word ws 0 + 16384) (first_at h) b.ascent b.descent (codes h + 1) some room
      ∙ ap (λ (n : ℕ). length ws + n) later-is

  -- ---- its header, body and tables

  box-is : cond (kerned h') (word ws' 4) 0 ≡ cond (kerned h) (word ws 4) 0
  box-is = ap (λ (t : Bool). cond t (word ws' 4) 0) kerned-is ∙ by_kind (kerned h) refl
    where
      by_kind : (t : Bool) → kerned h ≡ t → cond t (word ws' 4) 0 ≡ cond t (word ws 4) 0
      by_kind true is =
          let eight : first_at h ≡ 8 = first-is ∙ ap (λ (t : Bool). cond t 8 4) is in
          front-is 4 (omega arith) (omega (arith, eight))
      by_kind false is = refl

  bodies-is : cond (index h') (word ws' (count_at h'.format)) 1 ≡ 1
  bodies-is =
      ap (λ (t : Bool). cond t (word ws' (count_at h'.format)) 1) index_is
      ∙ ap (λ (at : ℕ). word ws' at) count-at
      ∙ count-is

  pub header_is : header_of ws' ≡ h'
  unfolding header_of header_by indexed
  header_is =
      λ i.
      record {
        format = by_index (word ws 0);
        min = front-is 1 (omega arith) (omega (arith, four)) i;
        max = front-is 2 (omega arith) (omega (arith, four)) i;
        fbbox = box-is i;
        bodies = bodies-is i;
      }

  pub body_is : body_of ws' (first_at h') ≡ b
  unfolding body_of
  body_is =
      ap (body_of ws') first'-is
      ∙ (λ i. record { words = start i; ascent = word-is 1 i; descent = word-is 2 i; xoffset = word-is 3 i; raster = word-is 4 i })
    where
      start : word ws' (first_at h + later ws) ≡ word ws (first_at h)
      start =
          ap (λ (i : ℕ). word ws' i) (sym (add-zero (first_at h + later ws))) ∙ word-is 0
          ∙ ap (λ (i : ℕ). word ws i) (add-zero (first_at h))

  abbrev s : Strike
  s = strike_at ws (first_at h)

  abbrev s' : Strike
  s' = made_strike ws

  pub pointers-are : pointers_of s' ws' ≡ pointers_of s ws
  unfolding pointers_of
  pointers-are =
      let there : first_at h' + 5 + bitmap_words b ≡ first_at h + later ws + (5 + bitmap_words b) = omega (arith, first'-is) in
      let here : first_at h + (5 + bitmap_words b) ≡ first_at h + 5 + bitmap_words b = omega arith in
      ap (take (pointer_count b))
      (ap (λ (at : ℕ). drop at ws') there ∙ rest-is (5 + bitmap_words b) ∙ ap (λ (at : ℕ). drop at ws) here)

  -- the body alone has more words than there are width entries
  wide : first_at h + (codes h + 1) ≤ length ws
  wide = let only = only-good in omega (arith, only.exact, only.end)

  pub widths-are : widths_of h' ws' ≡ widths_of h ws
  unfolding widths_of
  widths-are =
      let k : ℕ = length ws - (codes h + 1) - first_at h in
      let there : length ws' - (codes h + 1) ≡ first_at h + later ws + k = omega (arith, length-is, wide) in
      let here : first_at h + k ≡ length ws - (codes h + 1) = omega (arith, wide) in
      ap (take (codes h + 1)) (ap (λ (at : ℕ). drop at ws') there ∙ rest-is k ∙ ap (λ (at : ℕ). drop at ws) here)

  -- ---- it is accepted

  length-good : too_short (length ws') ≡ false
  unfolding too_short
  length-good = let nine = front-good.nine in le-ltb (length ws') 9 (omega (arith, nine, length-is))

  format-good : bad_format h' ≡ false
  unfolding bad_format
  format-good =
      ap₂ (λ (top low : ℕ). eqb top 0 || ltb 0 low) (top_kept h.format from.single) (low-kept h.format) ∙ front-good.format

  kerned-long : kerned_too_short h' (length ws') ≡ false
  unfolding kerned_too_short
  kerned-long = ap (λ (t : Bool). t && ltb (length ws') 13) kerned-is ∙ by_kind (kerned h) front-good.long
    where
      by_kind : (t : Bool) → (t && ltb (length ws) 13) ≡ false → (t && ltb (length ws') 13) ≡ false
      by_kind true e =
          let thirteen = ltb-false (length ws) 13 e in
          le-ltb (length ws') 13 (omega (arith, thirteen, length-is))
      by_kind false e = refl

  codes-good : bad_codes h' ≡ false
  unfolding bad_codes
  codes-good = front-good.range

  count-good : bad_count h' ≡ false
  unfolding bad_count not_within
  count-good = refl

  before-good : ltb (length ws') (first_at h') ≡ false
  before-good = le-ltb (length ws') (first_at h') (omega (arith, length-is, first'-is, room))

  box-good : bad_box h' ≡ false
  unfolding bad_box
  box-good = ap (λ (t : Bool). t && not_within 1793 2303 (place_of_word h.fbbox)) kerned-is ∙ front-good.box

  front-number : front_number h' (length ws') ≡ 0
  unfolding front_number first_of
  front-number =
      λ i.
      first_of
      ((length-good i, 1)
      ∷ (format-good i, 2)
      ∷ (kerned-long i, 1)
      ∷ (codes-good i, 3)
      ∷ (count-good i, 15)
      ∷ (before-good i, 1)
      ∷ (box-good i, 4)
      ∷ [])

  five-there : ltb (length ws') (first_at h' + 5) ≡ false
  five-there = let five = only-good.five in le-ltb (length ws') (first_at h' + 5) (omega (arith, five, length-is, first'-is))

  body-length : wrong_length h' b ≡ false
  unfolding wrong_length
  body-length = let exact = only-good.exact in rw index_is (le-ltb b.words (bitmap_words b + 7) (omega (arith, exact)))

  behind-is : behind h' ≡ behind h
  unfolding behind
  behind-is = rw kerned-is

  end-good : wrong_end h' (first_at h' + b.words) true (length ws') ≡ false
  unfolding wrong_end
  end-good =
      let end = only-good.end in
      ap not
      (eq-eqb (length ws') (first_at h' + b.words + behind h') (omega (arith, end, length-is, first'-is, behind-is)))

  head-number : head_number h' b (first_at h') true (length ws') ≡ 0
  unfolding head_number first_of
  head-number = λ i. first_of ((five-there i, 5) ∷ (only-good.sizes i, 4) ∷ (body-length i, 5) ∷ (end-good i, 5) ∷ [])

  pointers-pass : bad_pointers b (pointers_of s' ws') ≡ false
  pointers-pass = ap (bad_pointers b) pointers-are ∙ pointers-good

  body-number : body_number h' ws' (first_at h') true ≡ 0
  unfolding body_number first_of or_else
  body-number =
      ap (λ (c : Body). or_else (head_number h' c (first_at h') true (length ws'))
      (first_of ((bad_pointers c (pointers_of (record { bitmap = first_at h' + 5; body = c }) ws'), 6) ∷ []))) body_is
      ∙ (λ i. or_else (head-number i) (first_of ((pointers-pass i, 6) ∷ [])))

  bodies-number : bodies_number h' ws' 1 ≡ 0
  unfolding bodies_number start_from or_else
  bodies-number = body-number

  -- what the map says at a place
  name-at : (k : ℕ) → k ≤ codes h → name_in h' ws' k ≡ name_of k
  unfolding name_in
  name-at k low = rw (index_is, map_is, table_at (codes h + 1) (λ j. j) k (omega arith))

  -- the dummy is not marked absent
  dummy-kept : marked h' false (word (widths_of h' ws') (codes h)) ≡ false
  unfolding no_dummy marked
  dummy-kept =
      rw (widths-are, kerned-is)
      (sym (ap (λ (name : Name). name.missing || (kerned h && eqb (word (widths_of h ws) (codes h)) 0xFFFF)) own) ∙ dummy-good)
    where
      own : name_in h ws (codes h) ≡ record { missing = false; body = 0; code = codes h }
      own = only-name h ws from.single (codes h)

  number_is : (n : ℕ) → table_number h' ws' ≡ n → font_number ws' ≡ n
  unfolding font_number number_by or_else
  number_is n e =
      ap (λ (header : Header). number_by header ws') header_is
      ∙ (λ i. or_else (front-number i) (or_else (bodies-number i) (table_number h' ws')))
      ∙ e

  -- with the codes 0 to 255 the dummy's entry is 256, which is code 0 of a body that is not there
  dummy-lost : codes h ≡ 256 → lost_at h' ws' 256 ≡ true
  unfolding lost_at lost name_of bit_of pairs_in
  dummy-lost all =
      let kept : marked h' false (word (widths_of h' ws') 256) ≡ false =
      ap (λ (k : ℕ). marked h' false (word (widths_of h' ws') k)) (sym all) ∙ dummy-kept in
      rw (name-at 256 (omega arith), kept)

  pub made-refused : codes (header_of ws) ≡ 256 → font_number (indexed ws) ≡ 16
  unfolding table_number first_of nameless
  made-refused all =
      let lost-one : some_below (codes h + 1) (lost_at h' ws') ≡ true =
      some-here (lost_at h' ws') (codes h + 1) 256 (omega arith) (dummy-lost all) in
      number_is 16 (rw (index_is, lost-one))

  -- ---- with a code byte left for the dummy

  module _ (few : Few ws) where
    -- entry k of the map: code k of body 0
    pub name-is : (k : ℕ) → k ≤ codes h → name_in h' ws' k ≡ record { missing = false; body = 0; code = k }
    name-is k low = name-at k low ∙ code-named k (omega arith)

    pairs-are : pairs_in h' ws' 0 ≡ codes h + 2
    unfolding pairs_in start_from
    pairs-are = let exact = only-good.exact in ap pointer_count body_is ∙ omega (arith, exact)

    found : (k : ℕ) → k < codes h + 1 → lost_at h' ws' k ≡ false
    unfolding lost_at lost
    found k low =
        rw (name-is k (omega arith), pairs-are, lt-leb (codes h + 2) (k + 1) (omega arith))
        (and_none (not (marked h' false (word (widths_of h' ws') k))))

    all_found : nameless h' ws' ≡ false
    unfolding nameless
    all_found = rw index_is (none_passes (lost_at h' ws') (codes h + 1) found)

    dummy-there : no_dummy h' ws' ≡ false
    unfolding no_dummy
    dummy-there = rw (name-is (codes h) (omega arith)) dummy-kept

    table-number : table_number h' ws' ≡ 0
    unfolding table_number first_of
    table-number = λ i. first_of ((all_found i, 16) ∷ (dummy-there i, 7) ∷ [])

    pub made-accepted : font_number (indexed ws) ≡ 0
    made-accepted = number_is 0 table-number

    pub made-words : AllWords ws → AllWords (indexed ws)
    unfolding indexed body_of header_of header_by
    made-words all =
        whole_words ws (word ws 0 + 16384) (first_at h) b.ascent b.descent (codes h + 1) all
        (still-word (word ws 0) from.single (all 0)) (all (first_at h + 1)) (all (first_at h + 2)) (omega arith)
