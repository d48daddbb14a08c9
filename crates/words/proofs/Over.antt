-- Laws of a lent slice whose first words have been written over.
use Prim.Native.Nat.{ℕ, zero, suc, ◌+◌, ◌-◌, ◌<◌, ◌≤◌}
use mathlib.Core.Path.{◌≡◌, refl, sym, ap, ap₂, ◌∙◌}
use mathlib.Core.Bool.{Bool, true, false}
use mathlib.Core.List.{List, ◌++◌}
use mathlib.Core.Logic.{◌≢◌}
use native.Mathlib.Nat.{add-zero, zero-add, add-suc}
use native.Mathlib.Numerals.{add-one}
use native.Mathlib.Omega.{arith}
use lib.Dec.{eqb, ltb}
use lib.ListN.{length, set, take, drop, length-set, length-drop}
use lib.Seq.{get_or-set_same, get_or-set_other, get_or-drop, set-get_or, take_at, ext_get_or}
use borrow.Author.Tests.{eqb-true, eqb-false, ltb-true, ltb-false}
use Rattle.words.specs.Word.{word, over, table}
use Rattle.words.proofs.Tables.{table-length, table_at, joined_length, joined-first, joined-second}

pub over-length : (n : ℕ) (f : ℕ → ℕ) (p : List ℕ) → length (over n f p) ≡ length p
unfolding over
over-length zero f p = refl
over-length (suc n) f p = simp length-set (over-length n f p)

pub over-past : (n : ℕ) (f : ℕ → ℕ) (p : List ℕ) (i : ℕ) → n ≤ i → word (over n f p) i ≡ word p i
unfolding over
over-past zero f p i h = refl
over-past (suc n) f p i h = get_or-set_other (over n f p) n i (f n) 0 (λ q. absurd (omega arith)) ∙ over-past n f p i (omega arith)

-- what a loop does in a turn
pub over-step : (n d : ℕ) (f : ℕ → ℕ) (now before : List ℕ) → now ≡ over n f before → d ≡ f n → set now n d ≡ over (n + 1) f before
unfolding over
over-step n d f now before same becomes =
    ap (λ (q : List ℕ). set q n d) same ∙ ap (set (over n f before) n) becomes ∙ sym (ap (λ (k : ℕ). over k f before) (add-one n))

-- so a loop that writes finds its turns by itself
pub ruleset over_turn = (over-step)

-- a word that was written
last-or-before : (n : ℕ) (f : ℕ → ℕ) (p : List ℕ) (i : ℕ) (t : Bool) → eqb i n ≡ t → i ≤ n → suc n ≤ length p
    → (i < n → word (over n f p) i ≡ f i) → word (over (suc n) f p) i ≡ f i
unfolding over
last-or-before n f p i true q le fits before =
    let same : i ≡ n = eqb-true i n q in
    let room : n < length (over n f p) = rw (over-length n f p) (omega arith) in
    rw same (get_or-set_same (over n f p) n (f n) 0 room)
last-or-before n f p i false q le fits before =
    let other : i ≢ n = eqb-false i n q in
    get_or-set_other (over n f p) n i (f n) 0 (λ r. absurd (omega arith)) ∙ before (omega arith)

pub over-at : (n : ℕ) (f : ℕ → ℕ) (p : List ℕ) (i : ℕ) → i < n → n ≤ length p → word (over n f p) i ≡ f i
over-at zero f p i h fits = absurd (omega arith)
over-at (suc n) f p i h fits = last-or-before n f p i (eqb i n) refl (omega arith) fits (λ less. over-at n f p i less (omega arith))

-- ---- the same words, no other words, and words that stay

pub over-same : (n : ℕ) (f g : ℕ → ℕ) (p : List ℕ) → ((i : ℕ) → i < n → f i ≡ g i) → over n f p ≡ over n g p
unfolding over
over-same zero f g p same = refl
over-same (suc n) f g p same = ap₂ (λ (q : List ℕ) (d : ℕ). set q n d) (over-same n f g p (λ i less. same i (omega arith)))
    (same n (omega arith))

-- words from n on that become what they are
pub over-stays : (n m : ℕ) (f : ℕ → ℕ) (p : List ℕ) → ((j : ℕ) → j < m → f (n + j) ≡ word p (n + j)) → over (n + m) f p ≡ over n f p
unfolding over
over-stays n zero f p same = ap (λ (k : ℕ). over k f p) (add-zero n)
over-stays n (suc m) f p same =
    ap (λ (k : ℕ). over k f p) (add-suc n m)
    ∙ ap₂ (λ (q : List ℕ) (d : ℕ). set q (n + m) d)
    (over-stays n m f p (λ j less. same j (omega arith)))
    (same m (omega arith) ∙ sym (over-past n f p (n + m) (omega arith)))
    ∙ set-get_or (over n f p) (n + m) 0

pub over-idle : (n : ℕ) (f : ℕ → ℕ) (p : List ℕ) → ((i : ℕ) → i < n → f i ≡ word p i) → over n f p ≡ p
unfolding over
over-idle n f p same =
    ap (λ (k : ℕ). over k f p) (sym (zero-add n))
    ∙ over-stays 0 n f p (λ j less. rw (zero-add j) (same j less))

-- of the words from n on, only the one that is a further becomes another
pub over-one : (n a b : ℕ) (f : ℕ → ℕ) (p : List ℕ)
    → ((j : ℕ) → j < a → f (n + j) ≡ word p (n + j))
    → ((j : ℕ) → j < b → f (n + a + 1 + j) ≡ word p (n + a + 1 + j))
    → over (n + a + 1 + b) f p ≡ set (over n f p) (n + a) (f (n + a))
unfolding over
over-one n a b f p before after =
    over-stays (n + a + 1) b f p after
    ∙ ap (λ (k : ℕ). over k f p) (add-one (n + a))
    ∙ ap (λ (q : List ℕ). set q (n + a) (f (n + a))) (over-stays n a f p before)

-- written over twice
pub over-over : (n : ℕ) (f g : ℕ → ℕ) (p : List ℕ) → n ≤ length p → over n f (over n g p) ≡ over n f p
over-over n f g p fits =
    ext_get_or 0 (over n f (over n g p)) (over n f p) (over-length n f (over n g p) ∙ over-length n g p ∙ sym (over-length n f p))
    (λ i room. here i (rw (over-length n f (over n g p), over-length n g p) at room) (ltb i n) refl)
  where
    here : (i : ℕ) → i < length p → (t : Bool) → ltb i n ≡ t → word (over n f (over n g p)) i ≡ word (over n f p) i
    here i room true q =
        let less : i < n = ltb-true i n q in
        let again : n ≤ length (over n g p) = rw (over-length n g p) fits in
        over-at n f (over n g p) i less again ∙ sym (over-at n f p i less fits)
    here i room false q =
        let past : n ≤ i = ltb-false i n q in
        over-past n f (over n g p) i past ∙ over-past n g p i past ∙ sym (over-past n f p i past)

-- a slice written over from its first word to its last
pub over-all : (n : ℕ) (f : ℕ → ℕ) (p : List ℕ) → length p ≡ n → over n f p ≡ table n f
over-all n f p long =
    ext_get_or 0 (over n f p) (table n f) (over-length n f p ∙ long ∙ sym (table-length n f))
    (λ i room.
    let less : i < n = rw (over-length n f p, long) at room in
    over-at n f p i less (omega arith) ∙ sym (table_at n f i less))

-- a slice written over by a whole list: that list, and the rest as it was
module _ (n : ℕ) (xs p : List ℕ) (long : length xs ≡ n) (fits : n ≤ length p) where
  pub over-list : over n (word xs) p ≡ xs ++ drop n p
  over-list =
      let left = length-drop n p in
      let joined : length (xs ++ drop n p) ≡ n + (length p - n) = joined_length xs (drop n p) n long (length p - n) left in
      let same : length p ≡ n + (length p - n) = omega arith in
      ext_get_or 0 (over n (word xs) p) (xs ++ drop n p) (over-length n (word xs) p ∙ same ∙ sym joined) (λ i room. here i (ltb i n) refl)
    where
      here : (i : ℕ) (t : Bool) → ltb i n ≡ t → word (over n (word xs) p) i ≡ word (xs ++ drop n p) i
      here i true q =
          let less : i < n = ltb-true i n q in
          over-at n (word xs) p i less fits ∙ sym (joined-first xs (drop n p) n long i less)
      here i false q =
          let past : n ≤ i = ltb-false i n q in
          let place : i ≡ n + (i - n) = omega arith in
          over-past n (word xs) p i past
          ∙ ap (word p) place
          ∙ sym (get_or-drop n p (i - n) 0)
          ∙ sym (joined-second xs (drop n p) n long (i - n))
          ∙ ap (word (xs ++ drop n p)) (sym place)

  pub over-list-first : take n (over n (word xs) p) ≡ xs
  over-list-first = ap (take n) over-list ∙ take_at xs (drop n p) n long
