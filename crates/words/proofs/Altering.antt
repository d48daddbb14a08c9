-- Laws of a lent slice whose words are altered by effects: which words change and how, one word more, one run after another, twice over.
use Prim.Native.Nat.{ℕ, zero, suc, ◌+◌, ◌<◌, ◌≤◌}
use mathlib.Core.Path.{◌≡◌, refl, sym, ap, ap₂, ◌∙◌}
use mathlib.Core.Bool.{Bool, true, false}
use mathlib.Core.List.{List, [], ◌∷◌}
use mathlib.Core.Logic.{◌≢◌}
use native.Mathlib.Nat.{add-zero, zero-add, add-suc, add_assoc}
use native.Mathlib.Numerals.{add-one}
use native.Mathlib.Omega.{arith}
use lib.Bits.{bit_and, and_lt, xor_lt}
use lib.Dec.{eqb, ltb}
use borrow.Author.Tests.{eqb-true, eqb-false, ltb-true, ltb-false}
use lib.ListN.{length, set, length-set}
use lib.Seq.{get_or-set_same, get_or-set_other, set-get_or, ext_get_or}
use Rattle.words.specs.declared.Effect.{Effect}
use Rattle.words.specs.Word.{word}
use Rattle.words.specs.Effect.{identity, join_of, apply_to, altered, OfWords}
use Rattle.words.proofs.Effects.{apply-identity, apply-join}

-- every word of a list is a word
abbrev pub AllWords : List ℕ → Type 0
AllWords p = (i : ℕ) → word p i < 65536

module _ (k : ℕ) (e : ℕ → Effect) (p : List ℕ) where
  pub altered-length : (n : ℕ) → length (altered k n e p) ≡ length p
  unfolding altered
  altered-length zero = refl
  altered-length (suc n) = simp length-set (altered-length n)

  -- past the run
  pub altered-past : (n i : ℕ) → k + n ≤ i → word (altered k n e p) i ≡ word p i
  unfolding altered
  altered-past zero i h = refl
  altered-past (suc n) i h =
      get_or-set_other (altered k n e p) (k + n) i _ 0 (λ q. absurd (omega arith)) ∙ altered-past n i (omega arith)

  -- before the run
  pub altered-before : (n i : ℕ) → i < k → word (altered k n e p) i ≡ word p i
  unfolding altered
  altered-before zero i h = refl
  altered-before (suc n) i h =
      get_or-set_other (altered k n e p) (k + n) i _ 0 (λ q. absurd (omega arith)) ∙ altered-before n i h

  -- in the run: the last word of it, or one before
  last-or-before : (n j : ℕ) (t : Bool) → eqb j n ≡ t → j ≤ n → k + suc n ≤ length p
      → (j < n → word (altered k n e p) (k + j) ≡ apply_to (e (k + j)) (word p (k + j)))
      → word (altered k (suc n) e p) (k + j) ≡ apply_to (e (k + j)) (word p (k + j))
  unfolding altered
  last-or-before n j true q le fits before =
      let same : j ≡ n = eqb-true j n q in
      let room : k + n < length (altered k n e p) = rw (altered-length n) (omega arith) in
      rw same (get_or-set_same (altered k n e p) (k + n) _ 0 room)
  last-or-before n j false q le fits before =
      let other : j ≢ n = eqb-false j n q in
      get_or-set_other (altered k n e p) (k + n) (k + j) _ 0 (λ r. absurd (omega arith)) ∙ before (omega arith)

  pub altered-at : (n j : ℕ) → j < n → k + n ≤ length p → word (altered k n e p) (k + j) ≡ apply_to (e (k + j)) (word p (k + j))
  altered-at zero j h fits = absurd (omega arith)
  altered-at (suc n) j h fits =
      last-or-before n j (eqb j n) refl (omega arith) fits (λ less. altered-at n j less (omega arith))

-- one word more, by what stands there now
pub altered-more : (k n : ℕ) (e : ℕ → Effect) (p : List ℕ)
    → altered k (n + 1) e p ≡ set (altered k n e p) (k + n) (apply_to (e (k + n)) (word (altered k n e p) (k + n)))
unfolding altered
altered-more k n e p = rw (add-one n) (ap (λ (d : ℕ). set (altered k n e p) (k + n) (apply_to (e (k + n)) d))
    (sym (altered-past k e p n (k + n) (omega arith))))

-- a run goes on in another
pub altered-on : (k n m : ℕ) (e : ℕ → Effect) (p : List ℕ) → altered k (n + m) e p ≡ altered (k + n) m e (altered k n e p)
unfolding altered
altered-on k n zero e p = ap (λ (i : ℕ). altered k i e p) (add-zero n)
altered-on k n (suc m) e p =
    ap (λ (i : ℕ). altered k i e p) (add-suc n m)
    ∙ ap (λ (q : List ℕ). set q (k + (n + m)) (apply_to (e (k + (n + m))) (word p (k + (n + m))))) (altered-on k n m e p)
    ∙ ap (λ (i : ℕ). set (altered (k + n) m e (altered k n e p)) i (apply_to (e i) (word p i))) (sym (add_assoc k n m))
    ∙ ap (λ (d : ℕ). set (altered (k + n) m e (altered k n e p)) (k + n + m) (apply_to (e (k + n + m)) d))
    (sym (altered-past k e p n (k + n + m) (omega arith)))

-- effects that alter nothing
pub altered-idle : (k n : ℕ) (e : ℕ → Effect) (p : List ℕ) → AllWords p → ((j : ℕ) → j < n → e (k + j) ≡ identity) → altered k n e p ≡ p
unfolding altered
altered-idle k zero e p h idle = refl
altered-idle k (suc n) e p h idle =
    ap (λ (q : List ℕ). set q (k + n) (apply_to (e (k + n)) (word p (k + n)))) (altered-idle k n e p h (λ j less. idle j (omega arith)))
    ∙ ap (set p (k + n)) (ap (λ (f : Effect). apply_to f (word p (k + n))) (idle n (omega arith))
    ∙ apply-identity (word p (k + n)) (h (k + n)))
    ∙ set-get_or p (k + n) 0

-- words stay words
pub apply-lt : (e : Effect) (d : ℕ) → OfWords e → d < 65536 → apply_to e d < 65536
apply-lt e d h hd = xor_lt 16 (bit_and d e.keep) e.flip (and_lt 16 d e.keep hd h.0) h.1

pub set_words : (p : List ℕ) (i d : ℕ) → AllWords p → d < 65536 → AllWords (set p i d)
set_words [] i d h hd j = h j
set_words (w ∷ p) zero d h hd zero = hd
set_words (w ∷ p) zero d h hd (suc j) = h (suc j)
set_words (w ∷ p) (suc i) d h hd zero = h zero
set_words (w ∷ p) (suc i) d h hd (suc j) = set_words p i d (λ k. h (suc k)) hd j

pub altered-words : (k n : ℕ) (e : ℕ → Effect) (p : List ℕ) → ((i : ℕ) → OfWords (e i)) → AllWords p → AllWords (altered k n e p)
unfolding altered
altered-words k zero e p he h = h
altered-words k (suc n) e p he h =
    set_words (altered k n e p) (k + n) _ (altered-words k n e p he h) (apply-lt (e (k + n)) (word p (k + n)) (he (k + n)) (h (k + n)))

pub from_zero : (e : ℕ → Effect) (p : List ℕ) (n i : ℕ) → i < n → n ≤ length p → word (altered 0 n e p) i ≡ apply_to (e i) (word p i)
from_zero e p n i h fits = rw (zero-add i) at (altered-at 0 e p n i h (rw zero-add fits))

-- altered twice over is altered by the joins: from the first word on
pub altered-twice : (n : ℕ) (e f : ℕ → Effect) (p : List ℕ) → n ≤ length p
    → altered 0 n f (altered 0 n e p) ≡ altered 0 n (λ i. join_of (e i) (f i)) p
altered-twice n e f p fits =
    ext_get_or 0 _ _ (two ∙ sym one) (λ i h. at i (ltb i n) refl)
  where
    two : length (altered 0 n f (altered 0 n e p)) ≡ length p
    two = altered-length 0 f (altered 0 n e p) n ∙ altered-length 0 e p n

    one : length (altered 0 n (λ i. join_of (e i) (f i)) p) ≡ length p
    one = altered-length 0 (λ i. join_of (e i) (f i)) p n

    room : n ≤ length (altered 0 n e p)
    room = rw (altered-length 0 e p n) fits

    at : (i : ℕ) (t : Bool) → ltb i n ≡ t → word (altered 0 n f (altered 0 n e p)) i ≡ word (altered 0 n (λ i. join_of (e i) (f i)) p) i
    at i true q =
        let less : i < n = ltb-true i n q in
        from_zero f (altered 0 n e p) n i less room ∙ ap (apply_to (f i)) (from_zero e p n i less fits)
        ∙ sym (apply-join (e i) (f i) (word p i)) ∙ sym (from_zero (λ i. join_of (e i) (f i)) p n i less fits)
    at i false q =
        let past : n ≤ i = ltb-false i n q in
        altered-past 0 f (altered 0 n e p) n i (omega arith) ∙ altered-past 0 e p n i (omega arith)
        ∙ sym (altered-past 0 (λ i. join_of (e i) (f i)) p n i (omega arith))

-- what a loop does in a turn: the next word becomes its effect on what stands there
pub altered-step : (k n d : ℕ) (e : ℕ → Effect) (now before : List ℕ)
    → now ≡ altered k n e before → d ≡ apply_to (e (k + n)) (word now (k + n)) → set now (k + n) d ≡ altered k (n + 1) e before
altered-step k n d e now before same becomes =
    ap (set now (k + n)) becomes
    ∙ ap (λ (q : List ℕ). set q (k + n) (apply_to (e (k + n)) (word q (k + n)))) same
    ∙ sym (altered-more k n e before)

pub altered-same : (k n : ℕ) (e f : ℕ → Effect) (p : List ℕ) → ((j : ℕ) → j < n → e (k + j) ≡ f (k + j)) → altered k n e p ≡ altered k n f p
unfolding altered
altered-same k zero e f p same = refl
altered-same k (suc n) e f p same =
    ap₂ (λ (q : List ℕ) (h : Effect). set q (k + n) (apply_to h (word p (k + n))))
    (altered-same k n e f p (λ j less. same j (omega arith)))
    (same n (omega arith))

-- what a loop does in a turn, in a run from the first word on
pub altered-next : (n d : ℕ) (e : ℕ → Effect) (now before : List ℕ)
    → now ≡ altered 0 n e before → d ≡ apply_to (e n) (word now n) → set now n d ≡ altered 0 (n + 1) e before
altered-next n d e now before same becomes =
    let here = zero-add n in
    ap (λ (i : ℕ). set now i d) (sym here)
    ∙ altered-step 0 n d e now before same (becomes ∙ ap (λ (i : ℕ). apply_to (e i) (word now i)) (sym here))
