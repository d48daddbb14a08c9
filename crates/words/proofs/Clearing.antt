-- What joining an effect does to the two words of a sheet:
-- it alters flip as it alters a panel, and in keep it clears what it does not keep.
use Prim.Native.Nat.{ℕ, zero, suc, ◌+◌}
use mathlib.Core.Path.{◌≡◌, refl, sym, ap, ◌∙◌}
use mathlib.Core.List.{List}
use native.Mathlib.Nat.{zero-add}
use native.Mathlib.Omega.{arith}
use lib.Bits.{bit_and, and_zero_l, xor_zero_r}
use lib.ListN.{set}
use Rattle.words.specs.declared.Effect.{Effect}
use Rattle.words.specs.Word.{word, over}
use Rattle.words.specs.Effect.{effect, identity, join_of, clearing, cleared, apply_to, altered, OfWords}

-- a way to take effects that joining and doing nothing go along with
pub record Carried (f : Effect → Effect) : Type 0 where
  pub still : f identity ≡ identity
  pub words : (e : Effect) → OfWords e → OfWords (f e)
  pub joins : (a b : Effect) → f (join_of a b) ≡ join_of (f a) (f b)

-- as they are
pub whole : Carried (λ e. e)
whole = record { still = refl; words = λ e h. h; joins = λ a b. refl }

-- and only what they clear
pub clears : Carried clearing
clears = record {
  still = refl;
  words = λ e h. (h.0, omega arith);
  joins = λ a b. ap (effect (bit_and a.keep b.keep)) (sym (xor_zero_r (bit_and 0 b.keep) ∙ and_zero_l b.keep));
}

pub clears-keep : (e : Effect) (d : ℕ) → apply_to (clearing e) d ≡ bit_and d e.keep
clears-keep e d = xor_zero_r (bit_and d e.keep)

-- words that are altered are words written over
pub altered-over : (n : ℕ) (e : ℕ → Effect) (p : List ℕ) → altered 0 n e p ≡ over n (λ i. apply_to (e i) (word p i)) p
unfolding altered over
altered-over zero e p = refl
altered-over (suc n) e p =
    ap (λ (q : List ℕ). set q (0 + n) (apply_to (e (0 + n)) (word p (0 + n)))) (altered-over n e p)
    ∙ ap (λ (k : ℕ). set (over n (λ i. apply_to (e i) (word p i)) p) k (apply_to (e k) (word p k))) (zero-add n)

-- the keep of a sheet under joined effects
pub cleared-over : (n : ℕ) (e : ℕ → Effect) (p : List ℕ) → altered 0 n (cleared e) p ≡ over n (λ i. bit_and (word p i) (e i).keep) p
cleared-over n e p =
    altered-over n (cleared e) p ∙ ap (λ (f : ℕ → ℕ). over n f p) (λ t i. clears-keep (e i) (word p i) t)
