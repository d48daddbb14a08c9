-- The laws of effects. They are what demand 3 rests on: effects are a monoid that acts on words, an effect is told by what it does, and
-- effects that touch no dot in common commute.
use Prim.Native.Nat.{ℕ, ◌-◌, ◌<◌, min}
use mathlib.Core.Path.{◌≡◌, refl, sym, ap, ◌∙◌}
use mathlib.Core.Logic.{◌⊎◌, inl, inr, ⊎_elim}
use native.Mathlib.Nat.{zero-min}
use native.Mathlib.Omega.{arith}
use lib.Bits.{bit_and, bit_xor, differ, xor_zero_l, xor_zero_r, and_comm}
use lib.Bits.{and_lt, xor_lt}
use Rattle.words.specs.declared.Effect.{Effect}
use Rattle.words.specs.declared.Mode.{Mode}
use Rattle.words.specs.declared.Mode.TheVariants.{Paint, Erase, Invert}
use Rattle.words.specs.Word.{bit_of}
use Rattle.words.specs.Effect.{identity, join_of, apply_to, effect_of, OfWords, Leaves}
use Rattle.words.proofs.Digits.{bit_not, bit-zero, bit-ones, bit-and, bit-xor, bit-digit}
use Rattle.words.proofs.BitLaws.{on-digit, and_assoc, xor_assoc, and_xor, and-ones, ones_and, xor-cancel}
use Rattle.words.proofs.Bits.{ext-bits}

effect-path : {k l f g : ℕ} → k ≡ l → f ≡ g → ◌≡◌ {A = Effect} (record { keep = k; flip = f }) (record { keep = l; flip = g })
effect-path p q = λ i. record { keep = p i; flip = q i }

-- ---- a monoid

pub join-assoc : (a b c : Effect) → join_of (join_of a b) c ≡ join_of a (join_of b c)
join-assoc a b c = effect-path (and_assoc a.keep b.keep c.keep) (simp (and_xor, and_assoc, xor_assoc))

pub identity-join : (e : Effect) → OfWords e → join_of identity e ≡ e
identity-join e h = effect-path (ones_and e.keep h.0) (simp xor_zero_l)

pub join-identity : (e : Effect) → OfWords e → join_of e identity ≡ e
join-identity e h = effect-path (and-ones e.keep h.0) (xor_zero_r (bit_and e.flip 0xFFFF) ∙ and-ones e.flip h.1)

-- ---- that acts on words

pub apply-identity : (d : ℕ) → d < 65536 → apply_to identity d ≡ d
apply-identity d h = xor_zero_r (bit_and d 0xFFFF) ∙ and-ones d h

pub apply-join : (a b : Effect) (d : ℕ) → apply_to (join_of a b) d ≡ apply_to b (apply_to a d)
apply-join a b d = simp (and_xor, and_assoc, xor_assoc)

-- dot j of the word applied to, which is also dot j of a join's flip: the second effect applied to the first's flip
pub apply-bit : (e : Effect) (d j : ℕ) → bit_of (apply_to e d) j ≡ differ (min (bit_of d j) (bit_of e.keep j)) (bit_of e.flip j)
apply-bit e d j = bit-xor (bit_and d e.keep) e.flip j ∙ ap (λ (x : ℕ). differ x (bit_of e.flip j)) (bit-and d e.keep j)

-- ---- and is told by what it does

pub same_effect : (a b : Effect) → OfWords a → OfWords b → ((d : ℕ) → d < 65536 → apply_to a d ≡ apply_to b d) → a ≡ b
same_effect a b ha hb same =
    let flips : a.flip ≡ b.flip = sym (on-zero a) ∙ same 0 (omega arith) ∙ on-zero b in
    let keeps : a.keep ≡ b.keep =
    xor-cancel a.keep b.keep b.flip
    (ap (bit_xor a.keep) (sym flips) ∙ sym (on-ones a ha) ∙ same 0xFFFF (omega arith) ∙ on-ones b hb) in
    effect-path keeps flips
  where
    on-zero : (e : Effect) → apply_to e 0 ≡ e.flip
    on-zero e = simp xor_zero_l

    on-ones : (e : Effect) → OfWords e → apply_to e 0xFFFF ≡ bit_xor e.keep e.flip
    on-ones e h = ap (λ (k : ℕ). bit_xor k e.flip) (ones_and e.keep h.0)

-- ---- and commutes with an effect that touches no dot in common

flips-commute : (k₁ f₁ k₂ f₂ : ℕ) → f₂ < 2 → k₁ ≡ 1 → f₁ ≡ 0 → differ (min f₁ k₂) f₂ ≡ differ (min f₂ k₁) f₁
flips-commute k₁ f₁ k₂ f₂ h e₁ e₀ =
    rw (e₁, e₀)
    (rw (zero-min k₂) (on-digit (λ (x : ℕ). x ≡ differ (min x 1) 0) refl refl f₂ h))

pub join-words : (a b : Effect) → OfWords a → OfWords b → OfWords (join_of a b)
join-words a b ha hb = (
  and_lt 16 a.keep b.keep ha.0 hb.0,
  xor_lt 16 (bit_and a.flip b.keep) b.flip (and_lt 16 a.flip b.keep ha.1 hb.0) hb.1,
)

pub commute : (a b : Effect) → OfWords a → OfWords b
    → ((j : ℕ) → j < 16 → Leaves a j ⊎ Leaves b j)
    → join_of a b ≡ join_of b a
commute a b ha hb apart =
    effect-path (and_comm a.keep b.keep)
    (ext-bits _ _ (join-words a b ha hb).1 (join-words b a hb ha).1
    (λ j h. apply-bit b a.flip j ∙ at-bit j h ∙ sym (apply-bit a b.flip j)))
  where
    at-bit : (j : ℕ) → j < 16
        → differ (min (bit_of a.flip j) (bit_of b.keep j)) (bit_of b.flip j)
        ≡ differ (min (bit_of b.flip j) (bit_of a.keep j)) (bit_of a.flip j)
    at-bit j h =
        ⊎_elim
        (λ l. flips-commute (bit_of a.keep j) (bit_of a.flip j) (bit_of b.keep j) (bit_of b.flip j) (bit-digit b.flip j) l.0 l.1)
        (λ l. sym (flips-commute (bit_of b.keep j) (bit_of b.flip j) (bit_of a.keep j) (bit_of a.flip j) (bit-digit a.flip j) l.0 l.1))
        (apart j h)

-- a mode leaves alone the dots that are not in its mask
pub mode-words : (m : Mode) (mask : ℕ) → mask < 65536 → OfWords (effect_of m mask)
mode-words Paint mask h = (omega arith, h)
mode-words Erase mask h = (omega arith, omega arith)
mode-words Invert mask h = (omega arith, h)

pub mode-leaves : (m : Mode) (mask j : ℕ) → mask < 65536 → j < 16 → bit_of mask j ≡ 0 → Leaves (effect_of m mask) j
mode-leaves Paint mask j hm hj e = (bit_not mask j hm hj ∙ ap (λ (x : ℕ). 1 - x) e, e)
mode-leaves Erase mask j hm hj e = (bit_not mask j hm hj ∙ ap (λ (x : ℕ). 1 - x) e, bit-zero j)
mode-leaves Invert mask j hm hj e = (bit-ones j hj, e)

pub disjoint-commute : (m n : Mode) (p q : ℕ) → p < 65536 → q < 65536 → bit_and p q ≡ 0
    → join_of (effect_of m p) (effect_of n q) ≡ join_of (effect_of n q) (effect_of m p)
disjoint-commute m n p q hp hq disjoint =
    commute (effect_of m p) (effect_of n q) (mode-words m p hp) (mode-words n q hq)
    (λ j h. ⊎_elim (λ e. inl (mode-leaves m p j hp h e)) (λ e. inr (mode-leaves n q j hq h e)) (one-is-zero j))
  where
    least-one : (x : ℕ) → min 1 x ≡ 0 → x ≡ 0
    least-one x e = omega arith

    one-is-zero : (j : ℕ) → (bit_of p j ≡ 0) ⊎ (bit_of q j ≡ 0)
    one-is-zero j =
        on-digit (λ (x : ℕ). min x (bit_of q j) ≡ 0 → (x ≡ 0) ⊎ (bit_of q j ≡ 0)) (λ e. inl refl) (λ e. inr (least-one (bit_of q j) e))
        (bit_of p j) (bit-digit p j)
        (sym (bit-and p q j) ∙ ap (λ (w : ℕ). bit_of w j) disjoint ∙ bit-zero j)
