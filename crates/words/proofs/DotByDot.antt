-- Effects seen one dot at a time: dot j of a join depends on dot j of its parts alone, and effects whose dots are alike are equal.
use Prim.Native.Nat.{ℕ, ◌<◌, min}
use mathlib.Core.Path.{◌≡◌, refl, sym, ap, ap₂, ◌∙◌}
use native.Mathlib.Nat.{zero-min}
use lib.Bits.{differ}
use Rattle.words.specs.declared.Effect.{Effect}
use Rattle.words.specs.Word.{bit_of}
use Rattle.words.specs.Effect.{identity, join_of, OfWords, Leaves}
use Rattle.words.proofs.Digits.{bit-and, bit-zero, bit-ones, bit-digit}
use Rattle.words.proofs.BitLaws.{on-digit}
use Rattle.words.proofs.Bits.{ext-bits}
use Rattle.words.proofs.Effects.{apply-bit}

-- two effects treat dot j alike
abbrev pub Alike : Effect → Effect → ℕ → Type 0
Alike a b j = (bit_of a.keep j ≡ bit_of b.keep j) × (bit_of a.flip j ≡ bit_of b.flip j)

pub alike-effects : (a b : Effect) → OfWords a → OfWords b → ((j : ℕ) → j < 16 → Alike a b j) → a ≡ b
alike-effects a b ha hb alike =
    λ i. record {
      keep = ext-bits a.keep b.keep ha.0 hb.0 (λ j less. (alike j less).0) i;
      flip = ext-bits a.flip b.flip ha.1 hb.1 (λ j less. (alike j less).1) i;
    }

pub join-alike : (a b c : Effect) (j : ℕ) → Alike b c j → Alike (join_of a b) (join_of a c) j
join-alike a b c j same = (
  bit-and a.keep b.keep j ∙ ap (min (bit_of a.keep j)) same.0 ∙ sym (bit-and a.keep c.keep j),
  apply-bit b a.flip j ∙ ap₂ (λ (k f : ℕ). differ (min (bit_of a.flip j) k) f) same.0 same.1 ∙ sym (apply-bit c a.flip j),
)

-- an effect that leaves the dot may be left out before another
pub left_out : (a b : Effect) (j : ℕ) → Leaves a j → Alike (join_of a b) b j
left_out a b j leaves = (
  bit-and a.keep b.keep j ∙ ap (λ (x : ℕ). min x (bit_of b.keep j)) leaves.0
      ∙ on-digit (λ (x : ℕ). min 1 x ≡ x) refl refl (bit_of b.keep j) (bit-digit b.keep j),
  apply-bit b a.flip j ∙ ap (λ (x : ℕ). differ (min x (bit_of b.keep j)) (bit_of b.flip j)) leaves.1
      ∙ ap (λ (x : ℕ). differ x (bit_of b.flip j)) (zero-min (bit_of b.keep j))
      ∙ on-digit (λ (x : ℕ). differ 0 x ≡ x) refl refl (bit_of b.flip j) (bit-digit b.flip j),
)

pub identity-leaves : (j : ℕ) → j < 16 → Leaves identity j
identity-leaves j less = (bit-ones j less, bit-zero j)

pub join-leaves : (a b : Effect) (j : ℕ) → Leaves a j → Leaves b j → Leaves (join_of a b) j
join-leaves a b j la lb = let same = left_out a b j la in (same.0 ∙ lb.0, same.1 ∙ lb.1)
