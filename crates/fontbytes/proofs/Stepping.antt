-- Of an entry a step of the pen asks for what the kind of font says, and for nothing else.
use Prim.Native.Nat.{ℕ, ◌-◌}
use mathlib.Core.Path.{◌≡◌, refl}
use mathlib.Core.Bool.{Bool, true, false}
use Rattle.fonts.specs.declared.Header.{Header}
use Rattle.fonts.specs.declared.Entry.{Entry}
use Rattle.fonts.specs.Strike.{kerned}
use Rattle.fonts.specs.Entry.{struck, columns_of, advance_of}
use Rattle.fonts.specs.Kinds.{there, step_by}
use Rattle.fontbytes.specs.Parts.{for_step}

pub advance-asks : (h : Header) (e : Entry) → advance_of h (for_step h e) ≡ advance_of h e
unfolding advance_of for_step columns_of
advance-asks h e = by_kind (kerned h) refl
  where
    by_kind : (t : Bool) → kerned h ≡ t → advance_of h (for_step h e) ≡ advance_of h e
    by_kind true kind = rw kind
    by_kind false kind = rw kind

struck-asks : (h : Header) (e : Entry) → struck h (for_step h e) ≡ struck h e
unfolding struck for_step
struck-asks h e = by_kind (kerned h) refl
  where
    by_kind : (t : Bool) → kerned h ≡ t → struck h (for_step h e) ≡ struck h e
    by_kind true kind = rw kind
    by_kind false kind = rw kind

pub step-asks : (h : Header) (e : Entry) (dummy c : ℕ) → step_by h (for_step h e) dummy c ≡ step_by h e dummy c
unfolding step_by there
step-asks h e dummy c = rw (struck-asks h e, advance-asks h e)

-- in a plain font two entries of the same columns move the pen alike
pub plain-advance : (h : Header) (e d : Entry) → kerned h ≡ false → e.left ≡ d.left → e.right ≡ d.right → advance_of h e ≡ advance_of h d
unfolding advance_of columns_of
plain-advance h e d plain left right = rw plain (λ i. right i - left i)
