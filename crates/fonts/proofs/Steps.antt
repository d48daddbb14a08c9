-- The step over what a font without an index shows, by a code's own entry and the dummy's advance.
use Prim.Native.Nat.{ℕ}
use mathlib.Core.Path.{◌≡◌, refl, ap, ◌∙◌, sym}
use mathlib.Core.Bool.{Bool, true, false}
use mathlib.Core.List.{List}
use Rattle.fonts.specs.declared.View.{View}
use Rattle.fonts.specs.declared.Strike.{Strike}
use Rattle.fonts.specs.declared.Entry.{Entry}
use Rattle.fonts.specs.Strike.{index, first_strike, strike_in}
use Rattle.fonts.specs.Entry.{advance_of}
use Rattle.fonts.specs.Face.{picture_of, glyph_by, glyph_from, step_of}
use Rattle.fonts.specs.Kinds.{there, glyph_over, own_entry, dummy_entry, step_by}
use Rattle.fonts.proofs.Struck.{struck-glyph}
use Rattle.fonts.proofs.Found.{first-in}

by_entries : (v : View) (own dummy : Entry) (c : ℕ)
    → step_by v.header own (advance_of v.header dummy) c ≡ step_of (glyph_over v own dummy c)
unfolding step_by glyph_over picture_of
by_entries v own dummy c = there-or-not (there v.header own c) refl
  where
    there-or-not : (t : Bool) → there v.header own c ≡ t
        → step_by v.header own (advance_of v.header dummy) c ≡ step_of (glyph_over v own dummy c)
    there-or-not true is = rw is
    there-or-not false is = rw is

pub step-struck : (v : View) (strikes : ℕ → Strike) (ws : List ℕ) → index v.header ≡ false → strikes 0 ≡ first_strike v → (c : ℕ)
    → step_by v.header (own_entry v ws c) (advance_of v.header (dummy_entry v ws)) c ≡ step_of (glyph_by v.header strikes ws c)
step-struck v strikes ws single first c =
    by_entries v (own_entry v ws c) (dummy_entry v ws) c ∙ ap step_of (sym (struck-glyph v strikes ws single first c))

pub step-shown : (v : View) (ws : List ℕ) → index v.header ≡ false → (c : ℕ)
    → step_by v.header (own_entry v ws c) (advance_of v.header (dummy_entry v ws)) c ≡ step_of (glyph_from v ws c)
unfolding glyph_from
step-shown v ws single c = step-struck v (strike_in v ws) ws single (first-in v ws) c
