-- A font without an index is one body: what its two tables say of a code is what it shows.
use Prim.Native.Nat.{ℕ, ◌+◌, ◌-◌}
use mathlib.Core.Path.{◌≡◌, refl}
use mathlib.Core.Bool.{Bool, true, false, cond, not}
use mathlib.Core.List.{List}
use Rattle.fonts.specs.declared.Header.{Header}
use Rattle.fonts.specs.declared.Strike.{Strike}
use Rattle.fonts.specs.declared.View.{View}
use Rattle.fonts.specs.declared.Entry.{Entry}
use Rattle.fonts.specs.Strike.{kerned, index, codes, first_at, first_strike, pointers_of, widths_of}
use Rattle.fonts.specs.Entry.{name_in, entry_at, present}
use Rattle.fonts.specs.Face.{picture_of, strike_named, entry_in, exists, place_of_code, glyph_by}
use Rattle.fonts.specs.Kinds.{only_bitmap, there, glyph_over, glyph_in, own_entry}

-- where its one bitmap begins
only-strike : (v : View) → index v.header ≡ false → first_strike v ≡ record { bitmap = only_bitmap v.header; body = v.body }
unfolding first_strike first_at only_bitmap
only-strike v single = rw single (by_kind (kerned v.header))
  where
    by_kind : (t : Bool)
        → ◌≡◌ {A = Strike} (record { bitmap = cond t 8 4 + 5; body = v.body }) (record { bitmap = cond t 13 9; body = v.body })
    by_kind true = refl
    by_kind false = refl

-- the entry at the one place or the other is the one entry or the other
chosen : (h : Header) (s : Strike) (entries : ℕ → Entry) (own dummy : ℕ) (t : Bool)
    → picture_of h s (entries (cond t own dummy)) (not t) ≡ picture_of h s (cond t (entries own) (entries dummy)) (not t)
chosen h s entries own dummy true = refl
chosen h s entries own dummy false = refl

module _ (v : View) (strikes : ℕ → Strike) (ws : List ℕ) (single : index v.header ≡ false) (first : strikes 0 ≡ first_strike v) where
  abbrev h : Header
  h = v.header

  abbrev entry_struck : ℕ → Entry
  entry_struck k = entry_at (pointers_of (first_strike v) ws) (widths_of h ws) k

  only-body : (k : ℕ) → strike_named h strikes ws k ≡ first_strike v
  unfolding strike_named name_in
  only-body k = rw single first

  pub entry-struck : (k : ℕ) → entry_in h strikes ws k ≡ entry_struck k
  unfolding entry_in name_in
  entry-struck k = rw (only-body k, single)

  pub exists-struck : (c : ℕ) → exists h strikes ws c ≡ there h (own_entry v ws c) c
  unfolding exists there present
  exists-struck c = rw (entry-struck (c - h.min), single)

  pub struck-glyph : (c : ℕ) → glyph_by h strikes ws c ≡ glyph_in v (pointers_of (first_strike v) ws) (widths_of h ws) c
  unfolding glyph_by place_of_code glyph_over
  struck-glyph c =
      let t = there h (own_entry v ws c) c in
      let k : ℕ = cond t (c - h.min) (codes h) in
      rw (exists-struck c, only-body k, entry-struck k, ← only-strike v single)
      (chosen h (first_strike v) entry_struck (c - h.min) (codes h) t)
