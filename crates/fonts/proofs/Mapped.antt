-- A font with an index shows for a code the picture that its map names.
use Prim.Native.Nat.{ℕ, ◌-◌}
use mathlib.Core.Path.{◌≡◌, refl, ap, ◌∙◌}
use mathlib.Core.Bool.{Bool, true, false, cond, not, ◌&&◌}
use mathlib.Core.List.{List}
use native.Mathlib.Omega.{arith}
use lib.Dec.{eqb, leb}
use borrow.Author.Tests.{leb-true, eq-eqb, ne_eqb}
use Rattle.words.specs.Word.{word}
use Rattle.words.proofs.Passed.{both}
use Rattle.fonts.specs.declared.Header.{Header}
use Rattle.fonts.specs.declared.Name.{Name}
use Rattle.fonts.specs.declared.Strike.{Strike}
use Rattle.fonts.specs.declared.Entry.{Entry}
use Rattle.fonts.specs.declared.Glyph.{Glyph}
use Rattle.fonts.specs.declared.Named.{Named}
use Rattle.fonts.specs.Strike.{index, codes, map_of, pointers_of, widths_of}
use Rattle.fonts.specs.Entry.{name_of, name_in, entry_with, marked, present}
use Rattle.fonts.specs.Face.{in_range, picture_of, strike_named, entry_in, exists, place_of_code, glyph_by}
use Rattle.fonts.specs.Kinds.{mapped_place, named_at, named_in}

module _ (h : Header) (strikes : ℕ → Strike) (ws : List ℕ) (indexed : index h ≡ true) where
  abbrev pub mapped : ℕ → Name
  mapped k = name_of (word (map_of h ws) k)

  pub name-mapped : (k : ℕ) → name_in h ws k ≡ mapped k
  unfolding name_in
  name-mapped k = rw indexed

  abbrev mapped_there : ℕ → Bool
  mapped_there c = in_range h c && not (marked h (mapped (c - h.min)).missing (word (widths_of h ws) (c - h.min)))

  exists-mapped : (c : ℕ) → exists h strikes ws c ≡ mapped_there c
  unfolding exists present entry_in
  exists-mapped c = rw (name-mapped (c - h.min), indexed)

  pub place-mapped : (c : ℕ) → place_of_code h strikes ws c ≡ mapped_place h ws c
  unfolding place_of_code mapped_place
  place-mapped c = rw (exists-mapped c)

  -- the dummy's place is no code's own
  pub substitute-mapped : (c : ℕ) → eqb (mapped_place h ws c) (codes h) ≡ not (exists h strikes ws c)
  unfolding mapped_place in_range
  substitute-mapped c = rw (exists-mapped c) (there-or-not (mapped_there c) refl)
    where
      there-or-not : (t : Bool) → mapped_there c ≡ t → eqb (cond t (c - h.min) (codes h)) (codes h) ≡ not t
      there-or-not true there =
          let range = both (leb h.min c) (leb c h.max) (both (in_range h c) _ there).0 in
          let least = leb-true h.min c range.0 in
          let most = leb-true c h.max range.1 in
          ne_eqb (c - h.min) (codes h) (λ e. omega arith)
      there-or-not false gone = eq-eqb (codes h) (codes h) refl

  abbrev pub entry_mapped : Strike → ℕ → Entry
  entry_mapped s k = entry_with (pointers_of s ws) (mapped k).code (word (widths_of h ws) k)

  pub entry-mapped : (k : ℕ) → entry_in h strikes ws k ≡ entry_mapped (strikes (mapped k).body) k
  unfolding entry_in strike_named
  entry-mapped k = rw (name-mapped k)

  pub mapped-glyph : (c k : ℕ) → k ≡ mapped_place h ws c
      → glyph_by h strikes ws c ≡ picture_of h (strikes (mapped k).body) (entry_mapped (strikes (mapped k).body) k) (eqb k (codes h))
  unfolding glyph_by strike_named
  mapped-glyph c k is = rw (is, substitute-mapped c, place-mapped c, entry-mapped (mapped_place h ws c), name-mapped (mapped_place h ws c))

  -- the picture that a map entry and a width entry name
  abbrev pub pictured : Named → Glyph
  pictured n =
      let s = strikes (name_of n.entry).body in
      picture_of h s (entry_with (pointers_of s ws) (name_of n.entry).code n.width) n.substitute

  pub named-glyph : (c : ℕ) → glyph_by h strikes ws c ≡ pictured (named_in h (map_of h ws) (widths_of h ws) c)
  unfolding named_in mapped_place
  named-glyph c =
      mapped-glyph c (mapped_place h ws c) refl
      ∙ ap (λ (t : Bool). pictured (named_at (map_of h ws) (widths_of h ws) (mapped_place h ws c) t))
      (substitute-mapped c ∙ ap not (exists-mapped c))
      ∙ chosen (mapped_there c)
    where
      chosen : (t : Bool)
          → pictured (named_at (map_of h ws) (widths_of h ws) (cond t (c - h.min) (codes h)) (not t))
          ≡ pictured
          (cond t (named_at (map_of h ws) (widths_of h ws) (c - h.min) false) (named_at (map_of h ws) (widths_of h ws) (codes h) true))
      chosen true = refl
      chosen false = refl
