-- P3: "one speaker picture under nine codes". Codes whose map entries are equal show the same dots, and in a plain index move the pen
-- alike; the rows of a picture are placed by the ascent of its own body.
use Prim.Native.Nat.{ℕ, ◌+◌, ◌-◌}
use mathlib.Core.Path.{◌≡◌, refl, sym, ap, ◌∙◌}
use mathlib.Core.Bool.{true, false}
use mathlib.Core.List.{List}
use lib.Dec.{eqb}
use Rattle.words.specs.Word.{word}
use Rattle.fonts.specs.declared.Name.{Name}
use Rattle.fonts.specs.declared.Strike.{Strike}
use Rattle.fonts.specs.declared.Glyph.{Glyph}
use Rattle.fonts.specs.Strike.{view_of, kerned, index, codes, height, map_of, strike_in, pointers_of, widths_of}
use Rattle.fonts.specs.Entry.{name_of, entry_with, columns_of, advance_of}
use Rattle.fonts.specs.Face.{picture_of, strike_named, exists, place_of_code, glyph_by, glyph_from, dot_of, face_from, face_of}
use Rattle.fonts.proofs.Mapped.{place-mapped, mapped-glyph}

-- a picture is its strike and its columns: whatever its offset and its spacing, its dots are the same
alike-dots : (ws : List ℕ) (g k : Glyph) → g.bitmap ≡ k.bitmap → g.raster ≡ k.raster → g.first ≡ k.first → g.columns ≡ k.columns
    → g.height ≡ k.height → (r j : ℕ) → dot_of ws g r j ≡ dot_of ws k r j
unfolding dot_of
alike-dots ws g k bitmap raster first columns tall r j = rw (bitmap, raster, first, columns, tall)

module _ (ws : List ℕ) (indexed : index (view_of ws).header ≡ true) where
  abbrev strikes : ℕ → Strike
  strikes = strike_in (view_of ws) ws

  abbrev mapped : ℕ → Name
  mapped k = name_of (word (map_of (view_of ws).header ws) k)

  abbrev shown_at : ℕ → ℕ → Glyph
  shown_at k c =
      let s = strikes (mapped k).body in
      picture_of (view_of ws).header s (entry_with (pointers_of s ws) (mapped k).code (word (widths_of (view_of ws).header ws) k))
      (eqb k (codes (view_of ws).header))

  -- what is shown for a code that exists is at its own place
  shown : (c : ℕ) → exists (view_of ws).header strikes ws c ≡ true → (face_of ws).glyph c ≡ shown_at (c - (view_of ws).header.min) c
  unfolding face_of face_from glyph_from place_of_code
  shown c there =
      let h = (view_of ws).header in
      let own : c - h.min ≡ place_of_code h strikes ws c = rw there in
      mapped-glyph h strikes ws indexed c (c - h.min) (own ∙ place-mapped h strikes ws indexed c)

  module _ (c d : ℕ) (there : exists (view_of ws).header strikes ws c ≡ true) (also : exists (view_of ws).header strikes ws d ≡ true)
      (same : word (map_of (view_of ws).header ws) (c - (view_of ws).header.min)
      ≡ word (map_of (view_of ws).header ws) (d - (view_of ws).header.min)) where
    abbrev left : Glyph
    left = shown_at (c - (view_of ws).header.min) c

    abbrev right : Glyph
    right = shown_at (d - (view_of ws).header.min) d

    -- "if several character codes map to the same ⟨strike, code⟩ pair, and hence refer to the same raster"
    pub shared-dots : (r j : ℕ) → (face_of ws).dot ((face_of ws).glyph c) r j ≡ (face_of ws).dot ((face_of ws).glyph d) r j
    unfolding face_of face_from picture_of columns_of
    shared-dots r j =
        ap (λ (g : Glyph). dot_of ws g r j) (shown c there)
        ∙ alike-dots ws left right (λ i. (strikes (name_of (same i)).body).bitmap) (λ i. (strikes (name_of (same i)).body).body.raster)
        (λ i. word (pointers_of (strikes (name_of (same i)).body) ws) (name_of (same i)).code)
        (λ i. word (pointers_of (strikes (name_of (same i)).body) ws) ((name_of (same i)).code + 1)
        - word (pointers_of (strikes (name_of (same i)).body) ws) (name_of (same i)).code)
        (λ i. height (strikes (name_of (same i)).body).body) r j
        ∙ sym (ap (λ (g : Glyph). dot_of ws g r j) (shown d also))

    -- "a plain index moves by the picture's width"
    pub shared-move : kerned (view_of ws).header ≡ false → ((face_of ws).glyph c).advance ≡ ((face_of ws).glyph d).advance
    unfolding picture_of advance_of columns_of
    shared-move plain =
        ap (λ (g : Glyph). g.advance) (shown c there)
        ∙ rw plain
        (λ i. word (pointers_of (strikes (name_of (same i)).body) ws) ((name_of (same i)).code + 1)
        - word (pointers_of (strikes (name_of (same i)).body) ws) (name_of (same i)).code)
        ∙ sym (ap (λ (g : Glyph). g.advance) (shown d also))

    pub shared-rows : ((face_of ws).glyph c).ascent ≡ ((face_of ws).glyph d).ascent
    unfolding picture_of
    shared-rows =
        ap (λ (g : Glyph). g.ascent) (shown c there)
        ∙ (λ i. (strikes (name_of (same i)).body).body.ascent)
        ∙ sym (ap (λ (g : Glyph). g.ascent) (shown d also))

-- "Each body has its own ascent, and its rows are placed by that": in a font of every kind
pub own-rows : (ws : List ℕ) (c : ℕ)
    → let k = place_of_code (view_of ws).header (strike_in (view_of ws) ws) ws c in
    let s = strike_named (view_of ws).header (strike_in (view_of ws) ws) ws k in
    (((face_of ws).glyph c).ascent ≡ s.body.ascent) × (((face_of ws).glyph c).height ≡ height s.body)
unfolding face_of face_from glyph_from glyph_by picture_of
own-rows ws c = (refl, refl)
