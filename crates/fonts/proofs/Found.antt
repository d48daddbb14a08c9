-- What a font shows is found by the table of its bitmaps, whatever its kind.
use Prim.Native.Nat.{ℕ, ◌<◌, ◌≤◌}
use mathlib.Core.Path.{◌≡◌, refl, sym, ◌∙◌}
use mathlib.Core.Bool.{Bool, true, false, cond}
use mathlib.Core.List.{List}
use native.Mathlib.Omega.{arith}
use lib.Dec.{eqb, ltb}
use Rattle.words.specs.Word.{word}
use Rattle.fonts.specs.declared.Strike.{Strike}
use Rattle.fonts.specs.declared.View.{View}
use Rattle.fonts.specs.Strike.{index, codes, map_of, first_strike, body_start, strike_at, no_strike, bitmaps_of, strike_in, strike_by}
use Rattle.fonts.specs.Entry.{name_of}
use Rattle.fonts.specs.Face.{picture_of, glyph_by, glyph_from}
use Rattle.fonts.specs.Kinds.{mapped_place}
use Rattle.fonts.proofs.Tabled.{strike-tabled}
use Rattle.fonts.proofs.Struck.{struck-glyph}
use Rattle.fonts.proofs.Mapped.{entry_mapped, mapped-glyph}

pub first_by : (v : View) (bitmaps ws : List ℕ) → strike_by v bitmaps ws 0 ≡ first_strike v
unfolding strike_by
first_by v bitmaps ws = refl

pub first-in : (v : View) (ws : List ℕ) → strike_in v ws 0 ≡ first_strike v
unfolding strike_in
first-in v ws = refl

-- a bitmap begins behind a head
pub bitmap-behind : (v : View) (ws : List ℕ) (k : ℕ) → 1 ≤ (strike_in v ws k).bitmap
unfolding strike_in first_strike
bitmap-behind v ws k = first-or-not (eqb k 0) (ltb k v.header.bodies)
  where
    first-or-not : (t u : Bool) → 1 ≤ (cond t (first_strike v) (cond u (strike_at ws (body_start v.header ws k)) no_strike)).bitmap
    first-or-not true u = omega arith
    first-or-not false true = omega arith
    first-or-not false false = omega arith

body-small : (entry : ℕ) → (name_of entry).body < 128
unfolding name_of
body-small entry = omega arith

pub found-same : (v : View) (ws : List ℕ) (c : ℕ) → glyph_by v.header (strike_by v (bitmaps_of v.header ws) ws) ws c ≡ glyph_from v ws c
unfolding glyph_from
found-same v ws c = by_kind (index v.header) refl
  where
    by_kind : (t : Bool) → index v.header ≡ t
        → glyph_by v.header (strike_by v (bitmaps_of v.header ws) ws) ws c ≡ glyph_by v.header (strike_in v ws) ws c
    by_kind true indexed =
        let h = v.header in
        let tabled : ℕ → Strike = strike_by v (bitmaps_of h ws) ws in
        let k = mapped_place h ws c in
        let same = strike-tabled v ws (name_of (word (map_of h ws) k)).body (body-small (word (map_of h ws) k)) in
        mapped-glyph h tabled ws indexed c k refl
        ∙ (λ i. picture_of h (same i) (entry_mapped h tabled ws indexed (same i) k) (eqb k (codes h)))
        ∙ sym (mapped-glyph h (strike_in v ws) ws indexed c k refl)
    by_kind false single =
        struck-glyph v (strike_by v (bitmaps_of v.header ws) ws) ws single (first_by v _ ws) c
        ∙ sym (struck-glyph v (strike_in v ws) ws single (first-in v ws) c)
