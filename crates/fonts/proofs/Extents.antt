-- The most rows that a body has: one body more, and every body has no more.
use Prim.Native.Nat.{ℕ, suc, ◌+◌, ◌-◌, ◌≤◌, max}
use mathlib.Core.Path.{◌≡◌, refl, sym, ap, ◌∙◌}
use mathlib.Core.Bool.{Bool, true, false, cond}
use mathlib.Core.List.{List}
use native.Mathlib.Omega.{arith}
use lib.Dec.{eqb, ltb}
use borrow.Author.Tests.{ltb-true, ltb-false, eqb-false}
use Rattle.words.specs.Search.{most_below}
use Rattle.words.proofs.Search.{most-more, most-here}
use Rattle.fonts.specs.declared.Body.{Body}
use Rattle.fonts.specs.declared.View.{View}
use Rattle.fonts.specs.Face.{picture_of, strike_named, place_of_code, glyph_by, glyph_from, face_from}
use Rattle.fonts.specs.Entry.{name_in}
use Rattle.fonts.specs.Strike.{body_of, body_start, first_strike, strike_at, strike_in, no_strike, extent_of}

pub none-more-rows : (a : ℕ) (f : ℕ → ℕ) → a ≡ max a (most_below 0 f)
unfolding most_below
none-more-rows a f = omega arith

pub more_rows : (a now next x k : ℕ) (f : ℕ → ℕ) → now ≡ max a (most_below k f) → x ≡ f k → next ≡ max now x
    → next ≡ max a (most_below (k + 1) f)
more_rows a now next x k f same here is =
    is ∙ by_most (ltb (most_below k f) (f k)) refl ∙ ap (max a) (sym (most-more f k))
  where
    by_most : (t : Bool) → ltb (most_below k f) (f k) ≡ t → max now x ≡ max a (cond t (f k) (most_below k f))
    by_most true less = let under = ltb-true (most_below k f) (f k) less in omega (arith, same, here)
    by_most false less = let under = ltb-false (most_below k f) (f k) less in omega (arith, same, here)

-- no body has more rows above the baseline, or below it
module _ (v : View) (ws : List ℕ) (rows : Body → ℕ) (none : rows no_strike.body ≡ 0) where
  abbrev others : ℕ → ℕ
  others k = rows (body_of ws (body_start v.header ws (suc k)))

  abbrev most : ℕ
  most = max (rows v.body) (most_below (v.header.bodies - 1) others)

  other-most : (k : ℕ) → (k ≡ 0 → ⊥) → (t : Bool) → ltb k v.header.bodies ≡ t
      → rows (cond t (strike_at ws (body_start v.header ws k)) no_strike).body ≤ most
  other-most k some true there =
      let less = ltb-true k v.header.bodies there in
      let next : suc (k - 1) ≡ k = omega (arith, some) in
      let here = most-here others (v.header.bodies - 1) (k - 1) (omega (arith, some)) in
      let same = ap (λ (n : ℕ). rows (body_of ws (body_start v.header ws n))) next in
      omega (arith, here, same)
  other-most k some false gone = omega (arith, none)

  pub rows-most : (k : ℕ) → rows (strike_in v ws k).body ≤ most
  unfolding strike_in first_strike
  rows-most k = first-or-not (eqb k 0) refl
    where
      first-or-not : (t : Bool) → eqb k 0 ≡ t
          → rows (cond t (first_strike v)
          (cond (ltb k v.header.bodies) (strike_at ws (body_start v.header ws k)) no_strike)).body ≤ most
      first-or-not true zeroth = omega arith
      first-or-not false other = other-most k (eqb-false k 0 other) (ltb k v.header.bodies) refl

module _ (v : View) (ws : List ℕ) (k : ℕ) where
  pub above_most : (strike_in v ws k).body.ascent ≤ (extent_of v ws).above
  unfolding extent_of
  above_most = rows-most v ws (λ b. b.ascent) refl k

  pub below-most : (strike_in v ws k).body.descent ≤ (extent_of v ws).below
  unfolding extent_of
  below-most = rows-most v ws (λ b. b.descent) refl k

-- so no picture has
module _ (v : View) (ws : List ℕ) (c : ℕ) where
  -- the body that its picture is in
  abbrev body : ℕ
  body = (name_in v.header ws (place_of_code v.header (strike_in v ws) ws c)).body

  pub glyph-rise : ((face_from v ws).glyph c).ascent ≤ (extent_of v ws).above
  unfolding face_from glyph_from glyph_by picture_of strike_named
  glyph-rise = above_most v ws body

  pub glyph-fall : ((face_from v ws).glyph c).height ≤ ((face_from v ws).glyph c).ascent + (extent_of v ws).below
  unfolding face_from glyph_from glyph_by picture_of strike_named
  glyph-fall = let low = below-most v ws body in omega (arith, low)
