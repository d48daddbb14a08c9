-- What a drawing must meet to be written, and what that promises.
use Prim.Native.Nat.{ℕ, ◌+◌, ◌-◌, ◌*◌, ◌<◌, ◌≤◌}
use mathlib.Core.Path.{◌≡◌, refl}
use mathlib.Core.Bool.{Bool, true, false, cond, ◌&&◌, ◌||◌}
use native.Mathlib.Omega.{arith}
use lib.Dec.{ltb, eqb}
use borrow.Author.Tests.{ltb-false, eqb-true, eqb-false}
use Rattle.words.specs.Search.{some_below}
use Rattle.words.specs.Place.{place_of_word}
use Rattle.words.proofs.Search.{none_left, none_right, none_below, first-least, last-passes, last-greatest, most-le}
use Rattle.convert.specs.Writing.{Drawing, min_code, max_code, code_count, fbbdy, columns_of, all_columns, raster_of, max_width}
use Rattle.convert.specs.Writing.{bad_spacing, bad_offset, too_large}

-- some code is there, 24, 25 and 26 do not refuse it, its box is one that a font may have, the dummy has columns, and a dot is 0 or 1
pub record Sound (d : Drawing) : Type 0 where
  pub some : some_below 256 d.present ≡ true
  pub spacings : bad_spacing d ≡ false
  pub offsets : bad_offset d ≡ false
  pub fits : too_large d ≡ false
  pub high : 1 ≤ fbbdy d
  pub low : fbbdy d ≤ 256
  pub box-from : 1793 ≤ place_of_word d.fbbox
  pub box-upto : place_of_word d.fbbox ≤ 2303
  pub wide : 0 < d.fbbdx
  pub bits : (c r j : ℕ) → d.dot c r j < 2

-- a code that is there lies between min and max
module _ (d : Drawing) (c : ℕ) (there : d.present c ≡ true) where
  pub from-min : min_code d ≤ c
  unfolding min_code
  from-min = first-least d.present 256 c there

  pub upto-max : c < 256 → c ≤ max_code d
  unfolding max_code
  upto-max h = last-greatest d.present 256 c h there

  -- so it has a place in the tables, and its own columns in the strike
  pub in-tables : c < 256 → c - min_code d < code_count d
  unfolding code_count
  in-tables h = let from = from-min in let upto = upto-max h in omega arith

  pub counted : min_code d + (c - min_code d) ≡ c
  counted = let from = from-min in omega arith

  pub own-columns : columns_of d (min_code d + (c - min_code d)) ≡ d.columns c
  unfolding columns_of
  own-columns = rw (counted, there)

of_two : (s t : Bool) → s ≡ true → (s && t) ≡ false → t ≡ false
of_two s t h e = rw h at e

module _ (d : Drawing) (s : Sound d) where
  pub max-small : max_code d < 256
  unfolding max_code
  max-small = (last-passes d.present 256 s.some).0

  pub min-max : min_code d ≤ max_code d
  unfolding max_code
  min-max = from-min d (max_code d) (last-passes d.present 256 s.some).1

  -- there are columns, and at most 65,535
  pub raster-some : 1 ≤ raster_of d
  unfolding raster_of all_columns
  raster-some = let some = s.wide in omega arith

  pub raster-narrow : raster_of d ≤ 4096
  unfolding raster_of too_large
  raster-narrow = let columns = ltb-false 65535 (all_columns d) (none_left _ _ s.fits) in omega arith

  module _ (c : ℕ) (h : c < 256) (there : d.present c ≡ true) where
    bad-spacing : (ltb 255 (d.spacing c) || (eqb (d.spacing c) 255 && eqb (d.offset c) 255)) ≡ false
    unfolding bad_spacing
    bad-spacing = of_two (d.present c) _ there (none_below _ 256 c s.spacings h)

    pub spacing-small : d.spacing c ≤ 255
    spacing-small = ltb-false 255 (d.spacing c) (none_left _ _ bad-spacing)

    pub offset-small : d.offset c ≤ 255
    unfolding bad_offset
    offset-small = ltb-false 255 (d.offset c) (of_two (d.present c) _ there (none_below _ 256 c s.offsets h))

    -- "offset and spacing both 255 (the entry would read as absent)"
    pub entry-small : d.offset c * 256 + d.spacing c < 0xFFFF
    entry-small = not-both (eqb (d.spacing c) 255) refl
      where
        not-both : (t : Bool) → eqb (d.spacing c) 255 ≡ t → d.offset c * 256 + d.spacing c < 0xFFFF
        not-both true q =
            let wide = eqb-true (d.spacing c) 255 q in
            let other = eqb-false (d.offset c) 255
            (of_two (eqb (d.spacing c) 255) (eqb (d.offset c) 255) q (none_right (ltb 255 (d.spacing c)) _ bad-spacing)) in
            omega (arith, offset-small, other)
        not-both false q =
            let other = eqb-false (d.spacing c) 255 q in
            omega (arith, spacing-small, offset-small, other)

  pub max-width-small : max_width d ≤ 255
  unfolding max_width
  max-width-small = most-le _ 256 255 (λ c h. there-or-not c h (d.present c) refl)
    where
      there-or-not : (c : ℕ) → c < 256 → (t : Bool) → d.present c ≡ t → cond t (d.spacing c) 0 ≤ 255
      there-or-not c h true there = spacing-small c h there
      there-or-not c h false there = omega arith
