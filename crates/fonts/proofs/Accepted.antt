-- What an accepted font promises: the inverse of the tests that its bodies, its rows and its pictures' places rest on.
use Prim.Native.Nat.{ℕ, zero, suc, ◌+◌, ◌<◌, ◌≤◌}
use mathlib.Core.Path.{◌≡◌, refl}
use mathlib.Core.Bool.{Bool, true, false, cond, not, ◌||◌, true≢false}
use mathlib.Core.List.{List}
use native.Mathlib.Omega.{arith}
use lib.Dec.{eqb, ltb}
use lib.ListN.{length}
use borrow.Author.Tests.{eqb-true, eqb-false, ltb-true, ltb-false, le-ltb}
use Rattle.words.specs.Refusal.{first_of, not_within}
use Rattle.words.proofs.Passed.{neither, passed, within, stages-passed}
use Rattle.fonts.specs.declared.Header.{Header}
use Rattle.fonts.specs.declared.Body.{Body}
use Rattle.fonts.specs.Strike.{header_of, view_of, index, codes, height, bitmap_words, behind, first_at, body_of, body_start}
use Rattle.fonts.specs.Strike.{bitmaps_of, strike_in, strike_by}
use Rattle.fonts.specs.Reading.{too_short, bad_format, kerned_too_short, bad_codes, bad_count, bad_box, front_number}
use Rattle.fonts.specs.Reading.{bad_sizes, wrong_length, wrong_end, head_number, body_number, bodies_number}
use Rattle.fonts.specs.Reading.{number_by, font_number}
use Rattle.fonts.proofs.Tabled.{strike-tabled}

-- ---- the words before the bodies

pub record Sound (h : Header) : Type 0 where
  pub box : bad_box h ≡ false
  pub some : 1 ≤ h.bodies
  pub few : h.bodies ≤ 128

front-sound : (h : Header) (count : ℕ) → front_number h count ≡ 0 → Sound h
unfolding front_number first_of bad_count
front-sound h count e =
    let short = passed (too_short count) 1 _ (omega arith) e in
    let format = passed (bad_format h) 2 _ (omega arith) short.1 in
    let kerned = passed (kerned_too_short h count) 1 _ (omega arith) format.1 in
    let range = passed (bad_codes h) 3 _ (omega arith) kerned.1 in
    let bodies = passed (bad_count h) 15 _ (omega arith) range.1 in
    let front = passed (ltb count (first_at h)) 1 _ (omega arith) bodies.1 in
    let box = passed (bad_box h) 4 _ (omega arith) front.1 in
    let number = within 1 128 h.bodies bodies.0 in
    record { box = box.0; some = number.0; few = number.1 }

-- the words before the first body are there
pub front-there : (h : Header) (count : ℕ) → front_number h count ≡ 0 → first_at h ≤ count
unfolding front_number first_of
front-there h count e =
    let short = passed (too_short count) 1 _ (omega arith) e in
    let format = passed (bad_format h) 2 _ (omega arith) short.1 in
    let kerned = passed (kerned_too_short h count) 1 _ (omega arith) format.1 in
    let range = passed (bad_codes h) 3 _ (omega arith) kerned.1 in
    let bodies = passed (bad_count h) 15 _ (omega arith) range.1 in
    let front = passed (ltb count (first_at h)) 1 _ (omega arith) bodies.1 in
    ltb-false count (first_at h) front.0

pub accepted-sound : (ws : List ℕ) → font_number ws ≡ 0 → Sound (header_of ws)
unfolding font_number number_by
accepted-sound ws e = front-sound (header_of ws) (length ws) (stages-passed _ _ e).0

-- ---- the bodies

pub record SoundBody (b : Body) (at count : ℕ) : Type 0 where
  pub some : 1 ≤ b.raster
  pub long : bitmap_words b + 7 ≤ b.words
  pub within : at + b.words ≤ count

true-one : (t : Bool) → not t ≡ false → t ≡ true
true-one true e = refl
true-one false e = absurd (true≢false e)

end-within : (h : Header) (end count : ℕ) (last : Bool) → wrong_end h end last count ≡ false → end ≤ count
unfolding wrong_end
end-within h end count true e =
    let whole = eqb-true count (end + behind h) (true-one (eqb count (end + behind h)) e) in
    omega arith
end-within h end count false e = ltb-false count end e

long-enough : (h : Header) (b : Body) → wrong_length h b ≡ false → bitmap_words b + 7 ≤ b.words
unfolding wrong_length
long-enough h b e = by_kind (index h) e
  where
    by_kind : (t : Bool) → cond t (ltb b.words (bitmap_words b + 7)) (not (eqb b.words (bitmap_words b + 7 + codes h))) ≡ false
        → bitmap_words b + 7 ≤ b.words
    by_kind true e = ltb-false b.words (bitmap_words b + 7) e
    by_kind false e =
        let exact = eqb-true b.words (bitmap_words b + 7 + codes h) (true-one (eqb b.words (bitmap_words b + 7 + codes h)) e) in
        omega (arith, exact)

head-sound : (h : Header) (b : Body) (at count : ℕ) (last : Bool) → head_number h b at last count ≡ 0 → SoundBody b at count
unfolding head_number first_of bad_sizes
head-sound h b at count last e =
    let five = passed (ltb count (at + 5)) 5 _ (omega arith) e in
    let sizes = passed (bad_sizes b) 4 _ (omega arith) five.1 in
    let lengths = passed (wrong_length h b) 5 _ (omega arith) sizes.1 in
    let end = passed (wrong_end h (at + b.words) last count) 5 _ (omega arith) lengths.1 in
    let tall-wide = neither (not_within 1 256 (height b) || not_within 1 4096 b.raster) (ltb 0 b.xoffset) sizes.0 in
    let wide = neither (not_within 1 256 (height b)) (not_within 1 4096 b.raster) tall-wide.0 in
    record {
      some = (within 1 4096 b.raster wide.1).0;
      long = long-enough h b lengths.0;
      within = end-within h (at + b.words) count last end.0;
    }

-- of bodies that are not refused in turn none is refused
bodies-passed : (h : Header) (ws : List ℕ) (n k : ℕ) → bodies_number h ws n ≡ 0 → k < n
    → body_number h ws (body_start h ws k) (eqb (suc k) h.bodies) ≡ 0
unfolding bodies_number
bodies-passed h ws zero k e less = absurd (omega arith)
bodies-passed h ws (suc n) k e less =
    last-or-before (eqb k n) refl (λ before. bodies-passed h ws n k (stages-passed _ _ e).0 before)
  where
    last-or-before : (t : Bool) → eqb k n ≡ t → (k < n → body_number h ws (body_start h ws k) (eqb (suc k) h.bodies) ≡ 0)
        → body_number h ws (body_start h ws k) (eqb (suc k) h.bodies) ≡ 0
    last-or-before true same earlier = rw (eqb-true k n same) (stages-passed _ _ e).1
    last-or-before false other earlier = let apart = eqb-false k n other in earlier (omega (arith, apart))

pub accepted-body : (ws : List ℕ) → font_number ws ≡ 0 → (k : ℕ) → k < (header_of ws).bodies
    → SoundBody (body_of ws (body_start (header_of ws) ws k)) (body_start (header_of ws) ws k) (length ws)
unfolding font_number number_by body_number
accepted-body ws e k less =
    let h = header_of ws in
    let bodies = (stages-passed _ _ (stages-passed _ _ e).1).0 in
    let own = bodies-passed h ws h.bodies k bodies less in
    head-sound h (body_of ws (body_start h ws k)) (body_start h ws k) (length ws) (eqb (suc k) h.bodies) (stages-passed _ _ own).0

-- the table of 128 has every body of it
pub strike-accepted : (ws : List ℕ) → font_number ws ≡ 0 → (k : ℕ)
    → strike_by (view_of ws) (bitmaps_of (view_of ws).header ws) ws k ≡ strike_in (view_of ws) ws k
unfolding strike_by strike_in view_of
strike-accepted ws good k = small-or-not (ltb k 128) refl
  where
    small-or-not : (t : Bool) → ltb k 128 ≡ t → strike_by (view_of ws) (bitmaps_of (view_of ws).header ws) ws k
        ≡ strike_in (view_of ws) ws k
    small-or-not true small = strike-tabled (view_of ws) ws k (ltb-true k 128 small)
    small-or-not false large =
        let past = ltb-false k 128 large in
        let few = (accepted-sound ws good).few in
        rw (le-ltb k (header_of ws).bodies (omega arith))
