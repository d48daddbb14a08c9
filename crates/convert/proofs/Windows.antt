-- A dot shown where some tests hold, and none elsewhere: the window that a written font has on a code's picture, and the one that a CU file
-- has on its raster. Both show the same dots.
use Prim.Native.Nat.{ℕ, ◌+◌, ◌-◌, ◌<◌, ◌≤◌}
use mathlib.Core.Path.{◌≡◌, refl, sym, ap, ap₂, ◌∙◌}
use mathlib.Core.Bool.{Bool, true, false, cond, ◌&&◌, true≢false}
use mathlib.Core.List.{List}
use native.Mathlib.Omega.{arith}
use lib.Dec.{leb, ltb}
use lib.IntN.{ℤ, pos, ◌+ℤ◌, ◌-ℤ◌}
use borrow.Author.Tests.{leb-true, ltb-true, le-leb, lt-ltb}
use Rattle.words.specs.Place.{place_of_word, number_at}
use Rattle.words.proofs.BitLaws.{on-digit}
use Rattle.words.proofs.Passed.{both}
use Rattle.words.proofs.Whole.{up, down, pos-is, sum_is, less-is, number-at, dot-at}
use Rattle.fonts.specs.declared.Glyph.{Glyph}
use Rattle.fonts.specs.Face.{face_of}
use Rattle.convert.specs.Writing.{Drawing, fbbdy, file_of}
use Rattle.convert.specs.Cu.{rows, width, code_place, raster_dot, has_dot, left_of, top, drawing_of}
use Rattle.convert.specs.Shown.{raster_within, drawn_dot, shown_dot}
use Rattle.convert.proofs.Sound.{Sound}
use Rattle.convert.proofs.Written.{written-glyph, written-dot}
use Rattle.convert.proofs.Accepting.{GoodFile}
use Rattle.convert.proofs.Codes.{character-there}
use Rattle.convert.proofs.Boxes.{Dot, raster-bit, empty-dot, left-upto, right-from, left-right, right-inside, top-upto, bottom-from}
use Rattle.convert.proofs.Drawn.{drawn-across, drawn-empty, drawn-dot, drawn-ascent, a, b, origin-row, box-rows, bottom-inside, own-place}

-- two windows show the same dots: where the first is open the second is too, on the same dot; and where the second shows a dot the first
-- is open
same-window : (s t : Bool) (m n : ℕ) → n < 2 → (s ≡ true → (t ≡ true) × (m ≡ n)) → (t ≡ true → n ≡ 1 → s ≡ true) → cond s m 0 ≡ cond t n 0
same-window true t m n bit to from = let there = to refl in rw there.0 there.1
same-window false true m n bit to from =
    on-digit (λ (x : ℕ). (x ≡ 1 → false ≡ true) → 0 ≡ x) (λ f. refl) (λ f. absurd (true≢false (sym (f refl)))) n bit (from refl)
same-window false false m n bit to from = refl

one-window : (p q r s : Bool) (n : ℕ) → cond (p && q) (cond (r && s) n 0) 0 ≡ cond (p && q && r && s) n 0
one-window true true r s n = refl
one-window true false r s n = refl
one-window false q r s n = refl

all_hold : (p q r s : Bool) → (p && q && r && s) ≡ true → ((p ≡ true) × (q ≡ true)) × ((r ≡ true) × (s ≡ true))
all_hold p q r s e =
    let last = both (p && q && r) s e in
    let third = both (p && q) r last.0 in
    (both p q third.0, (third.1, last.1))

all_true : (p q r s : Bool) → p ≡ true → q ≡ true → r ≡ true → s ≡ true → (p && q && r && s) ≡ true
all_true p q r s hp hq hr hs = rw (hp, hq, hr, hs)

-- ---- the window of a written font

module _ (d : Drawing) (c : ℕ) (x y : ℤ) where
  abbrev place : ℕ
  place = place_of_word d.fbbox + d.offset c

  abbrev row : ℕ
  row = d.ascent + down y - (1 + up y)

  abbrev column : ℕ
  column = up x + 2048 - (down x + place)

  -- neither above the picture nor left of it, neither below it nor right of it
  abbrev under : Bool
  under = leb (1 + up y) (d.ascent + down y)

  abbrev beyond : Bool
  beyond = leb (down x + place) (up x + 2048)

  abbrev shows : Bool
  shows = under && beyond && ltb row (fbbdy d) && ltb column (d.columns c)

  -- x and y from the left column and the top row of a picture whose place and ascent are these
  row_from : (n : ℕ) → n ≡ d.ascent → up (pos n -ℤ pos 1 -ℤ y) + (1 + up y) ≡ down (pos n -ℤ pos 1 -ℤ y) + (d.ascent + down y)
  row_from n e = omega (arith, less-is (pos n -ℤ pos 1) y, less-is (pos n) (pos 1), pos-is n, pos-is 1)

  column-from : (n : ℕ) → n ≡ place → up (x -ℤ number_at n) + (down x + place) ≡ down (x -ℤ number_at n) + (up x + 2048)
  column-from n e = omega (arith, less-is x (number_at n), number-at n)

  pub written-shown : Sound d → c < 256 → d.present c ≡ true → shown_dot (face_of (file_of d)) c x y ≡ cond shows (d.dot c row column) 0
  unfolding shown_dot
  written-shown s h there =
      let face = face_of (file_of d) in
      let glyph = written-glyph d s c h there in
      let down_is = row_from (face.glyph c).ascent (ap (λ (g : Glyph). g.ascent) glyph) in
      let across-is = column-from (face.glyph c).place (ap (λ (g : Glyph). g.place) glyph) in
      dot-at (face.dot (face.glyph c)) _ _ (d.ascent + down y) (1 + up y) (up x + 2048) (down x + place) down_is across-is
      ∙ ap (λ (n : ℕ). cond (under && beyond) n 0) (written-dot d s row c column h there)
      ∙ one-window under beyond (ltb row (fbbdy d)) (ltb column (d.columns c)) _

  shows-within : shows ≡ true
      → ((1 + up y ≤ d.ascent + down y) × (down x + place ≤ up x + 2048)) × ((row < fbbdy d) × (column < d.columns c))
  shows-within e =
      let tests = all_hold under beyond (ltb row (fbbdy d)) (ltb column (d.columns c)) e in
      ((leb-true _ _ tests.0.0, leb-true _ _ tests.0.1), (ltb-true _ _ tests.1.0, ltb-true _ _ tests.1.1))

  within-shows : 1 + up y ≤ d.ascent + down y → down x + place ≤ up x + 2048 → row < fbbdy d → column < d.columns c → shows ≡ true
  within-shows above left below right =
      all_true under beyond (ltb row (fbbdy d)) (ltb column (d.columns c))
      (le-leb _ _ above) (le-leb _ _ left) (lt-ltb _ _ below) (lt-ltb _ _ right)

-- ---- and that of a CU file

module _ (ws : List ℕ) (c : ℕ) (x y : ℤ) where
  abbrev i : ℕ
  i = a ws + down y - up y

  abbrev j : ℕ
  j = up x + b ws - down x

  abbrev pub draws : Bool
  draws = leb (up y) (a ws + down y) && leb (down x) (up x + b ws) && ltb i (rows ws) && ltb j (width ws)

  pub raster-drawn : drawn_dot ws c x y ≡ cond draws (raster_dot ws (code_place ws c) i j) 0
  unfolding drawn_dot raster_within
  raster-drawn =
      dot-at _ (pos (a ws) -ℤ y) (x +ℤ pos (b ws)) (a ws + down y) (up y) (up x + b ws) (down x)
      (omega (arith, less-is (pos (a ws)) y, pos-is (a ws))) (omega (arith, sum_is x (pos (b ws)), pos-is (b ws)))
      ∙ one-window (leb (up y) (a ws + down y)) (leb (down x) (up x + b ws)) (ltb i (rows ws)) (ltb j (width ws)) _

  pub draws-within : draws ≡ true → ((up y ≤ a ws + down y) × (down x ≤ up x + b ws)) × ((i < rows ws) × (j < width ws))
  draws-within e =
      let tests = all_hold (leb (up y) (a ws + down y)) (leb (down x) (up x + b ws)) (ltb i (rows ws)) (ltb j (width ws)) e in
      ((leb-true _ _ tests.0.0, leb-true _ _ tests.0.1), (ltb-true _ _ tests.1.0, ltb-true _ _ tests.1.1))

  within-draws : up y ≤ a ws + down y → down x ≤ up x + b ws → i < rows ws → j < width ws → draws ≡ true
  within-draws above left below right =
      all_true (leb (up y) (a ws + down y)) (leb (down x) (up x + b ws)) (ltb i (rows ws)) (ltb j (width ws))
      (le-leb _ _ above) (le-leb _ _ left) (lt-ltb _ _ below) (lt-ltb _ _ right)

  -- ---- the two of a code that is there

  module _ (g : GoodFile ws) (h : c < 256) (there : 0 < code_place ws c) where
    abbrev p : ℕ
    p = code_place ws c

    abbrev shown : Bool
    shown = shows (drawing_of ws) c x y

    abbrev picture : ℕ
    picture = (drawing_of ws).dot c (row (drawing_of ws) c x y) (column (drawing_of ws) c x y)

    module _ (dotted : has_dot ws p ≡ true) where
      shown-draws : shown ≡ true → (draws ≡ true) × (picture ≡ raster_dot ws p i j)
      shown-draws e =
          let d = drawing_of ws in
          let inside = shows-within d c x y e in
          let up = drawn-ascent ws in
          let across = drawn-across ws c h dotted in
          let left = own-place ws g c h there dotted in
          let box = left-right ws p dotted in
          let right = right-inside ws p dotted in
          let origin = origin-row ws g in
          let high = box-rows ws g in
          let low = bottom-inside ws g in
          let line : top ws + row d c x y ≡ i = omega arith in
          let across-is : left_of ws p + column d c x y ≡ j = omega arith in (
            within-draws (omega arith) (omega arith) (omega arith) (omega arith),
            drawn-dot ws c h _ _ ∙ ap₂ (raster_dot ws p) line across-is,
          )

      drawn-shows : draws ≡ true → raster_dot ws p i j ≡ 1 → shown ≡ true
      drawn-shows e set =
          let d = drawing_of ws in
          let inside = draws-within e in
          let dot : Dot ws p i j = record { down = inside.1.0; across = inside.1.1; set = set } in
          let here = character-there ws c there in
          let left = left-upto ws p i j dot in
          let right = right-from ws p i j dot in
          let above = top-upto ws c p here i j dot in
          let below = bottom-from ws c p here i j dot in
          let up = drawn-ascent ws in
          let across = drawn-across ws c h dotted in
          let box = own-place ws g c h there dotted in
          let origin = origin-row ws g in
          let high = box-rows ws g in
          within-shows d c x y (omega arith) (omega arith) (omega arith) (omega arith)

    pub same-dots : cond shown picture 0 ≡ cond draws (raster_dot ws p i j) 0
    same-dots = by-dots (has_dot ws p) refl
      where
        by-dots : (t : Bool) → has_dot ws p ≡ t → cond shown picture 0 ≡ cond draws (raster_dot ws p i j) 0
        by-dots true dotted = same-window shown draws picture _ (raster-bit ws p i j) (shown-draws dotted) (drawn-shows dotted)
        -- nothing is shown of an empty character, and it has no dot
        by-dots false none =
            same-window shown draws picture _ (raster-bit ws p i j)
            (λ e. let inside = shows-within (drawing_of ws) c x y e in let across = drawn-empty ws c h none in absurd (omega arith))
            (λ e set.
            let inside = draws-within e in
            let empty = empty-dot ws p none i j inside.1.0 inside.1.1 in
            absurd (omega arith))
