-- Where the dots of a picture land, in the paper's whole numbers: a dot lands on a row and column exactly when the rule's equations say so
-- (`landed`, `lands`), and it is the mark that painting makes there (`landing-mark`).
use Prim.Native.Nat.{ℕ, ◌+◌, ◌-◌, ◌*◌, ◌<◌}
use mathlib.Core.Path.{◌≡◌, refl, sym, ap, ◌∙◌}
use mathlib.Core.Bool.{Bool, true, false, cond, ◌&&◌}
use native.Mathlib.Nat.{zero-mul, mul-one, mul-zero}
use native.Mathlib.Omega.{arith}
use lib.Dec.{leb}
use lib.IntN.{ℤ, pos, ◌+ℤ◌, ◌-ℤ◌}
use borrow.Author.Tests.{le-leb, lt-ltb}
use Rattle.words.specs.Place.{outside, place_of, number_at, dot_at}
use Rattle.words.proofs.BitLaws.{on-digit}
use Rattle.words.proofs.Whole.{up, down, same_number, plain-number, pos-is, sum_is, less-is, place_is, number-at}
use Rattle.words.proofs.Whole.{dot-at, dot-there, dot-hit, at-bit}
use Rattle.fonts.specs.declared.Glyph.{Glyph}
use Rattle.paint.specs.declared.Shape.{Shape}
use Rattle.paint.specs.declared.Label.{Label}
use Rattle.paint.specs.declared.Pen.{Pen}
use Rattle.paint.specs.Panel.{strip_of}
use Rattle.paint.specs.Pen.{stroke_of, in_strip, dot_along, mark}
use Rattle.paint.specs.Rule.{Character, top_row, left_column, landing, Lands}
use Rattle.paint.proofs.Marks.{in-strip-bit, mark-beside}
use Rattle.paint.proofs.Strips.{within-strip}

product-one : (a b : ℕ) → b < 2 → a * b ≡ 1 → (a ≡ 1) × (b ≡ 1)
product-one a b hb =
    on-digit (λ (x : ℕ). a * x ≡ 1 → (a ≡ 1) × (x ≡ 1))
    (λ e. let z : 0 ≡ 1 = sym (mul-zero a) ∙ e in absurd (omega arith))
    (λ e. (sym (mul-one a) ∙ e, refl)) b hb

module _ (dot : Glyph → ℕ → ℕ → ℕ) (s : Shape) (l : Label) (ch : Character) (row column : ℕ) where
  abbrev g : Glyph
  g = ch.glyph

  abbrev first : ℕ
  first = (strip_of s l.strip).from

  abbrev left : ℤ
  left = ch.pen +ℤ number_at g.place

  abbrev picture-row : ℤ
  picture-row = pos row -ℤ top_row l ch

  abbrev picture-column : ℤ
  picture-column = pos column -ℤ left_column s l ch

  -- picture row and column are what the rule says: row - (y - ascent), column - (first + left)
  row_is : up picture-row + (up l.y + down (pos row) + down (pos g.ascent))
      ≡ down picture-row + (up (pos row) + down l.y + up (pos g.ascent))
  row_is = omega (arith, less-is (pos row) (top_row l ch), less-is l.y (pos g.ascent))

  column-is : up picture-column + (up (pos first) + up left + down (pos column))
      ≡ down picture-column + (up (pos column) + down (pos first) + down left)
  column-is = omega (arith, less-is (pos column) (left_column s l ch), sum_is (pos first) left)

  -- a dot that lands there does so by the rule, and one that does so by the rule lands
  pub landed : landing dot s l ch row column ≡ 1 → Lands dot s l ch row column
  unfolding landing
  landed e =
      let strip = strip_of s l.strip in
      let factors = product-one (dot_at (dot g) picture-row picture-column) (in_strip strip column) (in-strip-bit strip column) e in
      let hit = dot-hit (dot g) picture-row picture-column factors.0 in
      let inside = within-strip (strip_of s l.strip) column factors.1 in
      let r = up picture-row in
      let j = up picture-column in
      record {
        r = r;
        j = j;
        set = hit.2;
        down =
            same_number (pos row) (l.y -ℤ pos g.ascent +ℤ pos r)
            (omega (arith, hit.0, row_is, sum_is (l.y -ℤ pos g.ascent) (pos r), less-is l.y (pos g.ascent), pos-is r));
        across =
            same_number (pos column) (pos first +ℤ left +ℤ pos j)
            (omega (arith, hit.1, column-is, sum_is (pos first +ℤ left) (pos j), sum_is (pos first) left, pos-is j));
        from = inside.0;
        upto = inside.1;
      }

  pub lands : Lands dot s l ch row column → landing dot s l ch row column ≡ 1
  unfolding landing in_strip
  lands there =
      let r = there.r in
      let j = there.j in
      let below = l.y -ℤ pos g.ascent in
      let right = pos first +ℤ left in
      let down-up = ap up there.down in
      let down-down = ap down there.down in
      let across-up = ap up there.across in
      let across-down = ap down there.across in
      let row-there =
      plain-number picture-row r
      (omega (arith, row_is, sum_is below (pos r), less-is l.y (pos g.ascent), pos-is r, down-up, down-down)) in
      let column-there =
      plain-number picture-column j
      (omega (arith, column-is, sum_is right (pos j), sum_is (pos first) left, pos-is j, across-up, across-down)) in
      rw (le-leb first column there.from, lt-ltb column (strip_of s l.strip).upto there.upto)
      (mul-one (dot_at (dot g) picture-row picture-column)
      ∙ dot-there (dot g) picture-row picture-column r j row-there column-there
      ∙ there.set)

  -- it is 0 or 1
  pub landing-bit : ((r j : ℕ) → dot g r j < 2) → landing dot s l ch row column < 2
  unfolding landing
  landing-bit bits =
      let inside = in_strip (strip_of s l.strip) column in
      let here = at-bit (dot g) picture-row picture-column bits in
      on-digit (λ (b : ℕ). dot_at (dot g) picture-row picture-column * b < 2)
      (rw (mul-zero (dot_at (dot g) picture-row picture-column)) (omega arith))
      (rw (mul-one (dot_at (dot g) picture-row picture-column)) here)
      inside (in-strip-bit (strip_of s l.strip) column)

  -- outside the strip there is none
  pub landing-beside : in_strip (strip_of s l.strip) column ≡ 0 → landing dot s l ch row column ≡ 0
  unfolding landing
  landing-beside out =
      ap (λ (b : ℕ). dot_at (dot g) picture-row picture-column * b) out ∙ mul-zero (dot_at (dot g) picture-row picture-column)

  -- ---- the mark

  by-two-tests : (t u : Bool) (n inside : ℕ) → cond (t && u) n 0 * inside ≡ cond t (cond u n 0 * inside) 0
  by-two-tests true u n inside = refl
  by-two-tests false u n inside = zero-mul inside

  module _ (pen : Pen) where
    outside-strip : in_strip (strip_of s l.strip) column ≡ 0 → landing dot s l ch row column ≡ mark dot (stroke_of s l) pen g row column
    unfolding stroke_of
    outside-strip out = landing-beside out ∙ sym (mark-beside dot (stroke_of s l) pen g row column out)

    module _ (known : outside l.y ≡ false) (same : ch.pen ≡ number_at pen.place) where
      inside-strip : in_strip (strip_of s l.strip) column ≡ 1 → landing dot s l ch row column ≡ mark dot (stroke_of s l) pen g row column
      unfolding landing mark stroke_of dot_along
      inside-strip in-it =
          let from = (within-strip (strip_of s l.strip) column in-it).0 in
          let y = place_of l.y in
          let below = row + 2048 + g.ascent in
          let start = pen.place + g.place in
          let at = column + 4096 - first in
          let pen-up = ap up same in
          let pen-down = ap down same in
          let down_is : up picture-row + y ≡ down picture-row + below =
          omega (arith, row_is, place_is l.y known, pos-is row, pos-is g.ascent) in
          let across-is : up picture-column + start ≡ down picture-column + at =
          omega (
            arith,
            from,
            column-is,
            sum_is ch.pen (number_at g.place),
            pen-up,
            pen-down,
            number-at pen.place,
            number-at g.place,
            pos-is first,
            pos-is column,
          ) in
          ap (λ (n : ℕ). n * in_strip (strip_of s l.strip) column)
          (dot-at (dot g) picture-row picture-column below y at start down_is across-is)
          ∙ by-two-tests (leb y below) (leb start at) (dot g (below - y) (at - start)) (in_strip (strip_of s l.strip) column)

      pub landing-mark : landing dot s l ch row column ≡ mark dot (stroke_of s l) pen g row column
      landing-mark =
          let inside = in_strip (strip_of s l.strip) column in
          on-digit (λ (b : ℕ). inside ≡ b → landing dot s l ch row column ≡ mark dot (stroke_of s l) pen g row column)
          outside-strip inside-strip inside (in-strip-bit (strip_of s l.strip) column) refl
