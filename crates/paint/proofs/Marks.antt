-- The marks of a picture on a word of the panel: which dots make one, and where there is none.
use Prim.Native.Nat.{ℕ, ◌+◌, ◌-◌, ◌*◌, ◌<◌, ◌≤◌}
use mathlib.Core.Path.{◌≡◌, refl, sym, ap, ◌∙◌}
use mathlib.Core.Bool.{Bool, true, false, cond, ◌&&◌}
use native.Mathlib.Nat.{zero-mul, one-mul, mul-zero, mul-one}
use native.Mathlib.Omega.{arith}
use lib.Dec.{leb, ltb}
use borrow.Author.Tests.{le-leb, lt-leb, lt-ltb, le-ltb}
use Rattle.words.proofs.BitLaws.{on-digit}
use Rattle.words.proofs.Passed.{either_way}
use Rattle.words.proofs.Bits.{word-of-none, word-of-lt}
use Rattle.fonts.specs.declared.Glyph.{Glyph}
use Rattle.paint.specs.declared.Strip.{Strip}
use Rattle.paint.specs.declared.Stroke.{Stroke}
use Rattle.paint.specs.declared.Pen.{Pen}
use Rattle.paint.specs.Pen.{in_strip, dot_along, mark, mask_from}

bit-choice : (t : Bool) (x : ℕ) → x < 2 → cond t x 0 < 2
bit-choice true x h = h
bit-choice false x h = omega arith

pub in-strip-bit : (strip : Strip) (column : ℕ) → in_strip strip column < 2
unfolding in_strip
in-strip-bit strip column = bit-choice (leb strip.from column && ltb column strip.upto) 1 (omega arith)

mark-product : (t : Bool) (a b : ℕ) → a < 2 → b < 2 → cond t (a * b) 0 < 2
mark-product true a b ha hb = on-digit (λ (x : ℕ). x * b < 2) (rw (zero-mul b) (omega arith)) (rw (one-mul b) hb) a ha
mark-product false a b ha hb = omega arith

module _ (dot : Glyph → ℕ → ℕ → ℕ) (k : Stroke) (pen : Pen) (g : Glyph) (row : ℕ) where
  -- the row of the picture that comes to lie there, and its dots by their place
  abbrev below : ℕ
  below = row + 2048 + g.ascent

  abbrev pub row_dots : ℕ → ℕ
  row_dots = dot_along (dot g (below - k.y)) (pen.place + g.place)

  row-bit : ((i j : ℕ) → dot g i j < 2) → (at : ℕ) → row_dots at < 2
  unfolding dot_along
  row-bit bits at =
      let left = pen.place + g.place in
      bit-choice (leb left at) (dot g (below - k.y) (at - left)) (bits (below - k.y) (at - left))

  pub mark-bit : (column : ℕ) → ((i j : ℕ) → dot g i j < 2) → mark dot k pen g row column < 2
  unfolding mark
  mark-bit column bits =
      mark-product (leb k.y below) _ _ (row-bit bits (column + 4096 - k.strip.from)) (in-strip-bit k.strip column)

  -- a column outside the strip
  pub mark-beside : (column : ℕ) → in_strip k.strip column ≡ 0 → mark dot k pen g row column ≡ 0
  unfolding mark
  mark-beside column out =
      let here = row_dots (column + 4096 - k.strip.from) in
      either_way (leb k.y below) _ 0 (ap (λ (b : ℕ). here * b) out ∙ mul-zero here)

  -- a column where the row has no dot
  pub mark-dark : (column : ℕ) → row_dots (column + 4096 - k.strip.from) ≡ 0 → mark dot k pen g row column ≡ 0
  unfolding mark
  mark-dark column dark =
      let inside = in_strip k.strip column in
      either_way (leb k.y below) _ 0 (ap (λ (d : ℕ). d * inside) dark ∙ zero-mul inside)

  -- a column of the strip, in a row that does not lie above the picture
  pub mark-lit : (column : ℕ) → k.y ≤ below → in_strip k.strip column ≡ 1
      → mark dot k pen g row column ≡ row_dots (column + 4096 - k.strip.from)
  unfolding mark
  mark-lit column begun inside =
      let here = row_dots (column + 4096 - k.strip.from) in
      rw (le-leb k.y below begun) (ap (λ (b : ℕ). here * b) inside ∙ mul-one here)

  -- a row of the picture without a dot
  mark-none : (column : ℕ) → ((j : ℕ) → dot g (below - k.y) j ≡ 0) → mark dot k pen g row column ≡ 0
  unfolding dot_along
  mark-none column none =
      mark-dark column (either_way (leb (pen.place + g.place) (column + 4096 - k.strip.from)) _ 0 (none _))

  module _ (start : ℕ) where
    -- the row lies above the picture
    pub mask-above : below < k.y → 0 ≡ mask_from dot k pen g row start
    unfolding mask_from mark
    mask-above h = sym (word-of-none _ (λ j less. rw (lt-leb k.y below h)))

    pub mask_lt : ((i j : ℕ) → dot g i j < 2) → mask_from dot k pen g row start < 65536
    unfolding mask_from
    mask_lt bits = word-of-lt _ (λ j. mark-bit (start + j) bits)

    -- the row lies below the picture
    pub mask-under : ((i j : ℕ) → g.height ≤ i → dot g i j ≡ 0) → k.y + g.height ≤ below → mask_from dot k pen g row start ≡ 0
    unfolding mask_from
    mask-under past h = word-of-none _ (λ j less. mark-none (start + j) (λ i. past (below - k.y) i (omega arith)))

    -- the picture has no dot
    pub mask-none : ((i j : ℕ) → dot g i j ≡ 0) → mask_from dot k pen g row start ≡ 0
    unfolding mask_from
    mask-none none = word-of-none _ (λ j less. mark-none (start + j) (none (below - k.y)))

-- a column left of the strip, and one right of it
pub strip-right-of : (strip : Strip) (column : ℕ) → column < strip.from → in_strip strip column ≡ 0
unfolding in_strip
strip-right-of strip column h = rw (lt-leb strip.from column h)

both-fail : (s t : Bool) → t ≡ false → ◌≡◌ {A = ℕ} (cond (s && t) 1 0) 0
both-fail true t e = rw e
both-fail false t e = refl

pub strip-left-of : (strip : Strip) (column : ℕ) → strip.upto ≤ column → in_strip strip column ≡ 0
unfolding in_strip
strip-left-of strip column h = both-fail (leb strip.from column) (ltb column strip.upto) (le-ltb column strip.upto h)

pub strip-holds : (strip : Strip) (column : ℕ) → strip.from ≤ column → column < strip.upto → in_strip strip column ≡ 1
unfolding in_strip
strip-holds strip column from upto = rw (le-leb strip.from column from, lt-ltb column strip.upto upto)
