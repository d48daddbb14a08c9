-- What a call that passed its tests promises: the inverse of the chains of tests.
use Prim.Native.Nat.{ℕ, ◌+◌, ◌*◌, ◌≤◌}
use mathlib.Core.Path.{◌≡◌, ap, ◌∙◌}
use mathlib.Core.Bool.{false, ◌||◌}
use mathlib.Core.List.{[], ◌∷◌}
use native.Mathlib.Nat.{mul-le-mul_right, suc-mul}
use native.Mathlib.Numerals.{add-one}
use native.Mathlib.Omega.{arith}
use lib.Dec.{ltb}
use lib.IntN.{ℤ}
use borrow.Author.Tests.{ltb-false, le-ltb}
use Rattle.words.specs.Refusal.{first_of, not_within}
use Rattle.words.specs.Place.{outside}
use Rattle.words.proofs.Passed.{neither, passed, within}
use Rattle.words.proofs.Signs.{place-le}
use Rattle.paint.specs.declared.Shape.{Shape}
use Rattle.paint.specs.declared.Label.{Label}
use Rattle.paint.specs.declared.Stroke.{Stroke}
use Rattle.paint.specs.Panel.{bad_sides, bad_shape, some_short, bad_panel}
use Rattle.paint.specs.Pen.{stroke_of, Drawable}
use Rattle.paint.specs.Label.{label_number, number_with, measure_number}
use Rattle.paint.proofs.Replies.{panel-good, label-good, measure-good}

-- what a shape and a slice that 8 does not refuse promise
pub record GoodPanel (s : Shape) (room : ℕ) : Type 0 where
  pub some : 1 ≤ s.rowwords
  pub narrow : s.rowwords ≤ 128
  pub low : s.rows ≤ 256
  pub strips : 32 * s.width ≤ 16 * s.rowwords
  pub long : s.rowwords * s.rows ≤ room

pub good-panel : (s : Shape) (room : ℕ) → bad_panel s (room ∷ []) ≡ false → GoodPanel s room
unfolding bad_panel bad_shape bad_sides some_short
good-panel s room e =
    let shape-slice = neither (bad_shape s) (some_short s (room ∷ [])) e in
    let sides-strips = neither (bad_sides s) (ltb (16 * s.rowwords) (32 * s.width)) shape-slice.0 in
    let rows-width = neither (not_within 1 128 s.rowwords || not_within 1 256 s.rows) (not_within 1 64 s.width) sides-strips.0 in
    let words-rows = neither (not_within 1 128 s.rowwords) (not_within 1 256 s.rows) rows-width.0 in
    let across = within 1 128 s.rowwords words-rows.0 in
    record {
      some = across.0;
      narrow = across.1;
      low = (within 1 256 s.rows words-rows.1).1;
      strips = ltb-false (16 * s.rowwords) (32 * s.width) sides-strips.1;
      long = ltb-false room (s.rowwords * s.rows) (neither (ltb room (s.rowwords * s.rows)) false shape-slice.1).0;
    }

-- what a label that its own numbers do not refuse promises
pub record GoodLabel (l : Label) (bytes : ℕ) : Type 0 where
  pub strip : l.strip ≤ 31
  pub place : outside l.x ≡ false
  pub baseline : outside l.y ≡ false
  pub short : bytes ≤ 64
  pub mode : l.mode ≤ 2

pub good-label : (l : Label) (bytes : ℕ) → label_number l bytes ≡ 0 → GoodLabel l bytes
unfolding label_number first_of
good-label l bytes e =
    let nine = passed (ltb 31 l.strip) 9 _ (omega arith) e in
    let ten = passed (outside l.x || outside l.y) 10 _ (omega arith) nine.1 in
    let eleven = passed (ltb 64 bytes) 11 _ (omega arith) ten.1 in
    let twelve = passed (ltb 2 l.mode) 12 _ (omega arith) eleven.1 in
    record {
      strip = ltb-false 31 l.strip nine.0;
      place = (neither (outside l.x) (outside l.y) ten.0).0;
      baseline = (neither (outside l.x) (outside l.y) ten.0).1;
      short = ltb-false 64 bytes eleven.0;
      mode = ltb-false 2 l.mode twelve.0;
    }

-- a shorter text is not refused either
pub shorter-label : (l : Label) (bytes fewer : ℕ) → fewer ≤ bytes → label_number l bytes ≡ 0 → label_number l fewer ≡ 0
unfolding label_number first_of
shorter-label l bytes fewer less e =
    let good = good-label l bytes e in
    let short = good.short in
    rw (
      le-ltb 31 l.strip good.strip,
      good.place,
      good.baseline,
      le-ltb 64 fewer (omega arith),
      le-ltb 2 l.mode good.mode,
    )

pub shorter-measure : (x : ℤ) (bytes fewer : ℕ) → fewer ≤ bytes → measure_number x bytes ≡ 0 → measure_number x fewer ≡ 0
unfolding measure_number first_of
shorter-measure x bytes fewer less e =
    let good = measure-good x bytes e in
    let short = good.1 in
    rw (good.0, le-ltb 64 fewer (omega arith))

-- thirty-two strips fit the panel
pub strip-fits : (k width rowwords : ℕ) → k ≤ 31 → 32 * width ≤ 16 * rowwords → k * width + width ≤ 16 * rowwords
strip-fits k width rowwords h fit =
    let upto : (k + 1) * width ≤ 32 * width = mul-le-mul_right width (omega arith) in
    let next : (k + 1) * width ≡ k * width + width = ap (λ (n : ℕ). n * width) (add-one k) ∙ suc-mul k width in
    omega arith

-- so a stroke of them can be drawn
pub drawable : (s : Shape) (l : Label) (room : ℕ) → GoodPanel s room → l.strip ≤ 31 → Drawable (stroke_of s l) room
unfolding stroke_of
drawable s l room good one =
    let fits = strip-fits l.strip s.width s.rowwords one good.strips in
    let near = place-le l.y in
    (good.some, good.narrow, good.low, omega arith, fits, omega arith, good.long)

-- a slice that has kept its length can still be drawn on
pub same-room : (k : Stroke) (n m : ℕ) → m ≡ n → Drawable k n → Drawable k m
same-room k n m e d = (d.0, d.1, d.2, d.3, d.4, d.5, rw e d.6)

-- R × H words are enough for a shape that some slice passes
pub just_enough : (s : Shape) (room : ℕ) → bad_panel s (room ∷ []) ≡ false → bad_panel s (s.rowwords * s.rows ∷ []) ≡ false
unfolding bad_panel some_short
just_enough s room e =
    let shape = (neither (bad_shape s) (ltb room (s.rowwords * s.rows) || false) e).0 in
    rw (shape, le-ltb (s.rowwords * s.rows) (s.rowwords * s.rows) (omega arith))

-- a call that is lent one slice, and that nothing but its font can refuse
module _ (s : Shape) (room : ℕ) (l : Label) (bytes : ℕ) (number : 0 ≡ number_with s (room ∷ []) l bytes) where
  pub accepted-label : GoodLabel l bytes
  accepted-label = good-label l bytes (label-good s (room ∷ []) l bytes number)

  pub accepted-stroke : Drawable (stroke_of s l) room
  accepted-stroke = drawable s l room (good-panel s room (panel-good s (room ∷ []) l bytes number)) accepted-label.strip
