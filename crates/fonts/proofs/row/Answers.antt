-- `fonts::row` meets its contract, by its two tests; the part begins and ends where the definition says.
-- Assumes nothing.
use Prim.Native.Nat.{ℕ, ◌+◌, ◌*◌}
use mathlib.Core.Path.{◌≡◌, sym, ap, ◌∙◌}
use mathlib.Core.Bool.{and-false}
use mathlib.Core.List.{List}
use native.Mathlib.Omega.{arith}
use lib.ListN.{drop, take}
use borrow.Author.Tests.{lt-ltb, le-ltb, ne_eqb}
use Rattle.fonts.specs.declared.View.{View}
use Rattle.fonts.specs.declared.Strike.{Strike}
use Rattle.fonts.specs.Face.{row_of}
use Rattle.fonts.specs.Reading.{number_by, font_number, accepted}
use Rattle.fonts.specs.Strike.{view_of, height, strike_in, strike_by, bitmaps_of}
use Rattle.fonts.proofs.Dots.{row-start}
use Rattle.fonts.proofs.Readings.{told-refused, told-accepted}
use Rattle.words.specs.Refusal.{returned}
use Rattle.fonts.proofs.Accepted.{strike-accepted}
use Rattle.fonts.proofs.row.Goals as goal
use Rattle.fonts.proofs.row.Goals.{After-height, After-check}

number_is : (c : After-check) → returned c.check.result ≡ font_number c.args.font.now
unfolding font_number view_of
number_is c = c.check.ensures ∙ ap (λ (v : View). number_by v.header c.args.font.now) c.of-v.ensures

number_is-after-height : (c : After-height) → returned c.check.result ≡ font_number c.args.font.now
unfolding font_number view_of
number_is-after-height c = c.check.ensures ∙ ap (λ (v : View). number_by v.header c.args.font.now) c.of-v.ensures

good-number : (c : After-height) → font_number c.args.font.now ≡ 0
good-number c = sym (number_is-after-height c) ∙ told-accepted c.check.result (sym c.is_err.ensures.value ∙ c.if-is_err.false)

strike-is : (c : After-height) → c.strike-s.result ≡ strike_in (view_of c.args.font.now) c.args.font.now c.args.body
strike-is c =
    c.strike-s.ensures
    ∙ ap (λ (bitmaps : List ℕ). strike_by c.of-v.result bitmaps c.args.font.now c.args.body)
    c.bitmaps-table.ensures
    ∙ ap (λ (v : View). strike_by v (bitmaps_of v.header c.args.font.now) c.args.font.now c.args.body) c.of-v.ensures
    ∙ strike-accepted c.args.font.now (good-number c) c.args.body

height-is : (c : After-height) → c.height.result ≡ height (strike_in (view_of c.args.font.now) c.args.font.now c.args.body).body
height-is c = c.height.ensures.value ∙ ap (λ (s : Strike). height s.body) (strike-is c)

pub returns-then-is_err : goal.returns-then-is_err
unfolding row_of accepted
returns-then-is_err c =
    let number = number_is (goal.at.returns-then-is_err c).After-check in
    let refused = told-refused c.check.result (sym c.is_err.ensures.value ∙ c.if-is_err.true) in
    rw (ne_eqb (font_number c.args.font.now) 0 (λ e. refused (number ∙ e)))

pub returns-then-height-r : goal.returns-then-height-r
unfolding row_of accepted
returns-then-height-r c =
    rw (
      le-ltb c.args.r (height (strike_in (view_of c.args.font.now) c.args.font.now c.args.body).body)
          (rw (height-is (goal.at.returns-then-height-r c).After-height) at c.if-height-r.true),
      and-false _,
    )

pub overflow_mul-r : goal.overflow_mul-r
overflow_mul-r c =
    let less = c.if-height-r.false in
    let tall = c.height.ensures.small in
    let raster = c.struct_known-2-1.given.1.0.1.1.1.1.0.fits in
    let fits = row-start c.args.r c.strike-s.result.body.raster
    (omega (arith, less, tall)) (omega (arith, raster)) in
    omega (arith, fits)

pub overflow_add-s : goal.overflow_add-s
overflow_add-s c =
    let less = c.if-height-r.false in
    let tall = c.height.ensures.small in
    let raster = c.struct_known-2-1.given.1.0.1.1.1.1.0.fits in
    let fits = row-start c.args.r c.strike-s.result.body.raster
    (omega (arith, less, tall)) (omega (arith, raster)) in
    omega (arith, fits)

pub returns : goal.returns
unfolding row_of accepted
returns c =
    let good = good-number (goal.at.returns c).After-height in
    let below = rw (height-is (goal.at.returns c).After-height) at c.if-height-r.false in
    rw (good, lt-ltb c.args.r (height (strike_in (view_of c.args.font.now) c.args.font.now c.args.body).body) below)
    (c.part.ensures
    ∙ ap (λ (s : Strike). take s.body.raster (drop (s.bitmap + c.args.r * s.body.raster) c.args.font.now))
    (strike-is (goal.at.returns c).After-height))
