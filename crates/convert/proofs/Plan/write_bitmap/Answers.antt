use Prim.Native.Nat.{ℕ, zero, suc, ◌+◌, ◌-◌, ◌*◌, ◌<◌, ◌≤◌}
use mathlib.Core.Path.{◌≡◌, refl, sym, ap, ap₂, ◌∙◌}
use mathlib.Core.List.{List}
use native.Mathlib.Nat.{zero-mul}
use native.Mathlib.Omega.{arith}
use lib.ListN.{length}
use Rattle.words.specs.Word.{over}
use Rattle.words.specs.Search.{sum_below}
use Rattle.words.proofs.Over.{over-idle, over-length, over-same, over-all}
use Rattle.convert.specs.declared.Picture.TheVariants.{Block, Blank}
use Rattle.convert.specs.Writing.{min_code, code_count, columns_of, pointer_at, strike_dot, bitmap_word}
use Rattle.convert.specs.Cu.{columns_at, drawing_from}
use Rattle.convert.specs.Planned.{planned, planned_place, planned_words}
use Rattle.convert.specs.Bitmap.{picture_dot, raster_at, picture_word}
use Rattle.convert.proofs.Columns.{pointer-next, strike-dummy, strike-unused}
use Rattle.convert.proofs.Striking.{word_upto, upto-none, strike-on, upto_all}
use Rattle.convert.proofs.Laid.{Laid, laid, picture-inside, dummy-inside, raster-least, drawn-bit, own-columns, own-picture}
use Rattle.convert.proofs.Plan.write_bitmap.Goals as goal
use Rattle.convert.proofs.Plan.write_bitmap.Goals.{After-loop-k, In-loop-k, At-loop-k}

pub loop-k-init : goal.loop-k-init
unfolding pointer_at sum_below
loop-k-init c =
    let bitmap = c.args.bitmap.now in (
      refl,
      refl,
      sym (over-idle (planned_words c.args.self.now) _ bitmap
          (λ i less. upto-none _ _ c.args.self.now.layout.raster bitmap i (c.type_inv.bitmap i).fits)),
    )

known : (b : At-loop-k) → Laid (planned b.args.self.now) b.args.self.now.layout
known b = laid (planned b.args.self.now) _ b.args.self.now.laid

known-after-place : (b : In-loop-k) → Laid (planned b.args.self.now) b.args.self.now.layout
known-after-place b = laid (planned b.args.self.now) _ b.args.self.now.laid

-- where the next code stands
abbrev place_of : In-loop-k → ℕ
place_of c = planned_place c.args.self.now (c.args.self.now.layout.min + c.loop-k.k)

place_is : (c : In-loop-k) → place_of c
    ≡ planned_place c.args.self.now (min_code (planned c.args.self.now) + c.loop-k.k)
place_is c = ap (λ (m : ℕ). planned_place c.args.self.now (m + c.loop-k.k)) (known-after-place c).least

counted : (c : In-loop-k) → c.loop-k.k < code_count (planned c.args.self.now)
counted c = let less = c.loop-k-test.true in rw (← (known-after-place c).count) less

columns-are : (c : In-loop-k) → columns_at c.args.self.now.cu.now (place_of c)
    ≡ columns_of (planned c.args.self.now)
    (min_code (planned c.args.self.now) + c.loop-k.k)
columns-are c =
    ap (columns_at c.args.self.now.cu.now) (place_is c)
    ∙ own-columns c.args.self.now.cu.now c.args.self.now.source.now.frame c.args.self.now.source.now.places.table _

inside : (c : In-loop-k) → c.loop-k.at + columns_at c.args.self.now.cu.now (place_of c) ≤ 16 * c.args.self.now.layout.raster
inside c =
    let within = picture-inside (planned c.args.self.now) c.loop-k.k (counted c) in
    let wide = (known-after-place c).wide in
    let here = c.loop-k.invariant.0 in
    omega (arith, (columns-are c))

dots-are : (c : In-loop-k) → (row j : ℕ) → j < columns_at c.args.self.now.cu.now (place_of c)
    → strike_dot (planned c.args.self.now) row (c.loop-k.at + j)
    ≡ picture_dot c.args.self.now.cu.now (raster_at c.args.self.now.cu.now c.args.self.now.source.now.frame (place_of c)) row j
dots-are c row j less =
    ap (λ (n : ℕ). strike_dot (planned c.args.self.now) row (n + j)) c.loop-k.invariant.0
    ∙ own-picture c.args.self.now.cu.now c.args.self.now.source.now.frame c.args.self.now.source.now.places.table c.loop-k.k row j
    (counted c) (rw (columns-are c) at less)
    ∙ ap (λ (p : ℕ). picture_dot c.args.self.now.cu.now (raster_at c.args.self.now.cu.now c.args.self.now.source.now.frame p) row
    j) (sym (place_is c))

pub put_character-at-requires : goal.put_character-at-requires
put_character-at-requires c = let long = c.loop-k.invariant.1 in
    record { inside = inside (goal.at.put_character-at-requires c).In-loop-k; whole = omega arith }

pub overflow_add-at : goal.overflow_add-at
overflow_add-at c = let narrow = inside (goal.at.overflow_add-at c).In-loop-k in let columns = c.put_character-at.ensures.value in
    omega arith

pub loop-k-preserved : goal.loop-k-preserved
loop-k-preserved c =
    let ws = c.args.self.now.cu.now in
    let n = planned_words c.args.self.now in
    let bits = drawn-bit ws c.args.self.now.source.now.frame c.args.self.now.source.now.places.table in
    let columns = columns_at ws (place_of (goal.at.loop-k-preserved c).In-loop-k) in
    let picture = raster_at ws c.args.self.now.source.now.frame (place_of (goal.at.loop-k-preserved c).In-loop-k) in
    let answer = c.put_character-at.ensures.value in
    let put : List ℕ → List ℕ = λ q. over n (picture_word ws picture columns c.loop-k.at c.args.self.now.layout.raster q) q in
    let marks = c.put_character-at.ensures.bitmap in (
      ap₂ (λ (x y : ℕ). x + y) c.loop-k.invariant.0 (answer ∙ columns-are (goal.at.loop-k-preserved c).In-loop-k)
          ∙ sym (pointer-next (planned c.args.self.now) c.loop-k.k),
      ap length marks ∙ over-length n _ c.loop-k.bitmap ∙ c.loop-k.invariant.1,
      marks
          ∙ ap put c.loop-k.invariant.2
          ∙ strike-on (planned c.args.self.now) bits c.args.self.now.layout.raster c.args.bitmap.now ws picture
          c.loop-k.at columns (dots-are (goal.at.loop-k-preserved c).In-loop-k) n (omega arith)
          ∙ ap (λ (k : ℕ). over n (word_upto (planned c.args.self.now) bits c.args.self.now.layout.raster
          c.args.bitmap.now (c.loop-k.at + k)) c.args.bitmap.now) (sym answer),
    )

some-of-product : (r h i : ℕ) → i < r * h → 0 < r
some-of-product zero h i less = absurd (omega (arith, zero-mul h))
some-of-product (suc r) h i less = omega arith

known-after-loop : (b : After-loop-k) → Laid (planned b.args.self.now) b.args.self.now.layout
known-after-loop b = laid (planned b.args.self.now) _ b.args.self.now.laid

pictures-end : (c : After-loop-k) → c.loop-k.at
    ≡ pointer_at (planned c.args.self.now)
    (code_count (planned c.args.self.now))
pictures-end c =
    let past = c.loop-k-test.false in
    let all : c.loop-k.k ≡ code_count (planned c.args.self.now) =
    omega (arith, (known-after-loop c).count) in
    c.loop-k.invariant.0 ∙ ap (pointer_at (planned c.args.self.now)) all

block-end : (c : After-loop-k) → c.loop-k.at + c.args.self.now.source.now.frame.fbbdx ≡ c.args.self.now.layout.columns
unfolding drawing_from
block-end c = let all = (dummy-inside (planned c.args.self.now)).0 in
    let across = (known-after-loop c).across in omega (arith, (pictures-end c))

columns-inside : (c : After-loop-k) → c.args.self.now.layout.columns ≤ 16 * c.args.self.now.layout.raster
columns-inside c =
    let all = (dummy-inside (planned c.args.self.now)).1 in
    let across = (known-after-loop c).across in
    let wide = (known-after-loop c).wide in
    omega arith

few-left : (c : After-loop-k) → 16 * c.args.self.now.layout.raster ≤ c.args.self.now.layout.columns + 15
few-left c =
    let all = raster-least (planned c.args.self.now) in
    let across = (known-after-loop c).across in
    let wide = (known-after-loop c).wide in
    omega arith

pub put_picture-requires : goal.put_picture-requires
put_picture-requires c =
    let long = c.loop-k.invariant.1 in
    let ends = block-end (goal.at.put_picture-requires c).After-loop-k in
    let fits = columns-inside (goal.at.put_picture-requires c).After-loop-k in
    record { inside = omega arith; whole = omega arith }

pub overflow_sub-unused : goal.overflow_sub-unused
overflow_sub-unused c = columns-inside (goal.at.overflow_sub-unused c).After-loop-k

pub overflow_cast-unused-2 : goal.overflow_cast-unused-2
overflow_cast-unused-2 c = omega (arith, few-left (goal.at.overflow_cast-unused-2 c).After-loop-k)

pub put_picture-requires-2 : goal.put_picture-requires-2
put_picture-requires-2 c =
    let long = ap length c.put_picture.ensures ∙ over-length _ _ c.loop-k.bitmap ∙ c.loop-k.invariant.1 in
    let fits = columns-inside (goal.at.put_picture-requires-2 c).After-loop-k in
    record { inside = omega arith; whole = omega arith }

pub returns : goal.returns
unfolding picture_dot
returns c =
    let ws = c.args.self.now.cu.now in
    let d = planned c.args.self.now in
    let bits = drawn-bit ws c.args.self.now.source.now.frame c.args.self.now.source.now.places.table in
    let raster = c.args.self.now.layout.raster in
    let n = raster * c.args.self.now.layout.rows in
    let lent = c.args.bitmap.now in
    let upto : ℕ → List ℕ = λ m. over n (word_upto d bits raster lent m) lent in
    let used = c.args.self.now.layout.columns in
    let unused = 16 * raster - used in
    let block : List ℕ → List ℕ = λ q. over n (picture_word ws Block c.args.self.now.source.now.frame.fbbdx c.loop-k.at raster q) q in
    let blank : List ℕ → List ℕ = λ q. over n (picture_word ws Blank unused used raster q) q in
    let known-here = known (goal.at.returns c).At-loop-k in
    let across = known-here.across in
    let wide = known-here.wide in
    let narrow = columns-inside (goal.at.returns c).After-loop-k in
    let ends = block-end (goal.at.returns c).After-loop-k in
    let pictures = pictures-end (goal.at.returns c).After-loop-k in
    let long : length lent ≡ n = c.requires in
    let fits : n ≤ length lent = omega arith in
    let with-block =
    c.put_picture.ensures
    ∙ ap block c.loop-k.invariant.2
    ∙ strike-on d bits raster lent ws Block c.loop-k.at c.args.self.now.source.now.frame.fbbdx
    (λ row j less. strike-dummy d row (c.loop-k.at + j) (omega arith) (omega arith)) n fits
    ∙ ap upto ends in
    c.put_picture-2.ensures
    ∙ ap blank with-block
    ∙ strike-on d bits raster lent ws Blank used unused (λ row j less. strike-unused d row (used + j) (omega arith)) n fits
    ∙ ap upto (omega arith)
    ∙ ap (λ (r : ℕ). over n (word_upto d bits r lent (16 * r)) lent) wide
    ∙ over-same n _ (bitmap_word d) lent (λ i less. upto_all d bits lent i (rw (← wide) (some-of-product raster
    c.args.self.now.layout.rows i less)))
    ∙ over-all n (bitmap_word d) lent long
