use Prim.Native.Nat.{ℕ, ◌+◌, ◌*◌, ◌/◌, ◌%◌, ◌≤◌}
use mathlib.Core.Path.{◌≡◌, refl, sym, ap, ap₂, ◌∙◌}
use mathlib.Core.List.{List}
use native.Mathlib.Nat.{zero-mul, zero-add, add-mul, one-mul, mul_comm}
use native.Mathlib.Omega.{arith}
use lib.ListN.{length, set, length-set}
use Rattle.words.specs.Word.{word, over, put_bit}
use Rattle.words.proofs.Over.{over-past}
use Rattle.words.proofs.Rows.{row_room}
use Rattle.convert.specs.Planned.{planned_words}
use Rattle.convert.specs.Bitmap.{picture_dot, column_word}
use Rattle.convert.proofs.Putting.{column-row}
use Rattle.convert.proofs.Plan.put_column.Goals as goal
use Rattle.convert.proofs.Plan.put_column.Goals.{In-loop-row}

pub loop-row-init : goal.loop-row-init
unfolding over
loop-row-init c =
    let none = zero-mul c.args.self.now.layout.raster in
    (rw (none, zero-add (c.args.at / 16)) refl, refl, rw none refl)

-- the row ends within the bitmap
room : (c : In-loop-row) → c.loop-row.row * c.args.self.now.layout.raster + c.args.self.now.layout.raster ≤ length c.loop-row.bitmap
room c =
    let long = c.loop-row.invariant.1 in
    row_room c.loop-row.row c.args.self.now.layout.rows c.args.self.now.layout.raster _ (omega arith) (omega arith)

pub offset_bounds-bitmap-i : goal.offset_bounds-bitmap-i
offset_bounds-bitmap-i c = omega (arith, room (goal.at.offset_bounds-bitmap-i c).In-loop-row)

pub bounds-bitmap-i : goal.bounds-bitmap-i
bounds-bitmap-i c = omega (arith, room (goal.at.bounds-bitmap-i c).In-loop-row)

pub offset_bounds-bitmap-i-in-loop-row : goal.offset_bounds-bitmap-i-in-loop-row
offset_bounds-bitmap-i-in-loop-row c = omega (arith, room (goal.at.offset_bounds-bitmap-i-in-loop-row c).In-loop-row)

pub bounds-bitmap-i-in-loop-row : goal.bounds-bitmap-i-in-loop-row
bounds-bitmap-i-in-loop-row c = omega (arith, room (goal.at.bounds-bitmap-i-in-loop-row c).In-loop-row)

pub overflow_add-i : goal.overflow_add-i
overflow_add-i c = omega (arith, room (goal.at.overflow_add-i c).In-loop-row)

pub loop-row-preserved : goal.loop-row-preserved
loop-row-preserved c =
    let put = column_word c.args.self.now.cu.now c.args.picture c.args.column c.args.at c.args.self.now.layout.raster c.args.bitmap.now in
    let bitmap = c.args.bitmap.now in
    let row = c.loop-row.row in
    let before = over (row * c.args.self.now.layout.raster) put bitmap in
    let here = row * c.args.self.now.layout.raster + c.args.at / 16 in
    let next : (row + 1) * c.args.self.now.layout.raster ≡ row * c.args.self.now.layout.raster + c.args.self.now.layout.raster =
    add-mul row 1 c.args.self.now.layout.raster
    ∙ ap (λ (n : ℕ). row * c.args.self.now.layout.raster + n) (one-mul c.args.self.now.layout.raster) in
    let place : c.loop-row.i ≡ here = c.loop-row.invariant.0 in
    let old : word c.loop-row.bitmap c.loop-row.i ≡ word bitmap here =
    ap₂ word c.loop-row.invariant.2 place ∙ over-past (row * c.args.self.now.layout.raster) put bitmap here (omega arith) in
    let dot = picture_dot c.args.self.now.cu.now c.args.picture row c.args.column in
    let becomes : c.put_bit.result ≡ put_bit (word bitmap here) (c.args.at % 16) dot =
    c.put_bit.ensures ∙ ap₂ (λ (w d : ℕ). put_bit w (c.args.at % 16) d) old c.picture_dot.ensures in (
      omega (arith, next),
      length-set c.loop-row.bitmap c.loop-row.i c.put_bit.result ∙ c.loop-row.invariant.1,
      ap₂ (λ (q : List ℕ) (k : ℕ). set q k c.put_bit.result) c.loop-row.invariant.2 place
          ∙ ap (set before here) becomes
          ∙ sym (column-row c.args.self.now.cu.now c.args.picture c.args.column c.args.at c.args.self.now.layout.raster (omega
          arith) bitmap row),
    )

pub returns : goal.returns
returns c =
    let whole : c.loop-row.row * c.args.self.now.layout.raster ≡ planned_words c.args.self.now =
    ap (λ (n : ℕ). n * c.args.self.now.layout.raster) (omega arith) ∙ mul_comm c.args.self.now.layout.rows c.args.self.now.layout.raster in
    rw whole at c.loop-row.invariant.2
