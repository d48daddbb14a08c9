use Prim.Native.Nat.{ℕ, ◌+◌}
use mathlib.Core.Path.{◌≡◌, refl, sym, ap, ◌∙◌}
use mathlib.Core.List.{List}
use native.Mathlib.Omega.{arith}
use lib.ListN.{length}
use Rattle.words.specs.Word.{over}
use Rattle.words.proofs.Over.{over-idle, over-length}
use Rattle.convert.specs.Planned.{planned_words}
use Rattle.convert.specs.Bitmap.{column_word}
use Rattle.convert.proofs.Putting.{picture-none, picture-column}
use Rattle.convert.proofs.Laid.{fits_by}
use Rattle.convert.proofs.Plan.put_picture.Goals as goal

pub loop-column-init : goal.loop-column-init
loop-column-init c =
    let bitmap = c.args.bitmap.now in (
      refl,
      sym (over-idle (planned_words c.args.self.now) _ bitmap
          (λ i less. picture-none c.args.self.now.cu.now c.args.picture c.args.at c.args.self.now.layout.raster bitmap i
          (c.type_inv.bitmap i).fits)),
    )

pub overflow_add-at : goal.overflow_add-at
overflow_add-at c =
    let plan = c.args.self.now in
    let narrow = (fits_by _ plan.layout plan.laid plan.fits).1.0 in
    omega arith

pub put_column-requires : goal.put_column-requires
put_column-requires c = record { inside = omega arith; whole = omega arith }

pub loop-column-preserved : goal.loop-column-preserved
loop-column-preserved c =
    let n = planned_words c.args.self.now in
    let column = c.loop-column.column in
    let put : List ℕ → List ℕ = λ q. over n (column_word c.args.self.now.cu.now c.args.picture column (c.args.at + column)
    c.args.self.now.layout.raster q) q in
    let marks = c.put_column.ensures in (
      ap length marks ∙ over-length n _ c.loop-column.bitmap ∙ c.loop-column.invariant.0,
      marks
          ∙ ap put c.loop-column.invariant.1
          ∙ picture-column c.args.self.now.cu.now c.args.picture c.args.at c.args.self.now.layout.raster c.args.bitmap.now column n
          (omega arith),
    )

pub returns : goal.returns
returns c =
    let whole : c.loop-column.column ≡ c.args.columns = omega arith in
    rw whole at c.loop-column.invariant.1
