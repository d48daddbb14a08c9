-- `convert::Plan::put_column` meets its contract: each turn puts one dot into the word of its row that has the column.
use Prim.Native.Nat.{◌+◌, ◌*◌, ◌/◌}
use mathlib.Core.Path.{◌≡◌}
use lib.ListN.{length}
use Rattle.words.specs.Word.{over}
use Rattle.convert.specs.Bitmap.{column_word}
use Rattle.convert.proofs.Plan.put_column.Given as goal

abbrev pub invariant-loop-row : goal.invariant-loop-row
invariant-loop-row l =
    (l.i ≡ l.row * l.self.layout.raster + l.at / 16)
    × (length l.bitmap ≡ length l.initial.bitmap)
    × (l.bitmap ≡ over (l.row * l.self.layout.raster) (column_word l.self.cu.now l.picture l.column l.at l.self.layout.raster
    l.initial.bitmap) l.initial.bitmap)
