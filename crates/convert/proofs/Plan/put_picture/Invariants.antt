-- `convert::Plan::put_picture` meets its contract: each turn puts the next column of the picture behind those before.
use mathlib.Core.Path.{◌≡◌}
use lib.ListN.{length}
use Rattle.words.specs.Word.{over}
use Rattle.convert.specs.Planned.{planned_words}
use Rattle.convert.specs.Bitmap.{picture_word}
use Rattle.convert.proofs.Plan.put_picture.Given as goal

abbrev pub invariant-loop-column : goal.invariant-loop-column
invariant-loop-column l =
    (length l.bitmap ≡ length l.initial.bitmap)
    × (l.bitmap ≡ over (planned_words l.self) (picture_word l.self.cu.now l.picture l.column l.at l.self.layout.raster
    l.initial.bitmap) l.initial.bitmap)
