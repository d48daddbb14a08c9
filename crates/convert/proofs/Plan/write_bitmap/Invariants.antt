-- `convert::Plan::write_bitmap` meets its contract: each character's picture comes behind those before it, then the dummy's block, then
-- nothing,
-- and with them all columns of the strike are written.
use mathlib.Core.Path.{◌≡◌}
use lib.ListN.{length}
use Rattle.words.specs.Word.{over}
use Rattle.convert.specs.Writing.{pointer_at}
use Rattle.convert.specs.Planned.{planned, planned_words}
use Rattle.convert.proofs.Striking.{word_upto}
use Rattle.convert.proofs.Laid.{drawn-bit}
use Rattle.convert.proofs.Plan.write_bitmap.Given as goal

abbrev pub invariant-loop-k : goal.invariant-loop-k
invariant-loop-k l =
    (l.at ≡ pointer_at (planned l.self) l.k)
    × (length l.bitmap ≡ length l.initial.bitmap)
    × (l.bitmap ≡ over (planned_words l.self)
    (word_upto (planned l.self) (drawn-bit l.self.cu.now l.self.source.now.frame l.self.source.now.places.table)
    l.self.layout.raster l.initial.bitmap l.at)
    l.initial.bitmap)
