-- `fonts::bitmaps` meets its contract: a table of its own is written into.
-- Assumes nothing.
use Rattle.words.specs.Word.{table}
use Rattle.fonts.specs.Strike.{bitmaps_of}
use Rattle.fonts.proofs.bitmaps.Goals as goal

pub returns : goal.returns
unfolding bitmaps_of table
returns g c = c.find_bitmaps.ensures
