-- `fontbytes::map` meets its contract: the part that the reader hands on is this one, and it spells the table.
-- Assumes nothing.
use mathlib.Core.Path.{ap, ◌∙◌}
use Rattle.words.specs.Word.{words_of}
use Rattle.fontbytes.specs.Parts.{map_bytes}
use Rattle.fontbytes.proofs.Spelt.{map-spelt}
use Rattle.fontbytes.proofs.map.Goals as goal

pub returns : goal.returns
unfolding map_bytes
returns c =
    let held = c.map.ensures.held in
    record { held = held; words = ap words_of held ∙ map-spelt c.args.h c.args.font.now }
