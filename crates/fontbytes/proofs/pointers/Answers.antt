-- `fontbytes::pointers` meets its contract: the part that the reader hands on is this one, and it spells the table.
-- Assumes nothing.
use mathlib.Core.Path.{ap, ◌∙◌}
use Rattle.words.specs.Word.{words_of}
use Rattle.fontbytes.specs.Parts.{pointer_bytes}
use Rattle.fontbytes.proofs.Spelt.{pointers-spelt}
use Rattle.fontbytes.proofs.pointers.Goals as goal

pub returns : goal.returns
unfolding pointer_bytes
returns c =
    let held = c.pointers.ensures.held in
    record { held = held; words = ap words_of held ∙ pointers-spelt c.args.s c.args.font.now }
