-- `fontbytes::widths` meets its contract: the part that the reader hands on is this one, and it spells the table.
-- Assumes nothing.
use Prim.Native.Nat.{ℕ, ◌+◌, ◌-◌, ◌*◌}
use mathlib.Core.Path.{ap, ◌∙◌}
use lib.ListN.{take, drop}
use Rattle.words.specs.Word.{words_of}
use Rattle.words.proofs.Bytes.{words-length}
use Rattle.fonts.specs.Strike.{codes}
use Rattle.fontbytes.specs.Parts.{width_bytes}
use Rattle.fontbytes.proofs.Spelt.{widths-spelt}
use Rattle.fontbytes.proofs.widths.Goals as goal

pub returns : goal.returns
unfolding width_bytes
returns c =
    let entries = codes c.args.h + 1 in
    let bytes = c.args.font.now in
    let held =
    c.widths.ensures.held ∙ ap (λ (n : ℕ). take (2 * entries) (drop (2 * (n - entries)) bytes)) (words-length bytes) in
    record { held = held; words = ap words_of held ∙ widths-spelt c.args.h bytes }
