-- `fontbytes::number` meets its contract: 14, or the number of what reading the words answers.
-- Assumes nothing.
use mathlib.Core.Path.{sym, ◌∙◌}
use Rattle.fontbytes.specs.File.{file_number}
use Rattle.fontbytes.proofs.number.Goals as goal

pub returns-then-odd_bytes : goal.returns-then-odd_bytes
unfolding file_number
returns-then-odd_bytes c = rw (sym c.odd_bytes.ensures ∙ c.if-odd_bytes.true) c.number.ensures

pub returns : goal.returns
unfolding file_number
returns c = rw (sym c.odd_bytes.ensures ∙ c.if-odd_bytes.false) c.number-2.ensures
