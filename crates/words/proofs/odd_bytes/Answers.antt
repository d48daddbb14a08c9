-- `words::odd_bytes` meets its contract: it is the definition.
-- Assumes nothing.
use mathlib.Core.Path.{refl}
use Rattle.words.specs.Word.{odd_bytes}
use Rattle.words.proofs.odd_bytes.Goals as goal

pub returns : goal.returns
unfolding odd_bytes
returns c = refl
