-- `fonts::kerned_too_short` meets its contract, by the tests that it makes.
-- Assumes nothing.
use Rattle.fonts.specs.Reading.{kerned_too_short}
use Rattle.words.proofs.Chain.{chain, as-chain}
use Rattle.fonts.proofs.kerned_too_short.Goals as goal

pub returns-then-kerned : goal.returns-then-kerned
unfolding kerned_too_short
returns-then-kerned c = as-chain (search chain depth 20)

pub returns : goal.returns
unfolding kerned_too_short
returns c = as-chain (search chain depth 20)
