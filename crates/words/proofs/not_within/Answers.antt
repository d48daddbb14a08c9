-- `words::not_within` meets its contract, by the two tests that it makes.
-- Assumes nothing.
use Rattle.words.specs.Refusal.{not_within}
use Rattle.words.proofs.Chain.{chain, as-chain}
use Rattle.words.proofs.not_within.Goals as goal

pub returns-then-n-least : goal.returns-then-n-least
unfolding not_within
returns-then-n-least c = as-chain (search chain)

pub returns : goal.returns
unfolding not_within
returns c = as-chain (search chain)
