-- `fonts::bad_pointers` meets its contract, by the tests that it makes.
-- Assumes nothing.
use Rattle.words.proofs.Chain.{chain, as-chain}
use Rattle.fonts.proofs.bad_pointers.Goals as goal

pub returns-then-falls : goal.returns-then-falls
returns-then-falls c = as-chain (search chain depth 20)

pub returns : goal.returns
returns c = as-chain (search chain depth 20)
