-- `fonts::marked` meets its contract, by the tests that it makes.
-- Assumes nothing.
use Rattle.fonts.specs.Entry.{marked}
use Rattle.words.proofs.Chain.{chain, as-chain}
use Rattle.fonts.proofs.marked.Goals as goal

pub returns-then-missing : goal.returns-then-missing
unfolding marked
returns-then-missing c = as-chain (search chain depth 20)

pub returns-then-kerned : goal.returns-then-kerned
unfolding marked
returns-then-kerned c = as-chain (search chain depth 20)

pub returns : goal.returns
unfolding marked
returns c = as-chain (search chain depth 20)
