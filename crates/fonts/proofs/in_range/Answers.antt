-- `fonts::in_range` meets its contract, by the tests that it makes.
-- Assumes nothing.
use Rattle.fonts.specs.Face.{in_range}
use Rattle.words.proofs.Chain.{chain, as-chain}
use Rattle.fonts.proofs.in_range.Goals as goal

pub returns-then-code-h : goal.returns-then-code-h
unfolding in_range
returns-then-code-h c = as-chain (search chain depth 20)

pub returns : goal.returns
unfolding in_range
returns c = as-chain (search chain depth 20)
