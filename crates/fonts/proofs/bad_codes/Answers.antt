-- `fonts::bad_codes` meets its contract, by the tests that it makes.
-- Assumes nothing.
use Rattle.fonts.specs.Reading.{bad_codes}
use Rattle.words.proofs.Chain.{chain, as-chain}
use Rattle.fonts.proofs.bad_codes.Goals as goal

pub returns-then-h : goal.returns-then-h
unfolding bad_codes
returns-then-h c = as-chain (search chain depth 20)

pub returns : goal.returns
unfolding bad_codes
returns c = as-chain (search chain depth 20)
