-- `fonts::bad_format` meets its contract, by the tests that it makes.
-- Assumes nothing.
use Rattle.fonts.specs.Reading.{bad_format}
use Rattle.words.proofs.Chain.{chain-of-replies, as-chain}
use Rattle.fonts.proofs.bad_format.Goals as goal

pub returns-then-bit-eq0 : goal.returns-then-bit-eq0
unfolding bad_format
returns-then-bit-eq0 c = as-chain (search chain-of-replies depth 20)

pub returns : goal.returns
unfolding bad_format
returns c = as-chain (search chain-of-replies depth 20)
