-- `paint::Reach::spans` meets its contract, by its two tests.
-- Assumes nothing.
use Rattle.words.proofs.Chain.{chain, as-chain}
use Rattle.paint.specs.Reach.{spans_in}
use Rattle.paint.proofs.Reach.spans.Goals as goal

pub returns-then-self-last : goal.returns-then-self-last
unfolding spans_in
returns-then-self-last c = as-chain (search chain depth 20)

pub returns : goal.returns
unfolding spans_in
returns c = as-chain (search chain depth 20)
