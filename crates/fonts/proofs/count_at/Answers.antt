-- `fonts::count_at` meets its contract, by the test that it makes.
-- Assumes nothing.
use Rattle.fonts.specs.Strike.{count_at}
use Rattle.words.proofs.Chain.{chain}
use Rattle.fonts.proofs.count_at.Goals as goal

pub returns-then-kerned_format : goal.returns-then-kerned_format
unfolding count_at
returns-then-kerned_format c = search chain

pub returns : goal.returns
unfolding count_at
returns c = search chain
