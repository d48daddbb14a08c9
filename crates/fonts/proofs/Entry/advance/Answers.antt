-- `fonts::Entry::advance` meets its contract, by its one test.
-- Assumes nothing.
use Rattle.fonts.specs.Entry.{advance_of}
use Rattle.words.proofs.Chain.{chain}
use Rattle.fonts.proofs.Entry.advance.Goals as goal

pub returns-then-kerned : goal.returns-then-kerned
unfolding advance_of
returns-then-kerned c = search chain

pub returns : goal.returns
unfolding advance_of
returns c = search chain
