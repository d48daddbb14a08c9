-- `fonts::Header::only_bitmap` meets its contract, by the test that it makes.
-- Assumes nothing.
use Rattle.fonts.specs.Kinds.{only_bitmap}
use Rattle.words.proofs.Chain.{chain}
use Rattle.fonts.proofs.Header.only_bitmap.Goals as goal

pub returns-then-kerned : goal.returns-then-kerned
unfolding only_bitmap
returns-then-kerned c = search chain

pub returns : goal.returns
unfolding only_bitmap
returns c = search chain
