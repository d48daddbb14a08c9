-- `fonts::check_tables` meets its contract, by the tests that it makes.
-- Assumes nothing.
use Rattle.words.specs.Refusal.{first_of}
use Rattle.fonts.specs.Reading.{table_number}
use Rattle.words.proofs.Chain.{chain}
use Rattle.fonts.proofs.check_tables.Goals as goal

pub nameless-requires : goal.nameless-requires
nameless-requires g c = c.requires

pub returns-then-nameless : goal.returns-then-nameless
unfolding table_number first_of
returns-then-nameless g c = search chain depth 20

pub returns-then-no_dummy : goal.returns-then-no_dummy
unfolding table_number first_of
returns-then-no_dummy g c = search chain depth 20

pub returns : goal.returns
unfolding table_number first_of
returns g c = search chain depth 20
