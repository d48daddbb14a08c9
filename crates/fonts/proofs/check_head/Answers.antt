-- `fonts::check_head` meets its contract: its tests are the definition's, in the same order.
-- Assumes nothing.
use Rattle.words.specs.Refusal.{first_of}
use Rattle.fonts.specs.Reading.{head_number}
use Rattle.words.proofs.Chain.{chain}
use Rattle.fonts.proofs.check_head.Goals as goal

pub returns-then-count-at : goal.returns-then-count-at
unfolding head_number first_of
returns-then-count-at c = search chain depth 20

pub returns-then-bad_sizes : goal.returns-then-bad_sizes
unfolding head_number first_of
returns-then-bad_sizes c = search chain depth 20

pub returns-then-wrong_length : goal.returns-then-wrong_length
unfolding head_number first_of
returns-then-wrong_length c = search chain depth 20

pub returns-then-wrong_end : goal.returns-then-wrong_end
unfolding head_number first_of
returns-then-wrong_end c = search chain depth 20

pub returns : goal.returns
unfolding head_number first_of
returns c = search chain depth 20
