-- `desk::check_words` meets its contract: its tests are the definition's, in the same order.
-- Assumes nothing.
use Rattle.words.specs.Refusal.{first_of}
use Rattle.words.proofs.Chain.{chain}
use Rattle.desk.specs.Desk.{words_number}
use Rattle.desk.proofs.check_words.Goals as goal

pub returns-then-odd_bytes : goal.returns-then-odd_bytes
unfolding words_number first_of
returns-then-odd_bytes c = search chain depth 20

pub returns-then-room-bytes : goal.returns-then-room-bytes
unfolding words_number first_of
returns-then-room-bytes c = search chain depth 20

pub returns : goal.returns
unfolding words_number first_of
returns c = search chain depth 20
