-- `replay::count_calls::count_word` is the high word of a count at an even place, and the low one behind it.
use Rattle.words.proofs.Chain.{chain}
use Rattle.replay.specs.Calls.{count_word}
use Rattle.replay.proofs.count_calls.count_word.Goals as goal

pub returns-then-i-eq0 : goal.returns-then-i-eq0
unfolding count_word
returns-then-i-eq0 c = search chain depth 20

pub returns : goal.returns
unfolding count_word
returns c = search chain depth 20
