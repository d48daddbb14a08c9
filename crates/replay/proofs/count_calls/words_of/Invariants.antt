-- `replay::count_calls::words_of` writes word after word.
use mathlib.Core.Path.{◌≡◌}
use Rattle.words.specs.Word.{over}
use Rattle.replay.specs.Calls.{count_word}
use Rattle.replay.proofs.count_calls.words_of.Given as goal

abbrev pub invariant-loop-i : goal.invariant-loop-i
invariant-loop-i l = l.words ≡ over l.i (count_word l.counts) l.initial.words
