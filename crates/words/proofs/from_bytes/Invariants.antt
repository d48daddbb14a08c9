-- `words::from_bytes` writes the words that bytes spell.
use mathlib.Core.Path.{◌≡◌}
use Rattle.words.specs.Word.{word, words_of, over}
use Rattle.words.proofs.from_bytes.Given as goal

abbrev pub invariant-loop-i : goal.invariant-loop-i
invariant-loop-i l = l.list ≡ over l.i (word (words_of l.bytes)) l.initial.list
