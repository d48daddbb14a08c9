-- `words::to_bytes` writes the bytes that words spell.
use mathlib.Core.Path.{◌≡◌}
use Rattle.words.specs.Word.{word, bytes_of, over}
use Rattle.words.proofs.to_bytes.Given as goal

abbrev pub invariant-loop-i : goal.invariant-loop-i
invariant-loop-i l = l.bytes ≡ over l.i (word (bytes_of l.list)) l.initial.bytes
