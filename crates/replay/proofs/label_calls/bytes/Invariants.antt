-- `replay::label_calls::bytes` adds the last byte of word after word.
use Rattle.std.proofs.Common.{◌≡◌, map, take}
use Rattle.replay.specs.Registers.{low_byte}
use Rattle.replay.proofs.label_calls.bytes.Given as goal

abbrev pub invariant-loop-word : goal.invariant-loop-word
invariant-loop-word g l = l.bytes.items ≡ map low_byte (take l.word-index l.word-items)
