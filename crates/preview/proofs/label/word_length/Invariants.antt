-- `preview::label::word_length` counts up to the first space. The invariant: the word is what has been passed and the word of the rest.
use Prim.Native.Nat.{◌+◌}
use mathlib.Core.Path.{◌≡◌}
use lib.ListN.{drop}
use Rattle.preview.specs.Line.{word_length}
use Rattle.preview.proofs.label.word_length.Given as goal

abbrev pub invariant-loop-i : goal.invariant-loop-i
invariant-loop-i l = word_length l.text ≡ l.i + word_length (drop l.i l.text)
