-- `fonts::falls` meets its contract. The invariant: the whole list falls exactly when some pointer has fallen so far, or what is left does,
-- after the pointer before.
-- Assumes nothing.
use Prim.Native.Nat.{◌-◌, ◌≤◌}
use mathlib.Core.Path.{◌≡◌}
use mathlib.Core.Bool.{◌||◌}
use lib.ListN.{drop}
use Rattle.words.specs.Word.{word}
use Rattle.fonts.specs.Reading.{falls_from}
use Rattle.fonts.proofs.falls.Given as goal

abbrev pub invariant-loop-i : goal.invariant-loop-i
invariant-loop-i g l =
    let pointers = g.F.Words.as_words l.pointers in
    (1 ≤ l.i) × (l.before ≡ word pointers (l.i - 1)) × (falls_from 0 pointers ≡ (l.fallen || falls_from l.before (drop l.i pointers)))
