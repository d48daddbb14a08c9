-- `fonts::some_lost` meets its contract. The invariant: none of the entries before this one is lost.
-- Assumes nothing.
use mathlib.Core.Path.{◌≡◌}
use mathlib.Core.Bool.{false}
use Rattle.words.specs.Search.{some_below}
use Rattle.fonts.specs.Reading.{lost_at}
use Rattle.fonts.proofs.some_lost.Given as goal

abbrev pub invariant-loop-k : goal.invariant-loop-k
invariant-loop-k g l = some_below l.k (lost_at l.fn.h (g.F.Words.as_words l.fn.font)) ≡ false
