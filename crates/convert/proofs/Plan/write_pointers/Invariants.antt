-- `convert::Plan::write_pointers` meets its contract: each turn writes where the next picture begins, and behind the loop stand the
-- dummy's two
-- edges.
use mathlib.Core.Path.{◌≡◌}
use lib.ListN.{length}
use Rattle.words.specs.Word.{over}
use Rattle.convert.specs.Writing.{pointer_at, pointer_word}
use Rattle.convert.specs.Planned.{planned}
use Rattle.convert.proofs.Plan.write_pointers.Given as goal

abbrev pub invariant-loop-k : goal.invariant-loop-k
invariant-loop-k l =
    (l.at ≡ pointer_at (planned l.self) l.k)
    × (length l.pointers ≡ length l.initial.pointers)
    × (l.pointers ≡ over l.k (pointer_word (planned l.self)) l.initial.pointers)
