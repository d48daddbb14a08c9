-- `fonts::Entry::place` meets its contract, by its one test.
-- Assumes nothing.
use Prim.Native.Nat.{ℕ, ◌+◌, ◌/◌}
use mathlib.Core.Path.{ap}
use Rattle.fonts.specs.Entry.{left_of}
use Rattle.words.proofs.Chain.{chain}
use Rattle.fonts.proofs.Entry.place.Goals as goal

pub returns-then-kerned : goal.returns-then-kerned
unfolding left_of
returns-then-kerned c =
    let sum = ap (λ (p : ℕ). p + c.args.self.width / 256) c.place_of_word.ensures in
    search chain

pub returns : goal.returns
unfolding left_of
returns c = search chain
