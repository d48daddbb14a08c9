-- `fonts::check_bodies` meets its contract. The invariant: no body before this one is refused or has fewer pointers, and this one begins
-- here.
-- Assumes nothing.
use Prim.Native.Nat.{◌+◌, ◌*◌, ◌≤◌}
use mathlib.Core.Path.{◌≡◌}
use Rattle.fonts.specs.Strike.{body_start}
use Rattle.fonts.specs.Reading.{bodies_number, EachHas}
use Rattle.fonts.proofs.check_bodies.Given as goal

abbrev pub invariant-loop-k : goal.invariant-loop-k
invariant-loop-k g l =
    let ws = g.F.Words.as_words l.font in
    (l.at ≤ 65548 + 65535 * l.k) × (l.at ≡ body_start l.h ws l.k) × (0 ≡ bodies_number l.h ws l.k)
    × EachHas l.h ws l.k l.fewest
