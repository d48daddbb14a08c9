-- `fonts::rows_in_all` meets its contract. The invariant: this body begins here, and none up to it has more rows.
-- Assumes nothing.
use Prim.Native.Nat.{ℕ, suc, ◌+◌, ◌*◌, ◌≤◌, max}
use mathlib.Core.Path.{◌≡◌}
use mathlib.Core.List.{List}
use Rattle.words.specs.Search.{most_below}
use Rattle.fonts.specs.declared.Body.{Body}
use Rattle.fonts.specs.Strike.{start_from, body_of}
use Rattle.fonts.proofs.rows_in_all.Given as goal

-- body j + 1, where the first begins there
abbrev pub others : ℕ → List ℕ → ℕ → Body
others first ws j = body_of ws (start_from first ws (suc j))

abbrev pub invariant-loop-k : goal.invariant-loop-k
invariant-loop-k l =
    (l.at ≤ 65548 + 65535 * l.k) × (l.at ≡ start_from l.initial.at l.font l.k)
    × (l.above ≡ max l.initial.above (most_below l.k (λ (j : ℕ). (others l.initial.at l.font j).ascent)))
    × (l.below ≡ max l.initial.below (most_below l.k (λ (j : ℕ). (others l.initial.at l.font j).descent)))
