-- `fonts::find_bitmaps` meets its contract. The invariant: this body begins here, and the table holds what belongs to those before it.
-- Assumes nothing.
use Prim.Native.Nat.{ℕ, ◌+◌, ◌*◌, ◌≤◌}
use mathlib.Core.Path.{◌≡◌}
use Rattle.words.specs.Word.{over}
use Rattle.fonts.specs.Strike.{start_from}
use Rattle.fonts.proofs.find_bitmaps.Given as goal

abbrev pub invariant-loop-k : goal.invariant-loop-k
invariant-loop-k g l =
    let ws = g.F.Words.as_words l.font in
    (l.at ≤ 65548 + 65535 * l.k) × (l.at ≡ start_from l.initial.at ws l.k)
    × (l.table ≡ over l.k (λ (k : ℕ). start_from l.initial.at ws k + 5) l.initial.table)
