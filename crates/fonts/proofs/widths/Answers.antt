-- `fonts::widths` meets its contract: the part begins and ends where the definition says.
-- Assumes nothing.
use Prim.Native.Nat.{ℕ, ◌+◌, ◌-◌}
use mathlib.Core.Path.{ap₂, ◌∙◌}
use Rattle.fonts.specs.Strike.{widths_of}
use Rattle.fonts.proofs.widths.Goals as goal

pub returns : goal.returns
unfolding widths_of
returns g c =
    let from = c.saturating_sub.ensures ∙ ap₂ (λ (n m : ℕ). n - (m + 1)) c.count.ensures c.codes-entries.ensures in
    let entries = c.codes-entries.ensures in
    record { words = rw (← from, ← entries) c.part.ensures.words; held = rw (← from, ← entries) c.part.ensures.held }
