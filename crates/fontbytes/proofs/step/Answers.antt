-- `fontbytes::step` meets its contract: a step asks for no more of an entry than was read.
-- Assumes nothing.
use mathlib.Core.Path.{ap, ◌∙◌}
use Prim.Native.Nat.{ℕ}
use Rattle.fonts.specs.declared.Entry.{Entry}
use Rattle.fonts.specs.Kinds.{step_by}
use Rattle.fonts.specs.Entry.{entry_at}
use Rattle.fontbytes.specs.Parts.{for_step}
use Rattle.fontbytes.proofs.Stepping.{step-asks}
use Rattle.fontbytes.proofs.step.Goals as goal

pub returns : goal.returns
returns g c =
    let a = c.args in
    let entry : ℕ → Entry = entry_at (g.F.Words.as_words a.pointers) (g.F.Words.as_words a.widths) in
    let read = c.entry_for_step.ensures ∙ ap (λ (k : ℕ). for_step a.h (entry k)) c.place.ensures in
    c.by.ensures ∙ ap (λ (e : Entry). step_by a.h e a.dummy a.code) read ∙ step-asks a.h (entry _) a.dummy a.code
