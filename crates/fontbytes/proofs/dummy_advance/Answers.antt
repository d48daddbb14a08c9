-- `fontbytes::dummy_advance` meets its contract: an advance asks for no more of an entry than was read.
-- Assumes nothing.
use mathlib.Core.Path.{ap, ◌∙◌}
use Prim.Native.Nat.{ℕ}
use Rattle.fonts.specs.declared.Entry.{Entry}
use Rattle.fonts.specs.Entry.{advance_of}
use Rattle.fonts.specs.Entry.{entry_at}
use Rattle.fontbytes.specs.Parts.{for_step}
use Rattle.fontbytes.proofs.Stepping.{advance-asks}
use Rattle.fontbytes.proofs.dummy_advance.Goals as goal

pub returns : goal.returns
returns g c =
    let a = c.args in
    let entry : ℕ → Entry = entry_at (g.F.Words.as_words a.pointers) (g.F.Words.as_words a.widths) in
    let read = c.entry_for_step.ensures ∙ ap (λ (k : ℕ). for_step a.h (entry k)) c.codes.ensures in
    c.advance.ensures ∙ ap (advance_of a.h) read ∙ advance-asks a.h (entry _)
