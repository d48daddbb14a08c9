-- `fonts::drawn` meets its contract, by its one test.
-- Assumes nothing.
use mathlib.Core.Path.{ap, ◌∙◌}
use Rattle.fonts.specs.Entry.{entry_at}
use Rattle.words.proofs.Chain.{on-false}
use Rattle.fonts.proofs.drawn.Goals as goal

pub returns : goal.returns
returns c =
    let a = c.args in
    let dummy = c.at.ensures ∙ ap (entry_at a.pointers.now a.widths.now) c.codes.ensures in
    on-false _ _ _ a.there c.if-there.false dummy
