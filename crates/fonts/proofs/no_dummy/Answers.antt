-- `fonts::no_dummy` meets its contract, by what the tables say of the dummy.
-- Assumes nothing.
use Prim.Native.Nat.{ℕ}
use mathlib.Core.Path.{ap, ap₂, ◌∙◌}
use Rattle.words.specs.Word.{word}
use Rattle.fonts.specs.declared.Name.{Name}
use Rattle.fonts.specs.Entry.{name_in, marked}
use Rattle.fonts.specs.Reading.{no_dummy}
use Rattle.fonts.proofs.no_dummy.Goals as goal

pub returns : goal.returns
unfolding no_dummy
returns g c =
    let ws = g.F.Words.as_words c.args.font in
    let k = c.codes-k.ensures in
    let name = c.name_at-name.ensures ∙ ap (name_in c.args.h ws) k in
    let width = c.word.ensures ∙ ap₂ word c.widths.ensures.words k in
    c.marked.ensures ∙ ap₂ (λ (n : Name) (w : ℕ). marked c.args.h n.missing w) name width
