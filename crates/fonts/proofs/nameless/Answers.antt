-- `fonts::nameless` meets its contract: where the quick test is sure no entry is lost, and else each is looked at.
-- Assumes nothing.
use mathlib.Core.Path.{sym, ◌∙◌}
use Rattle.fonts.specs.Reading.{NamesWithin, nameless}
use Rattle.fonts.specs.Strike.{map_of}
use Rattle.words.proofs.Chain.{chain, as-chain}
use Rattle.fonts.proofs.Naming.{none-lost}
use Rattle.fonts.proofs.nameless.Goals as goal

pub returns-then-within : goal.returns-then-within
unfolding nameless
returns-then-within g c =
    let font = (g.F.Words.as_words c.args.font) in
    let h = c.args.h in
    let indexed = sym c.index.ensures ∙ c.if-index.true in
    let named = c.within.ensures c.if-within.true in
    let within : NamesWithin (map_of h font) h.bodies c.args.fewest = rw c.map.ensures.words at named in
    rw indexed (sym (none-lost h font c.args.fewest indexed c.requires.0 within c.requires.1))

pub some_lost-requires : goal.some_lost-requires
some_lost-requires g c = (
  sym c.index.ensures ∙ c.if-index.true,
  c.requires.0,
)

pub returns-then-index : goal.returns-then-index
unfolding nameless
returns-then-index g c = as-chain (search chain depth 20)

pub returns : goal.returns
unfolding nameless
returns g c = as-chain (search chain depth 20)
