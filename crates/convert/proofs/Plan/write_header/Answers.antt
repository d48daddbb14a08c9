-- `convert::Plan::write_header` meets its contract: each word is the definition's.
use mathlib.Core.Path.{◌∙◌}
use mathlib.Core.List.{[], ◌∷◌}
use native.Mathlib.Omega.{arith}
use Rattle.convert.specs.Writing.{fbboy, header_words}
use Rattle.convert.specs.Cu.{drawing_from}
use Rattle.convert.specs.Planned.{planned}
use Rattle.convert.proofs.Laid.{laid, length-by, fits_by}
use Rattle.convert.proofs.Plan.write_header.Goals as goal

pub overflow_cast-length_word : goal.overflow_cast-length_word
overflow_cast-length_word c =
    let length = c.length_word.ensures in
    let fits = (fits_by _ c.args.self.now.layout c.args.self.now.laid c.args.self.now.fits).1.1 in
    omega arith

pub overflow_cast-layout-2 : goal.overflow_cast-layout-2
overflow_cast-layout-2 c =
    let fits = (fits_by _ c.args.self.now.layout c.args.self.now.laid c.args.self.now.fits).1.0 in
    omega arith

pub returns : goal.returns
unfolding header_words fbboy drawing_from
returns c =
    let d = planned c.args.self.now in
    let l = laid d c.args.self.now.layout c.args.self.now.laid in
    let format = c.format_word.ensures in
    let below = c.fbboy.ensures in
    let length = c.length_word.ensures ∙ length-by d c.args.self.now.layout c.args.self.now.laid in
    c.copy_from_slice.ensures.after
    ∙ (λ i. format i ∷ l.least i ∷ l.greatest i ∷ c.args.self.now.widest i ∷ c.args.self.now.source.now.frame.fbbox ∷ below i ∷
    c.args.self.now.source.now.frame.fbbdx ∷ l.high i
    ∷ length i ∷ c.args.self.now.source.now.frame.ascent ∷ c.args.self.now.source.now.frame.descent ∷ 0 ∷ l.wide i ∷ [])
