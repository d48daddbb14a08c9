-- `convert::Plan::format_word` meets its contract: the spacings are all equal where none is other than the greatest.
use Prim.Native.Nat.{ℕ, ◌+◌}
use mathlib.Core.Path.{ap, ◌∙◌}
use mathlib.Core.Bool.{Bool, not, ◌&&◌}
use mathlib.Core.List.{List}
use lib.Dec.{ltb, eqb}
use Rattle.words.specs.Word.{word}
use Rattle.words.specs.Search.{some_below}
use Rattle.words.proofs.Chain.{chain}
use Rattle.convert.specs.Cu.{drawing_from}
use Rattle.convert.specs.Writing.{all_equal, format_word}
use Rattle.convert.proofs.Plan.format_word.Goals as goal

-- some code that is there has another spacing than this
abbrev unevenBy : List ℕ → List ℕ → ℕ → Bool
unevenBy cu places most = some_below 256 (λ (c : ℕ). ltb 0 (word places c) && not (eqb (word cu (word places c + 1)) most))

pub returns-then-uneven : goal.returns-then-uneven
unfolding format_word all_equal drawing_from
returns-then-uneven c =
    let other = c.uneven.ensures ∙ ap (unevenBy c.args.self.now.cu.now c.args.self.now.source.now.places.table) c.args.self.now.widest in
    search chain depth 20

pub returns : goal.returns
unfolding format_word all_equal drawing_from
returns c =
    let none = c.uneven.ensures ∙ ap (unevenBy c.args.self.now.cu.now c.args.self.now.source.now.places.table) c.args.self.now.widest in
    search chain depth 20
