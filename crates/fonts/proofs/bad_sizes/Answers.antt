-- `fonts::bad_sizes` meets its contract, by the tests that it makes.
-- Assumes nothing.
use mathlib.Core.Path.{◌≡◌, ap, ◌∙◌}
use Rattle.words.specs.Refusal.{not_within}
use Rattle.fonts.specs.Strike.{height}
use Rattle.fonts.specs.Reading.{bad_sizes}
use Rattle.words.proofs.Chain.{chain, as-chain}
use Rattle.fonts.proofs.bad_sizes.Goals as goal
use Rattle.fonts.proofs.bad_sizes.Goals.{After-not_within}

-- the moment: the height is tested
tall-is : (c : After-not_within) → c.not_within.result ≡ not_within 1 256 (height c.args.b)
tall-is c = c.not_within.ensures ∙ ap (not_within 1 256) c.height.ensures.value

pub returns-then-not_within : goal.returns-then-not_within
unfolding bad_sizes
returns-then-not_within c =
    let tall = tall-is (goal.at.returns-then-not_within c).After-not_within in
    as-chain (search chain depth 20)

pub returns-then-not_within-2 : goal.returns-then-not_within-2
unfolding bad_sizes
returns-then-not_within-2 c =
    let tall = tall-is (goal.at.returns-then-not_within-2 c).After-not_within in
    as-chain (search chain depth 20)

pub returns-then-b-gt0 : goal.returns-then-b-gt0
unfolding bad_sizes
returns-then-b-gt0 c =
    let tall = tall-is (goal.at.returns-then-b-gt0 c).After-not_within in
    as-chain (search chain depth 20)

pub returns : goal.returns
unfolding bad_sizes
returns c =
    let tall = tall-is (goal.at.returns c).After-not_within in
    as-chain (search chain depth 20)
