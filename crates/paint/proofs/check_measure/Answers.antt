-- `paint::check_measure` meets its contract: its tests are the definition's, in the same order.
-- Assumes nothing.
use mathlib.Core.Path.{◌≡◌, ap, ◌∙◌}
use mir.Facts.{to_z-of_z}
use Rattle.paint.specs.Label.{measure_number}
use Rattle.words.specs.Place.{outside}
use Rattle.words.specs.Refusal.{first_of}
use Rattle.words.proofs.Chain.{chain}
use Rattle.paint.proofs.check_measure.Goals as goal
use Rattle.paint.proofs.check_measure.Goals.{After-outside}

-- the test of the place
outx : (c : After-outside) → c.outside.result ≡ outside c.args.at
outx c = c.outside.ensures ∙ ap outside (to_z-of_z c.ranges.at)

pub returns-then-outside : goal.returns-then-outside
unfolding measure_number first_of
returns-then-outside c = let place = outx (goal.at.returns-then-outside c).After-outside in search chain depth 20

pub returns-then-count-gt64 : goal.returns-then-count-gt64
unfolding measure_number first_of
returns-then-count-gt64 c = let place = outx (goal.at.returns-then-count-gt64 c).After-outside in search chain depth 20

pub returns : goal.returns
unfolding measure_number first_of
returns c = let place = outx (goal.at.returns c).After-outside in search chain depth 20
