-- `fonts::Body::of` meets its contract, word by word.
-- Assumes nothing.
use Rattle.fonts.specs.Strike.{body_of}
use Rattle.fonts.proofs.Body.of.Goals as goal

pub returns-then-at-count : goal.returns-then-at-count
unfolding body_of
returns-then-at-count g c = cc

pub returns : goal.returns
unfolding body_of
returns g c = cc
