-- `paint::two_words` meets its contract: the two words turned as a ring.
-- Assumes nothing.
use Rattle.paint.proofs.Neighbours.{two-words-turned}
use Rattle.paint.proofs.two_words.Goals as goal

pub returns : goal.returns
returns c = two-words-turned c.args.high c.args.low c.args.shift c.ranges.high.fits c.ranges.low.fits c.requires
