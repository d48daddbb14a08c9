-- `paint::Pen::at` meets its contract: the pen starts at the place of x.
-- Assumes nothing.
use native.Mathlib.Omega.{arith}
use mathlib.Core.Path.{ap, ◌∙◌}
use mir.Facts.{to_z-of_z}
use Rattle.words.specs.Place.{place_of}
use Rattle.words.proofs.Signs.{place-le}
use Rattle.paint.proofs.Pen.at.Goals as goal

pub returns : goal.returns
returns c =
    let placed = c.place_of.ensures ∙ ap place_of (to_z-of_z c.ranges.x) in
    record { value = (λ i. record { place = placed i; substitutes = 0 }); near = (omega (arith, placed, place-le c.args.x), omega arith) }
