-- `paint::mark_two` meets its contract: its two words are all of the row.
-- Assumes nothing.
use Prim.Native.Nat.{◌+◌, ◌<◌}
use mathlib.Core.Path.{◌≡◌}
use mathlib.Core.Bool.{true}
use native.Mathlib.Omega.{arith}
use lib.ListN.{length}
use Rattle.paint.proofs.Drawing.{row_inside, row-source, row-in-file, span-tests, row-of-two}
use Rattle.paint.proofs.mark_two.Given.{Over}
use Rattle.paint.proofs.mark_two.Goals as goal
use Rattle.paint.proofs.mark_two.Goals.{After-place_of-at}

pair : (g : Over) (c : After-place_of-at g) → c.args.r.last ≡ 1
pair g c = (span-tests c.args.r 1 (length c.args.font.now) c.requires.pair).0

in-file : (g : Over) (c : After-place_of-at g) → c.source_of-from.result + 2 < length c.args.font.now
in-file g c =
    let there = row-in-file c.args.r c.args.row c.requires.within.1 _ (span-tests c.args.r 1 (length c.args.font.now) c.requires.pair).1 in
    omega (arith, pair g c, c.source_of-from.ensures)

pub dots_from-requires : goal.dots_from-requires
dots_from-requires g c =
    let far = row-source c.args.r c.args.row c.requires.within.1 _ c.requires.within.0 in
    let there = in-file g (goal.at.dots_from-requires g c).After-place_of-at in
    (omega (arith, far, c.source_of-from.ensures), c.requires.within.0.7, omega (arith, there))

pub mark-requires : goal.mark-requires
mark-requires g c =
    let place = c.place_of-at.ensures in record {
      room = omega (arith, place, row_inside c.args.r c.args.row c.requires.within.1 _ c.requires.within.0);
      settling = λ settles. omega (arith, place, row_inside c.args.r c.args.row c.requires.within.1 _ (c.requires.settling settles));
    }

pub dots_from-requires-2 : goal.dots_from-requires-2
dots_from-requires-2 g c =
    let far = row-source c.args.r c.args.row c.requires.within.1 _ c.requires.within.0 in
    let there = in-file g (goal.at.dots_from-requires-2 g c).After-place_of-at in
    (omega (arith, far, c.source_of-from.ensures), c.requires.within.0.7, omega (arith, there))

pub mark-requires-2 : goal.mark-requires-2
mark-requires-2 g c =
    let place = c.place_of-at.ensures in
    let two = pair g (goal.at.mark-requires-2 g c).After-place_of-at in record {
      room = omega (arith, two, place, c.mark.auto.flip, row_inside c.args.r c.args.row c.requires.within.1 _ c.requires.within.0);
      settling = λ settles. omega (
        arith,
        two,
        place,
        c.mark.auto.keep,
        row_inside c.args.r c.args.row c.requires.within.1 _ (c.requires.settling settles),
      );
    }

pub returns : goal.returns
returns g c =
    let at = c.place_of-at.ensures in
    let from = c.source_of-from.ensures in
    let two = pair g (goal.at.returns g c).After-place_of-at in
    let one = c.dots_from.ensures in
    let other = c.dots_from-2.ensures in record {
      keep = row-of-two g.M.Marking.settles c.args.font.now c.args.r _ _ _ _ _ _ _ _ _ from at two one other c.mark.ensures.keep
          c.mark-2.ensures.keep;
      flip = row-of-two true c.args.font.now c.args.r _ _ _ _ _ _ _ _ _ from at two one other c.mark.ensures.flip c.mark-2.ensures.flip;
    }
