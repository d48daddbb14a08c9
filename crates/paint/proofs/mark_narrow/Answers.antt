use mathlib.Core.Path.{◌≡◌}
use mathlib.Core.Bool.{true}
use native.Mathlib.Omega.{arith}
use lib.ListN.{length}
use Rattle.paint.proofs.Drawing.{row_inside, row-source, row-in-file, span-tests, nothing-yet, nothing-drawn, row_more, narrow-row}
use Rattle.paint.proofs.mark_narrow.Given.{Over}
use Rattle.paint.proofs.mark_narrow.Goals as goal
use Rattle.paint.proofs.mark_narrow.Goals.{After-source_of}

alone : (g : Over) (c : After-source_of g) → c.args.r.last ≡ 0
alone g c = (span-tests c.args.r 0 (length c.args.font.now) c.requires.narrow).0

pub loop-row-init : goal.loop-row-init
loop-row-init g c = (nothing-yet g.M.Marking.settles _ _ _ _, nothing-drawn _ _ _ _)

pub dots_from-requires : goal.dots_from-requires
dots_from-requires g c =
    let less = c.loop-row-test.true in
    let there = row-in-file c.args.r c.loop-row.row less _ (span-tests c.args.r 0 (length c.args.font.now) c.requires.narrow).1 in
    let from = c.source_of.ensures in (
      omega (arith, from, row-source c.args.r c.loop-row.row less _ c.requires.within),
      c.requires.within.7,
      omega (arith, from, there),
    )

pub mark-requires : goal.mark-requires
mark-requires g c =
    let less = c.loop-row-test.true in
    let place = c.place_of.ensures in
    record {
      room = omega (arith, place, c.loop-row.auto.flip, row_inside c.args.r c.loop-row.row less _ c.requires.within);
      settling = λ settles. omega (
        arith,
        place,
        c.loop-row.auto.keep,
        row_inside c.args.r c.loop-row.row less _ (c.requires.settling settles),
      );
    }

pub loop-row-preserved : goal.loop-row-preserved
loop-row-preserved g c =
    let from = c.source_of.ensures in
    let at = c.place_of.ensures in
    let one = alone g (goal.at.loop-row-preserved g c).After-source_of in
    let read = c.dots_from.ensures in (
      row_more g.M.Marking.settles _ _ _ _ _ _ _ c.loop-row.invariant.0
          (narrow-row g.M.Marking.settles c.args.font.now c.args.r _ _ _ _ _ _ _ from at one read c.mark.ensures.keep),
      row_more true _ _ _ _ _ _ _ c.loop-row.invariant.1
          (narrow-row true c.args.font.now c.args.r _ _ _ _ _ _ _ from at one read c.mark.ensures.flip),
    )

pub returns : goal.returns
returns g c =
    let there : c.loop-row.row ≡ c.args.r.rows = omega arith in
    record {
      keep = rw there at c.loop-row.invariant.0;
      flip = rw there at c.loop-row.invariant.1;
    }
