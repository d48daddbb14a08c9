use mathlib.Core.Path.{◌≡◌, refl}
use mathlib.Core.Bool.{true}
use native.Mathlib.Omega.{arith}
use Rattle.words.specs.declared.Mode.TheVariants.{Erase}
use Rattle.paint.proofs.Drawing.{at-first-row, at-next-row, row-behind, row_inside, row-in-file, nothing-yet, nothing-drawn, row_more}
use Rattle.paint.proofs.Drawing.{row-whole}
use Rattle.paint.proofs.mark_lines.Goals as goal

pub loop-row-init : goal.loop-row-init
loop-row-init g c = (at-first-row c.args.r, nothing-yet g.M.Marking.settles _ _ _ _, nothing-drawn _ _ _ _)

pub mark_line-requires : goal.mark_line-requires
mark_line-requires g c =
    let less = c.loop-row-test.true in
    let here = c.loop-row.invariant.0 in
    let behind = row-behind c.args.r _ less _ c.requires.within in
    record {
      room = (
        omega (arith, here.1, c.loop-row.auto.flip, row_inside c.args.r _ less _ c.requires.within),
        omega (arith, here.1, behind.1),
      );
      settling = λ settles. omega (
        arith,
        here.1,
        c.loop-row.auto.keep,
        row_inside c.args.r _ less _ (c.requires.settling settles),
      );
      source = (omega (arith, here.0, behind.0), c.requires.within.7, c.requires.within.2);
      in_file = λ known. omega (arith, here.0, row-in-file c.args.r _ less _ (c.requires.in_file known));
    }

pub overflow_add-from : goal.overflow_add-from
overflow_add-from g c =
    omega (arith, c.loop-row.invariant.0.0, (row-behind c.args.r _ c.loop-row-test.true _ c.requires.within).0)

pub overflow_add-at : goal.overflow_add-at
overflow_add-at g c =
    omega (arith, c.loop-row.invariant.0.1, (row-behind c.args.r _ c.loop-row-test.true _ c.requires.within).1)

pub loop-row-preserved : goal.loop-row-preserved
loop-row-preserved g c =
    let here = c.loop-row.invariant.0 in (
      at-next-row c.args.r _ _ _ here,
      row_more g.M.Marking.settles c.args.font.now c.args.r Erase _ _ _ _ c.loop-row.invariant.1
          (row-whole g.M.Marking.settles c.args.font.now c.args.r Erase _ _ _ c.args.r.last _ _ here.0 here.1 refl c.mark_line.ensures.keep),
      row_more true c.args.font.now c.args.r g.M.Marking.mode _ _ _ _ c.loop-row.invariant.2
          (row-whole true c.args.font.now c.args.r g.M.Marking.mode _ _ _ c.args.r.last _ _ here.0 here.1 refl
          c.mark_line.ensures.flip),
    )

pub returns : goal.returns
returns g c =
    let there : c.loop-row._row ≡ c.args.r.rows = omega arith in
    record {
      keep = rw there at c.loop-row.invariant.1;
      flip = rw there at c.loop-row.invariant.2;
    }
