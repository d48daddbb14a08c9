use mathlib.Core.Path.{◌≡◌, refl}
use mathlib.Core.Bool.{true}
use native.Mathlib.Omega.{arith}
use Rattle.words.specs.declared.Mode.TheVariants.{Erase}
use Rattle.paint.proofs.Drawing.{whole-mask, marks-before, marks-last, no-word-yet, word_more}
use Rattle.paint.proofs.mark_line.Goals as goal

pub loop-w-init : goal.loop-w-init
loop-w-init g c = (refl, no-word-yet g.M.Marking.settles _ _ _ _ _ _, no-word-yet true _ _ _ _ _ _)

pub dots-requires : goal.dots-requires
dots-requires g c = record {
  from = (omega arith, c.requires.source.1);
  in_file = λ known. omega (arith, c.requires.in_file known);
}

pub mark-requires : goal.mark-requires
mark-requires g c = record {
  room = omega (arith, c.loop-w.auto.flip);
  settling = λ settles. omega (arith, c.loop-w.auto.keep, c.requires.settling settles);
}

pub loop-w-preserved : goal.loop-w-preserved
loop-w-preserved g c =
    let font = c.args.font.now in
    let r = c.args.r in
    let w = c.loop-w.w in
    let marks = marks-before font r Erase _ w c.loop-w.mask _ c.loop-w.invariant.0 c.dots.ensures c.loop-w-test.true in (
      whole-mask r w,
      word_more g.M.Marking.settles font r Erase _ _ w _ _ _ _ c.loop-w.invariant.1 marks c.mark.ensures.keep,
      word_more true font r g.M.Marking.mode _ _ w _ _ _ _ c.loop-w.invariant.2 marks c.mark.ensures.flip,
    )

pub dots-requires-2 : goal.dots-requires-2
dots-requires-2 g c = record {
  from = (omega arith, c.requires.source.1);
  in_file = λ known. c.requires.in_file known;
}

pub mark-requires-2 : goal.mark-requires-2
mark-requires-2 g c = record {
  room = omega (arith, c.loop-w.auto.flip);
  settling = λ settles. omega (arith, c.loop-w.auto.keep, c.requires.settling settles);
}

pub returns : goal.returns
returns g c =
    let font = c.args.font.now in
    let r = c.args.r in
    let at-last : c.loop-w.w ≡ r.last = omega arith in
    let begun = rw at-last at c.loop-w.invariant in
    let marks = marks-last font r Erase _ r.last c.loop-w.mask _ begun.0 c.dots-2.ensures refl in record {
      keep = word_more g.M.Marking.settles font r Erase _ _ r.last _ _ _ _ begun.1 marks c.mark-2.ensures.keep;
      flip = word_more true font r g.M.Marking.mode _ _ r.last _ _ _ _ begun.2 marks c.mark-2.ensures.flip;
    }
