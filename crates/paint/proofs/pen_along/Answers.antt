use Prim.Native.Nat.{◌≤◌}
use mathlib.Core.Path.{◌≡◌, refl, sym, ap, ◌∙◌}
use native.Mathlib.Omega.{arith}
use lib.ListN.{length, get_or}
use Rattle.paint.specs.Pen.{pen_after, steps_in, Near}
use Rattle.paint.proofs.Along.{along-turn, along-done, gone-nowhere, gone-on, gone-near}
use Rattle.paint.proofs.pen_along.Given.{Over}
use Rattle.paint.proofs.pen_along.Goals as goal
use Rattle.paint.proofs.pen_along.Goals.{After-step, At-loop-byte}

pub loop-byte-init : goal.loop-byte-init
loop-byte-init g c = (refl, gone-nowhere _)

near : (g : Over) (b : At-loop-byte g) → b.loop-byte.byte-index ≤ length b.args.text.now → Near b.loop-byte.pen
near g b here = gone-near _ b.loop-byte.pen b.loop-byte.byte-index (length b.args.text.now) b.requires.starting b.requires.short here
    b.loop-byte.invariant.1

step : (g : Over) (stepped : After-step g) → stepped.step.result
    ≡ (steps_in stepped.args.h (g.F.Words.as_words stepped.args.pointers) (g.F.Words.as_words stepped.args.widths) stepped.args.dummy)
    (get_or stepped.args.text.now stepped.loop-byte.byte-index 0)
step g stepped =
    stepped.step.ensures
    ∙ ap (steps_in stepped.args.h (g.F.Words.as_words stepped.args.pointers) (g.F.Words.as_words stepped.args.widths) stepped.args.dummy)
    stepped.code.ensures

pub after-pen-requires : goal.after-pen-requires
after-pen-requires g c =
    let close = near g (goal.at.after-pen-requires g c).At-loop-byte (omega arith) in
    (omega (arith, close.0), omega (arith, close.1))

pub loop-byte-preserved : goal.loop-byte-preserved
loop-byte-preserved g c =
    let pen = c.loop-byte.pen in
    let moved = c.after-pen.ensures.value ∙ ap (pen_after pen) (step g (goal.at.loop-byte-preserved g c).After-step) in (
      c.loop-byte.invariant.0
          ∙ along-turn
          (steps_in c.args.h (g.F.Words.as_words c.args.pointers) (g.F.Words.as_words c.args.widths) c.args.dummy) c.args.text.now
          c.loop-byte.byte-index pen _ c.loop-byte-test.true moved,
      gone-on _ pen _ c.loop-byte.byte-index c.loop-byte.invariant.1 c.after-pen.ensures.near,
    )

pub returns : goal.returns
returns g c = record {
  value = sym (c.loop-byte.invariant.0
      ∙ along-done
      (steps_in c.args.h (g.F.Words.as_words c.args.pointers) (g.F.Words.as_words c.args.widths) c.args.dummy) c.args.text.now
      c.loop-byte.byte-index c.loop-byte.pen c.loop-byte-test.false);
  near = near g (goal.at.returns g c).At-loop-byte (omega arith);
}
