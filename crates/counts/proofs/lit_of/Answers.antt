use mathlib.Core.Path.{◌≡◌, refl, ◌∙◌}
use native.Mathlib.Omega.{arith}
use Rattle.words.proofs.Over.{over-all}
use Rattle.counts.proofs.Settling.{good-width, inside-band}
use Rattle.counts.proofs.lit_of.Goals as goal

pub of-requires : goal.of-requires
of-requires g c = (omega arith, (good-width c.args.s _ c.requires).0)

pub lit-requires : goal.lit-requires
lit-requires g c = inside-band c.args.s c.loop-k.k _ c.requires c.of.result c.of.ensures (omega arith)

pub returns : goal.returns
returns g c =
    let e : c.loop-k.k ≡ 32 = omega arith in
    rw e at c.loop-k.invariant ∙ over-all 32 _ _ refl
