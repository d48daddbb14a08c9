use Prim.Native.Nat.{ℕ, ◌+◌}
use mathlib.Core.Path.{◌≡◌, refl, ap, ◌∙◌}
use native.Mathlib.Omega.{arith}
use Rattle.counts.specs.Band.{lit_in_words}
use Rattle.counts.proofs.Counting.{in_four, none-in-four, few-in-four, row-in-four, words-in-four}
use Rattle.counts.proofs.Band.lit_in_four.Goals as goal

pub loop-row-init : goal.loop-row-init
loop-row-init g c = (none-in-four c.args.self _ c.args.w, omega arith)

pub loop-row-preserved : goal.loop-row-preserved
loop-row-preserved g c =
    let a = c.args in
    let inv = c.loop-row.invariant in
    let read = c.four_words.ensures in
    let words = read.near in
    let few = few-in-four c.four_words.result c.masks-mask.result (omega arith) in (
      row-in-four a.self _ a.w (omega arith) (omega arith) c.loop-row.row c.loop-row.sum _ _ _ read.near inv.0 refl read.value
          c.masks-mask.ensures,
      omega (arith, few, inv.1),
    )

pub returns-clause-w_value : goal.returns-clause-w_value
returns-clause-w_value g c =
    let f = g.D.Dots.words c.args.dots in
    let there : c.loop-row.row ≡ c.args.self.rows = omega arith in
    let counted = c.loop-row.invariant.0 ∙ ap (in_four c.args.self f c.args.w) there in
    ap (λ (n : ℕ). n + lit_in_words c.args.self f c.args.w) counted ∙ words-in-four c.args.self f c.args.w
