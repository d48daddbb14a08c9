use mathlib.Core.Path.{◌≡◌, refl, ap, ◌∙◌}
use native.Mathlib.Omega.{arith}
use Rattle.words.specs.declared.Effect.{Effect}
use Rattle.words.specs.Effect.{altered, apply_to}
use Rattle.words.specs.Word.{word}
use Rattle.paint.specs.Sheet.{sheet_of, effect_at}
use Rattle.words.proofs.Altering.{altered-next}
use Rattle.sheets.proofs.apply_words.Goals as goal

pub loop-i-init : goal.loop-i-init
unfolding altered
loop-i-init c = refl

pub loop-i-preserved : goal.loop-i-preserved
loop-i-preserved c =
    let i = c.loop-i.i in
    let panel = c.loop-i.panel in
    let applied = c.apply.ensures ∙ ap (λ (e : Effect). apply_to e (word panel i)) c.new.ensures in
    altered-next i c.apply.result (effect_at (sheet_of c.args.keep.now c.args.flip.now)) panel c.args.panel.now c.loop-i.invariant applied

pub returns : goal.returns
returns c =
    let e : c.loop-i.i ≡ c.args.n = omega arith in
    rw e at c.loop-i.invariant
