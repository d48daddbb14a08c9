use Prim.Native.Nat.{ℕ}
use mathlib.Core.Path.{◌≡◌, refl, ap, ap₂, ◌∙◌}
use mathlib.Core.List.{List}
use native.Mathlib.Omega.{arith}
use Rattle.words.specs.declared.Effect.{Effect}
use Rattle.words.specs.Effect.{effect, join_of}
use Rattle.words.specs.Word.{word, over}
use Rattle.words.proofs.Over.{over-step, over-past}
use Rattle.paint.specs.Panel.{panel_words}
use Rattle.paint.specs.Sheet.{sheet_of, effect_at, written}
use Rattle.sheets.proofs.join_words.Goals as goal

pub loop-i-init : goal.loop-i-init
unfolding over
loop-i-init c = (refl, refl)

pub loop-i-preserved : goal.loop-i-preserved
loop-i-preserved c =
    let i = c.loop-i.i in
    let kept = ap (λ (q : List ℕ). word q i) c.loop-i.invariant.0
    ∙ over-past i (λ j. ((λ (j : ℕ). join_of (effect_at (sheet_of c.args.keep.now c.args.flip.now) j)
    (effect_at (sheet_of c.args.keep2.now c.args.flip2.now) j)) j).keep) c.args.keep.now i (omega arith) in
    let flipped = ap (λ (q : List ℕ). word q i) c.loop-i.invariant.1
    ∙ over-past i (λ j. ((λ (j : ℕ). join_of (effect_at (sheet_of c.args.keep.now c.args.flip.now) j)
    (effect_at (sheet_of c.args.keep2.now c.args.flip2.now) j)) j).flip) c.args.flip.now i (omega arith) in
    let first = c.new.ensures ∙ ap₂ effect kept flipped in
    let joined = c.join-joined.ensures ∙ ap₂ join_of first c.new-then.ensures in (
      over-step i _ (λ j. ((λ (j : ℕ). join_of (effect_at (sheet_of c.args.keep.now c.args.flip.now) j)
          (effect_at (sheet_of c.args.keep2.now c.args.flip2.now) j)) j).keep) c.loop-i.keep c.args.keep.now c.loop-i.invariant.0
          (ap (λ (e : Effect). e.keep) joined),
      over-step i _ (λ j. ((λ (j : ℕ). join_of (effect_at (sheet_of c.args.keep.now c.args.flip.now) j)
          (effect_at (sheet_of c.args.keep2.now c.args.flip2.now) j)) j).flip) c.loop-i.flip c.args.flip.now c.loop-i.invariant.1
          (ap (λ (e : Effect). e.flip) joined),
    )

pub returns : goal.returns
unfolding written
returns c =
    let e : c.loop-i.i ≡ panel_words c.args.s = omega (arith, c.panel_words-i-end.ensures) in
    record { keep = rw e at c.loop-i.invariant.0; flip = rw e at c.loop-i.invariant.1 }
