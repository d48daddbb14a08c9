use Prim.Native.Nat.{ℕ, ◌+◌, ◌<◌}
use mathlib.Core.Path.{◌≡◌, refl, sym, ap, ◌∙◌}
use native.Mathlib.Omega.{arith}
use lib.ListN.{length-set}
use Rattle.words.specs.Word.{over}
use Rattle.words.proofs.Over.{over-step, over-all}
use Rattle.convert.specs.Writing.{code_count, width_entry}
use Rattle.convert.specs.Planned.{planned, planned_place}
use Rattle.convert.proofs.Laid.{Laid, laid, width_at, width-own, width-dummy}
use Rattle.convert.proofs.Plan.write_widths.Goals as goal
use Rattle.convert.proofs.Plan.write_widths.Goals.{At-loop-k}

pub loop-k-init : goal.loop-k-init
unfolding over
loop-k-init c = (refl, refl)

known : (b : At-loop-k) → Laid (planned b.args.self.now) b.args.self.now.layout
known b = laid (planned b.args.self.now) _ b.args.self.now.laid

pub loop-k-preserved : goal.loop-k-preserved
unfolding width_at
loop-k-preserved c =
    let k = c.loop-k.k in
    let less : k < code_count (planned c.args.self.now) = let taken = c.loop-k-test.true in
    omega (arith, (known (goal.at.loop-k-preserved c).At-loop-k).count) in
    let place = ap (λ (m : ℕ). planned_place c.args.self.now (m + k)) (known (goal.at.loop-k-preserved c).At-loop-k).least in
    let entry =
    c.width_entry.ensures
    ∙ ap (width_at c.args.self.now.cu.now c.args.self.now.source.now.frame c.args.self.now.source.now.places.table) place
    ∙ sym (width-own c.args.self.now.cu.now c.args.self.now.source.now.frame c.args.self.now.source.now.places.table k less) in (
      length-set c.loop-k.widths k c.width_entry.result ∙ c.loop-k.invariant.0,
      over-step k c.width_entry.result (width_entry (planned c.args.self.now)) c.loop-k.widths
          c.args.widths.now c.loop-k.invariant.1 entry,
    )

pub returns : goal.returns
returns c =
    let d = planned c.args.self.now in
    let codes = c.args.self.now.layout.codes in
    let count = (known (goal.at.returns c).At-loop-k).count in
    let all : c.loop-k.k ≡ codes = let past = c.loop-k-test.false in let le = c.loop-k.auto.k-end in omega arith in
    over-step codes c.args.self.now.most (width_entry d) c.loop-k.widths c.args.widths.now (rw all at c.loop-k.invariant.1)
    (c.args.self.now.widest ∙ sym (width-dummy d) ∙ ap (width_entry d) (sym count))
    ∙ over-all (codes + 1) (width_entry d) c.args.widths.now c.requires
