-- `counts::paint` meets its contract: the answer as a reply and the counts beside it.
-- Assumes nothing.
use Prim.Native.Nat.{ℕ}
use mathlib.Core.Path.{◌≡◌, refl, ap, ◌∙◌}
use mathlib.Core.List.{List}
use Rattle.std.specs.declared.result.Result.{Result}
use Rattle.std.specs.declared.result.Result.TheVariants.{Ok, Err}
use Rattle.words.specs.declared.refusal.Refusal.{Refusal}
use Rattle.words.specs.Refusal.{returned}
use Rattle.paint.specs.declared.Finish.{Finish}
use Rattle.paint.proofs.Telling.{tells}
use Rattle.counts.specs.declared.Painted.{Painted}
use Rattle.counts.specs.Calls.{painted_by}
use Rattle.counts.proofs.paint.Goals as goal

same-number : (answer : Result (Finish × List ℕ) Refusal) (given : List ℕ) → returned (painted_by answer given).reply ≡ returned answer
same-number (Ok done) given = refl
same-number (Err refusal) given = refl

pub returns-clause-numbers : goal.returns-clause-numbers
returns-clause-numbers c =
    let reply = ap (λ (p : Painted). p.reply) (c.of.ensures ∙ c.paint_counted.ensures.value) in
    let told = ap (λ (p : Painted). returned p.reply) c.of.ensures ∙ same-number c.paint_counted.result c.args.counts
    ∙ c.paint_counted.ensures.number in
    tells _ _ _ reply told
