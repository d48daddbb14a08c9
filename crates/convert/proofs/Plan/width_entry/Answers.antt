-- `convert::Plan::width_entry` meets its contract: offset and spacing are below 256 each, so the entry fits a word.
use Prim.Native.Nat.{ℕ, ◌+◌, ◌-◌, ◌*◌, ◌≤◌}
use mathlib.Core.Path.{◌≡◌, sym, ap, ap₂, ◌∙◌}
use mathlib.Core.Bool.{Bool, true, ◌&&◌, ◌||◌}
use native.Mathlib.Omega.{arith}
use lib.Dec.{ltb}
use borrow.Author.Tests.{ltb-false}
use Rattle.words.specs.Word.{word}
use Rattle.words.proofs.Chain.{chain}
use Rattle.words.proofs.Search.{none_left, none_right}
use Rattle.convert.specs.Cu.{left_from}
use Rattle.convert.specs.Planned.{planned_place}
use Rattle.convert.proofs.Laid.{entry-fits}
use Rattle.convert.proofs.Sources.{place-found, place-missing}
use Rattle.convert.proofs.Plan.width_entry.Goals as goal
use Rattle.convert.proofs.Plan.width_entry.Goals.{In-Some}

found : (c : In-Some) → (ltb 0 c.in-Some.place ≡ true) × (c.in-Some.place ≡ planned_place c.args.self.now c.args.c)
found c = place-found c.args.self.now.source.now.places.table c.args.c c.in-Some.place (sym c.in-Some.is ∙ c.of.ensures)

-- offset and spacing of a character that is there
small : (c : In-Some)
    → (left_from c.args.self.now.cu.now c.args.self.now.source.now.frame c.in-Some.place - c.args.self.now.source.now.frame.left ≤ 255)
    × (word c.args.self.now.cu.now (c.in-Some.place + 1) ≤ 255)
small c =
    let plan = c.args.self.now in
    let ws = plan.cu.now in
    let frame = plan.source.now.frame in
    let bad : ℕ → Bool = λ p. ltb 0 p && (ltb 255 (word ws (p + 1)) || ltb 255 (left_from ws frame p - frame.left)) in
    let there = found c in
    let neither =
    ap bad there.1 ∙ entry-fits ws frame plan.source.now.places.table plan.places_long plan.spacings plan.offsets c.args.c in
    let both = rw there.0 at neither in
    (ltb-false _ _ (none_right _ _ both), ltb-false _ _ (none_left _ _ both))

pub overflow_cast-result : goal.overflow_cast-result
overflow_cast-result c = let off = (small (goal.at.overflow_cast-result c).In-Some).0 in omega arith

pub overflow_mul-result : goal.overflow_mul-result
overflow_mul-result c = let off = (small (goal.at.overflow_mul-result c).In-Some).0 in omega arith

pub overflow_add-result : goal.overflow_add-result
overflow_add-result c = let both = small (goal.at.overflow_add-result c).In-Some in let off = both.0 in let width = both.1 in
    omega arith

pub returns-in-Some : goal.returns-in-Some
returns-in-Some c =
    let plan = c.args.self.now in
    let ws = plan.cu.now in
    let frame = plan.source.now.frame in
    let there = found (goal.at.returns-in-Some c).In-Some in
    let test = ap (ltb 0) (sym there.1) ∙ there.0 in
    let entry = ap₂ (λ (o s : ℕ). o * 256 + s) c.offset.ensures c.spacing.ensures in
    rw test (entry ∙ ap (λ (p : ℕ). (left_from ws frame p - frame.left) * 256 + word ws (p + 1)) there.1)

pub returns-in-None : goal.returns-in-None
returns-in-None c =
    let absent = place-missing c.args.self.now.source.now.places.table c.args.c (sym c.in-None.is ∙ c.of.ensures) in
    search chain
