-- `convert::Plan::put_character` meets its contract: the picture is the character's raster from its own box on; where there is no
-- character, a
-- picture of no columns changes nothing.
use Prim.Native.Nat.{ℕ, ◌≤◌}
use mathlib.Core.Path.{◌≡◌, sym, ap, ap₂, ◌∙◌}
use mathlib.Core.Bool.{true}
use native.Mathlib.Omega.{arith}
use lib.Dec.{ltb}
use borrow.Author.Tests.{ltb-true, ltb-false}
use Rattle.words.specs.Word.{over}
use Rattle.words.proofs.Over.{over-idle}
use Rattle.convert.specs.declared.Picture.{Picture}
use Rattle.convert.specs.declared.Picture.TheVariants.{Raster}
use Rattle.convert.specs.Cu.{columns_at, left_of}
use Rattle.convert.specs.Planned.{planned_place, planned_words}
use Rattle.convert.specs.Bitmap.{raster_at, picture_word}
use Rattle.convert.proofs.Putting.{picture-none, columns-none, columns-there}
use Rattle.convert.proofs.Sources.{place-found, place-missing}
use Rattle.convert.proofs.Plan.put_character.Goals as goal
use Rattle.convert.proofs.Plan.put_character.Goals.{After-columns_across-columns}

pub returns-in-None : goal.returns-in-None
returns-in-None c =
    let plan = c.args.self.now in
    let ws = plan.cu.now in
    let place = planned_place plan c.args.c in
    let n = planned_words plan in
    let bitmap = c.args.bitmap.now in
    let picture = raster_at ws plan.source.now.frame place in
    let absent : place ≤ 0 = ltb-false 0 place (place-missing plan.source.now.places.table c.args.c (sym c.in-None.is ∙ c.of.ensures)) in
    let none = columns-none ws place (omega arith) in record {
      value = sym none;
      bitmap = sym (ap (λ (k : ℕ). over n (picture_word ws picture k c.args.at plan.layout.raster bitmap) bitmap) none
          ∙ over-idle n _ bitmap (λ i less. picture-none ws picture c.args.at plan.layout.raster bitmap i (c.type_inv.bitmap i).fits));
    }

found : (c : After-columns_across-columns) → (ltb 0 c.in-Some.place ≡ true) × (c.in-Some.place ≡ planned_place c.args.self.now c.args.c)
found c = place-found c.args.self.now.source.now.places.table c.args.c c.in-Some.place (sym c.in-Some.is ∙ c.of.ensures)

across : (c : After-columns_across-columns)
    → c.columns_across-columns.result ≡ columns_at c.args.self.now.cu.now (planned_place c.args.self.now c.args.c)
across c =
    let there = found c in
    let some = ltb-true 0 c.in-Some.place there.0 in
    c.columns_across-columns.ensures.value
    ∙ sym (columns-there c.args.self.now.cu.now c.in-Some.place some)
    ∙ ap (columns_at c.args.self.now.cu.now) there.1

pub put_picture-requires : goal.put_picture-requires
put_picture-requires c =
    let e = across (goal.at.put_picture-requires c).After-columns_across-columns in
    record { inside = omega arith; whole = omega arith }

pub returns-in-Some : goal.returns-in-Some
unfolding raster_at
returns-in-Some c =
    let plan = c.args.self.now in
    let ws = plan.cu.now in
    let n = planned_words plan in
    let bitmap = c.args.bitmap.now in
    let place = (found (goal.at.returns-in-Some c).After-columns_across-columns).1 in
    let columns = across (goal.at.returns-in-Some c).After-columns_across-columns in
    let picture =
    ap (Raster c.in-Some.place plan.source.now.frame.top) c.left_of.ensures.value
    ∙ ap (λ (p : ℕ). Raster p plan.source.now.frame.top (left_of ws p)) place in
    record {
      value = columns;
      bitmap = c.put_picture.ensures
          ∙ ap₂ (λ (p : Picture) (k : ℕ). over n (picture_word ws p k c.args.at plan.layout.raster bitmap) bitmap) picture columns;
    }
