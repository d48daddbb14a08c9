-- `convert::convert` meets its contract: the file's own refusals come first, then the drawing's, and then the file is written.
use Prim.Native.Nat.{◌≤◌}
use mathlib.Core.Path.{◌≡◌, refl, sym, ap, ◌∙◌}
use mathlib.Core.List.{◌++◌}
use native.Mathlib.Omega.{arith}
use lib.ListN.{length, drop}
use Rattle.std.proofs.lemmas.Result.{err_from_is_err_and}
use Rattle.words.specs.Refusal.{number_of, returned}
use Rattle.words.proofs.Refusals.{number-not-0}
use Rattle.words.proofs.Chain.{stage-stops, stage-goes-on}
use Rattle.convert.specs.Writing.{Drawing, file_of, file_words, fbbdy, max_width, drawing_number}
use Rattle.convert.specs.Cu.{drawing_from, drawn, drawing_of, cu_file_number}
use Rattle.convert.specs.Conversion.{cu_number}
use Rattle.convert.proofs.Accepting.{GoodDrawing, good-drawing, rows-small}
use Rattle.convert.proofs.Laid.{laid, words-by}
use Rattle.convert.proofs.Converting.{file-refused, file-accepted, places-long, drawing-read, conversion-refused, conversion-done}
use Rattle.convert.proofs.convert.Goals as goal
use Rattle.convert.proofs.convert.Goals.{After-check_drawing, In_ok-check_drawing}

pub returns-in_err-source : goal.returns-in_err-source
unfolding cu_number
returns-in_err-source c =
    let ws = c.args.cu.now in
    let answer = err_from_is_err_and c.from_residual.result c.from_residual.ensures.1 in
    let refusal = c.in_err-source.field-0.0 in
    let number = file-refused ws refusal (sym c.in_err-source.was ∙ c.read.ensures) in
    let done = conversion-refused ws c.args.out.now refusal c.from_residual.result (rw answer.2 at answer.1)
    (stage-stops _ _ _ number (number-not-0 refusal)) in
    record { value = done.value; out = done.output; numbers = done.numbers }

accepted-file : (c : After-check_drawing) → cu_file_number c.args.cu.now ≡ 0
accepted-file c = file-accepted c.args.cu.now c.in_ok-source.source (sym c.in_ok-source.was ∙ c.read.ensures)

drawing-is : (c : After-check_drawing)
    → drawn c.args.cu.now c.in_ok-source.source ≡ drawing_of c.args.cu.now
drawing-is c = drawing-read c.args.cu.now c.in_ok-source.source (sym c.in_ok-source.was ∙ c.read.ensures)

checked : (c : After-check_drawing) → returned c.check_drawing.result ≡ drawing_number (drawing_of c.args.cu.now) (length c.args.out.now)
checked c = c.check_drawing.ensures ∙ ap (λ (d : Drawing). drawing_number d (length c.args.out.now)) (drawing-is c)

pub returns-in_err-check_drawing : goal.returns-in_err-check_drawing
unfolding cu_number
returns-in_err-check_drawing c =
    let ws = c.args.cu.now in
    let moment = (goal.at.returns-in_err-check_drawing c).After-check_drawing in
    let reply = c.from_residual-in_err-check_drawing in
    let answer = err_from_is_err_and reply.result reply.ensures.1 in
    let refusal = c.in_err-check_drawing.field-0.0 in
    let number : number_of refusal ≡ drawing_number (drawing_of ws) (length c.args.out.now) =
    ap returned (sym c.in_err-check_drawing.was) ∙ checked moment in
    let done = conversion-refused ws c.args.out.now refusal reply.result (rw answer.2 at answer.1)
    (stage-goes-on _ _ _ _ refl (accepted-file moment) number) in
    record { value = done.value; out = done.output; numbers = done.numbers }

good : (c : In_ok-check_drawing) → GoodDrawing (drawn c.args.cu.now c.in_ok-source.source) (length c.args.out.now)
good c = good-drawing _ _ (sym c.check_drawing.ensures ∙ ap returned c.in_ok-check_drawing.was)

few-rows : (c : After-check_drawing) → c.of-layout.result.rows ≤ 65535
few-rows c =
    let high = (laid _ c.of-layout.result c.of-layout.ensures).high ∙ ap fbbdy (drawing-is c) in
    let low = rows-small c.args.cu.now (accepted-file c) in
    omega arith

pub invariant_of-plan : goal.invariant_of-plan
unfolding max_width drawing_from
invariant_of-plan c =
    let ws = c.args.cu.now in
    let source = c.in_ok-source.source in
    let accepted = good (goal.at.invariant_of-plan c).In_ok-check_drawing in
    record {
      laid = c.of-layout.ensures;
      widest = c.max_width.ensures;
      spacings = accepted.spacings;
      offsets = accepted.offsets;
      fits = accepted.fits;
      few_rows = few-rows (goal.at.invariant_of-plan c).After-check_drawing;
      places_long = places-long ws source (sym c.in_ok-source.was ∙ c.read.ensures);
    }

pub write-requires : goal.write-requires
write-requires c =
    let words = words-by _ c.of-layout.result c.of-layout.ensures in
    let room = (good (goal.at.write-requires c).In_ok-check_drawing).has_room in
    omega arith

pub returns : goal.returns
unfolding cu_number
returns c =
    let ws = c.args.cu.now in
    let out = c.args.out.now in
    let moment = (goal.at.returns c).After-check_drawing in
    let laid_out = words-by _ c.of-layout.result c.of-layout.ensures in
    let words = c.file_words.ensures ∙ laid_out ∙ ap file_words (drawing-is moment) in
    let written = c.write.ensures ∙ ap (λ (d : Drawing). file_of d ++ drop (file_words d) out) (drawing-is moment) in
    let fits = sym (checked moment) ∙ ap returned c.in_ok-check_drawing.was in
    let done = conversion-done ws out c.file_words.result c.write.new.out words written
    (sym (stage-goes-on 0 _ _ _ refl (accepted-file moment) (sym fits))) in
    record { value = done.value; out = done.output; numbers = done.numbers }
