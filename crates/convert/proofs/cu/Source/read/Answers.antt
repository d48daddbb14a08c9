-- `convert::cu::Source::read` meets its contract: its tests are the definition's, in the same order.
use mathlib.Core.Bool.{true, false, not}
use mathlib.Core.Path.{◌≡◌, sym, ap, ◌∙◌}
use Rattle.words.specs.Refusal.{first_of}
use Rattle.words.proofs.Chain.{chain}
use Rattle.convert.specs.Cu.{bad_code, no_origin, places_of, frame_from, cu_file_number}
use Rattle.convert.proofs.Sources.{refused-source, placed-refused, placed-accepted, place-found, origin-found, origin-missing, read-source}
use Rattle.convert.proofs.cu.Source.read.Goals as goal
use Rattle.convert.proofs.cu.Source.read.Goals.{In-Some}

pub returns-then-bad_size : goal.returns-then-bad_size
unfolding cu_file_number first_of
returns-then-bad_size c = refused-source c.args.cu.now _ (search chain depth 20)

pub returns-then-bad_count : goal.returns-then-bad_count
unfolding cu_file_number first_of
returns-then-bad_count c = refused-source c.args.cu.now _ (search chain depth 20)

pub frame_from-requires : goal.frame_from-requires
frame_from-requires c = sym c.bad_size.ensures ∙ c.if-bad_size.false

pub returns-in_default : goal.returns-in_default
unfolding cu_file_number first_of
returns-in_default c =
    let bad = placed-refused c.args.cu.now (sym c.in_default.is ∙ c.read.ensures) in
    refused-source c.args.cu.now _ (search chain depth 20)

good : (c : In-Some) → (bad_code c.args.cu.now ≡ false) × (c.in-Some.places.table ≡ places_of c.args.cu.now)
good c = placed-accepted c.args.cu.now c.in-Some.places (sym c.in-Some.is ∙ c.read.ensures)

pub returns-in-Some-of : goal.returns-in-Some-of
unfolding cu_file_number first_of
returns-in-Some-of c =
    let file = c.args.cu.now in
    let places = c.in-Some.places in
    let codes = good (goal.at.returns-in-Some-of c).In-Some in
    let fine : bad_code file ≡ false = codes.0 in
    let place = sym c.in-Some-of.is ∙ c.of.ensures in
    let origin : no_origin file ≡ false =
    origin-found file places codes.1 c.in-Some-of.place place ∙ ap not (sym c.has_dot.ensures ∙ c.if-has_dot.true) in
    let at = (place-found places.table 65 c.in-Some-of.place place).1 in
    let number : 0 ≡ cu_file_number file = search chain depth 20 in
    read-source file places c.frame_from.result number codes.1 (c.frame_from.ensures ∙ ap (frame_from file) at)

pub returns-in_default-of : goal.returns-in_default-of
unfolding cu_file_number first_of
returns-in_default-of c =
    let file = c.args.cu.now in
    let codes = good (goal.at.returns-in_default-of c).In-Some in
    let fine : bad_code file ≡ false = codes.0 in
    let origin : no_origin file ≡ true =
    origin-found file c.in-Some.places codes.1 c.in-Some-of.place (sym c.in-Some-of.is ∙ c.of.ensures)
    ∙ ap not (sym c.has_dot.ensures ∙ c.if-has_dot.false) in
    refused-source file _ (search chain depth 20)

pub returns-in_default-of-2 : goal.returns-in_default-of-2
unfolding cu_file_number first_of
returns-in_default-of-2 c =
    let file = c.args.cu.now in
    let codes = good (goal.at.returns-in_default-of-2 c).In-Some in
    let fine : bad_code file ≡ false = codes.0 in
    let origin = origin-missing file c.in-Some.places codes.1 (sym c.in_default-of.is ∙ c.of.ensures) in
    refused-source file _ (search chain depth 20)
