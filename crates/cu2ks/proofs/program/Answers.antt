-- `cu2ks::program` answers as the definition does: the number of bytes, the words, and the bytes of the file are as it says.
use Prim.Native.Nat.{ℕ, ◌≤◌}
use mathlib.Core.Path.{◌≡◌, refl, sym, ap, subst, ◌∙◌}
use native.Mathlib.Omega.{arith}
use lib.ListN.{length, length-replicate}
use lib.Seq.{length-take-le}
use Rattle.std.proofs.lemmas.Result.{err_from_is_err_and, IfOk-from_err}
use Rattle.std.specs.Prelude.{Ok, Err}
use Rattle.reading.proofs.Counting.{prefix_len_of_le}
use Rattle.words.specs.Word.{words_of}
use Rattle.words.specs.Refusal.{number_of, returned}
use Rattle.convert.specs.Conversion.{bytes_number, Tells}
use Rattle.cu2ks.proofs.Answering.{bytes-refused, words-refused, has-room, done, printing, few_bytes}
use Rattle.cu2ks.proofs.program.Goals as goal
use Rattle.cu2ks.proofs.program.Goals.{In_ok-check_bytes, In_ok-words}

pub returns-in_err-check_bytes : goal.returns-in_err-check_bytes
returns-in_err-check_bytes c =
    let reply = c.from_residual in
    let answer = err_from_is_err_and reply.result reply.ensures.1 in
    let refusal = c.in_err-check_bytes.field-0.0 in
    let number : number_of refusal ≡ bytes_number c.args.bytes.now =
    ap returned (sym c.in_err-check_bytes.was) ∙ c.check_bytes.ensures in
    let told = bytes-refused c.args.bytes.now refusal c.args.printed.now number in
    let is = rw answer.2 at answer.1 in
    record { value = is ∙ told.0; printed = told.1; room = IfOk-from_err reply.result _ reply.ensures.0; number = ap returned is ∙ told.2 }

bytes-passed : (c : In_ok-check_bytes) → bytes_number c.args.bytes.now ≡ 0
bytes-passed c = sym c.check_bytes.ensures ∙ ap returned c.in_ok-check_bytes.was

pub converted-requires : goal.converted-requires
converted-requires c = few_bytes c.args.bytes.now (bytes-passed (goal.at.converted-requires c).In_ok-check_bytes)

pub returns-in_err-words : goal.returns-in_err-words
returns-in_err-words c =
    let bytes = c.args.bytes.now in
    let reply = c.from_residual-in_err-words in
    let answer = err_from_is_err_and reply.result reply.ensures.1 in
    let refusal = c.in_err-words.field-0.0 in
    let tells = subst (Tells (Err refusal) (words_of bytes)) (length-replicate {A = ℕ} 32768 0) c.in_err-words.ensures.numbers in
    let told = words-refused bytes refusal c.args.printed.now (bytes-passed (goal.at.returns-in_err-words c).In_ok-check_bytes) tells in
    let is = rw answer.2 at answer.1 in
    record { value = is ∙ told.0; printed = told.1; room = IfOk-from_err reply.result _ reply.ensures.0; number = ap returned is ∙ told.2 }

tells-written : (c : In_ok-words) → Tells (Ok c.in_ok-words.words) (words_of c.args.bytes.now) 32768
tells-written c =
    subst (Tells (Ok c.in_ok-words.words) (words_of c.args.bytes.now)) (length-replicate {A = ℕ} 32768 0) c.in_ok-words.ensures.numbers

passed : (c : In_ok-words) → bytes_number c.args.bytes.now ≡ 0
passed c = sym c.check_bytes.ensures ∙ ap returned c.in_ok-check_bytes.was

words-fit : (c : In_ok-words) → c.in_ok-words.words ≤ length c.converted.new.out
words-fit c = let few = has-room c.args.bytes.now _ (passed c) (tells-written c) in omega arith

pub slice_bounds-out-end : goal.slice_bounds-out-end
slice_bounds-out-end c = words-fit c

pub slice_bounds-to_bytes-end : goal.slice_bounds-to_bytes-end
slice_bounds-to_bytes-end c = sym (length-take-le _ _ (words-fit (goal.at.slice_bounds-to_bytes-end c).In_ok-words))

pub returns : goal.returns
returns c =
    let moment = (goal.at.returns c).In_ok-words in
    let answer =
    printing c.args.bytes.now c.in_ok-words.words (passed moment) (tells-written moment) _ _ _ _ _ _
    (length-replicate {A = ℕ} 32768 0)
    c.converted.ensures.out
    refl
    (omega arith)
    c.to_bytes.ensures.value
    c.to_bytes.ensures.bytes in
    record {
      value = answer.0;
      printed = answer.1;
      room = prefix_len_of_le c.to_bytes.result c.to_bytes.new.bytes answer.2;
      number = done c.args.bytes.now c.in_ok-words.words (passed moment) (tells-written moment);
    }
