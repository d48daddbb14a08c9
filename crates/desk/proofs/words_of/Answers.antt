-- `desk::words_of` meets its contract: its number, and then the words that the bytes spell, for which there is room.
-- Assumes nothing.
use Prim.Native.Nat.{ℕ, ◌/◌, min}
use mathlib.Core.Path.{◌≡◌, ap, ◌∙◌}
use lib.ListN.{length}
use Rattle.std.proofs.lemmas.Result.{err_from_is_err_and}
use Rattle.words.specs.Word.{word, words_of, over}
use Rattle.words.proofs.Refusals.{number-not-0}
use Rattle.desk.proofs.Words.{words-refused, out_stays, words-fit, words-done, out_written}
use Rattle.desk.proofs.words_of.Goals as goal

pub returns-in_err-check_words : goal.returns-in_err-check_words
returns-in_err-check_words c =
    let stopped = err_from_is_err_and c.from_residual.result c.from_residual.ensures.1 in
    let number = c.in_err-check_words.ensures in
    rw (stopped.1, stopped.2)
    (record {
      value = words-refused c.args.bytes.now (length c.args.out.now) _ number (number-not-0 _);
      out = out_stays c.args.bytes.now c.args.out.now _ number (number-not-0 _);
    })

pub returns : goal.returns
returns c =
    let bytes = c.args.bytes.now in
    let out = c.args.out.now in
    let number = c.in_ok-check_words.ensures in
    let count : min (length bytes / 2) (length out) ≡ length bytes / 2 = words-fit bytes (length out) number in
    record {
      value = words-done bytes (length out) _ number (c.from_bytes.ensures.value ∙ count);
      out =
          out_written bytes out _ number (c.from_bytes.ensures.list ∙ ap (λ (m : ℕ). over m (word (words_of bytes)) out) count);
    }
