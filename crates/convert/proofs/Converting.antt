-- What converting answers, by the number of the refusal.
use Prim.Native.Nat.{ℕ}
use mathlib.Core.Path.{◌≡◌, sym, ap, ◌∙◌}
use mathlib.Core.List.{List, ◌++◌}
use lib.ListN.{length, drop}
use borrow.Author.Tests.{eq-eqb, ne_eqb}
use Rattle.std.specs.Prelude.{Result, Ok, Err}
use Rattle.words.specs.declared.refusal.Refusal.{Refusal}
use Rattle.words.specs.Refusal.{number_of}
use Rattle.words.proofs.Tables.{table-length}
use Rattle.words.proofs.Refusals.{number-not-0, answered-value, answered-refusal}
use Rattle.convert.specs.declared.cu.Source.{Source}
use Rattle.convert.specs.Writing.{file_of, file_words}
use Rattle.convert.specs.Cu.{places_of, frame_of, drawn, drawing_of, cu_file_number, source_of}
use Rattle.convert.specs.Conversion.{cu_number, conversion_of, output_after, Tells}
use Rattle.convert.proofs.Answers.{accepted-by, refused-by, file-known, tells}

module _ (ws : List ℕ) where
  pub file-refused : (refusal : Refusal) → Err refusal ≡ source_of ws → number_of refusal ≡ cu_file_number ws
  unfolding source_of
  file-refused refusal e = refused-by (cu_file_number ws) _ refusal (file-known ws) e

  -- an accepted file's source makes the drawing
  module _ (source : Source) (read : Ok source ≡ source_of ws) where
    source-read : (cu_file_number ws ≡ 0) × (source ≡ record { places = record { table = places_of ws }; frame = frame_of ws })
    unfolding source_of
    source-read = accepted-by (cu_file_number ws) _ source read

    pub file-accepted : cu_file_number ws ≡ 0
    file-accepted = source-read.0

    pub places-long : length source.places.table ≡ 256
    unfolding places_of
    places-long = ap (λ (s : Source). length s.places.table) source-read.1 ∙ table-length 256 _

    pub drawing-read : drawn ws source ≡ drawing_of ws
    unfolding drawing_of
    drawing-read = ap (drawn ws) source-read.1

-- all that converting promises
pub record Converted (ws out after : List ℕ) (answer : Result ℕ Refusal) : Type 0 where
  pub value : answer ≡ conversion_of ws (length out)
  pub output : after ≡ output_after ws out
  pub numbers : Tells answer ws (length out)

module _ (ws out : List ℕ) where
  pub conversion-refused : (refusal : Refusal) (answer : Result ℕ Refusal) → answer ≡ Err refusal
      → number_of refusal ≡ cu_number ws (length out)
      → Converted ws out out answer
  unfolding conversion_of output_after
  conversion-refused refusal answer is e =
      let some = ne_eqb (cu_number ws (length out)) 0 (λ k. number-not-0 refusal (e ∙ k)) in
      let value = is ∙ answered-refusal refusal (cu_number ws (length out)) (file_words (drawing_of ws)) e in
      record { value = value; output = rw some; numbers = tells ws (length out) answer value }

  pub conversion-done : (words : ℕ) (after : List ℕ) → words ≡ file_words (drawing_of ws)
      → after ≡ file_of (drawing_of ws) ++ drop (file_words (drawing_of ws)) out → cu_number ws (length out) ≡ 0
      → Converted ws out after (Ok words)
  unfolding conversion_of output_after
  conversion-done words after is written e =
      let value = ap Ok is ∙ answered-value (cu_number ws (length out)) (file_words (drawing_of ws)) (sym e) in
      record {
        value = value;
        output = rw (eq-eqb (cu_number ws (length out)) 0 e) written;
        numbers = tells ws (length out) (Ok
            words) value;
      }
