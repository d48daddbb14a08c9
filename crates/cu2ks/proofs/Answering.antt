-- The program's answer: its refusals, and the bytes of the file that it prints.
use Prim.Native.Nat.{ℕ, ◌*◌, ◌/◌, ◌≤◌, min}
use mathlib.Core.Path.{◌≡◌, refl, sym, ap, ap₂, ◌∙◌}
use mathlib.Core.List.{List, [], ◌++◌}
use native.Mathlib.Omega.{arith}
use lib.Dec.{ltb}
use lib.ListN.{length, take, drop}
use lib.Seq.{take_at}
use borrow.Author.Tests.{ltb-false, eq-eqb, ne_eqb}
use Rattle.std.specs.Prelude.{Ok, Err}
use Rattle.words.specs.declared.refusal.Refusal.{Refusal}
use Rattle.words.specs.Word.{word, words_of, bytes_of, over}
use Rattle.words.specs.Refusal.{first_of, number_of}
use Rattle.words.proofs.Bytes.{words-length, bytes-length}
use Rattle.words.proofs.Over.{over-length, over-list, over-list-first}
use Rattle.words.proofs.Chain.{stage-stops, stage-goes-on}
use Rattle.words.proofs.Passed.{passed, stages-passed}
use Rattle.words.proofs.Refusals.{number-not-0, answered-value, answered-refusal}
use Rattle.convert.specs.Writing.{file_of, file_words, drawing_number}
use Rattle.convert.specs.Cu.{drawing_of, cu_file_number}
use Rattle.convert.specs.Conversion.{bytes_number, cu_number, Tells, output_after, program_number, program_output}
use Rattle.convert.proofs.File.{file-length}
use Rattle.convert.proofs.Accepting.{good-drawing}
use Rattle.cu2ks.specs.Program.{answer_of}

-- the words that stand first where bytes have been read into a list with room for them
pub spelt : (n : ℕ) (bytes before after : List ℕ) → length bytes / 2 ≤ length after
    → n ≡ min (length bytes / 2) (length before)
    → after ≡ over (min (length bytes / 2) (length before)) (word (words_of bytes)) before
    → take n after ≡ words_of bytes
spelt n bytes before after fits count written =
    let same = ap length written ∙ over-length (min (length bytes / 2) (length before)) (word (words_of bytes)) before in
    let all : min (length bytes / 2) (length before) ≡ length bytes / 2 = omega arith in
    ap₂ (λ (k : ℕ) (ws : List ℕ). take k ws) (count ∙ all) (written ∙ ap (λ (k : ℕ). over k (word (words_of bytes)) before) all)
    ∙ over-list-first (length bytes / 2) (words_of bytes) before (words-length bytes) (omega arith)

module _ (bytes : List ℕ) where
  abbrev ws : List ℕ
  ws = words_of bytes

  -- ---- refusals

  pub few_bytes : bytes_number bytes ≡ 0 → length bytes ≤ 65536
  unfolding bytes_number first_of
  few_bytes e = ltb-false 65536 (length bytes) (passed (ltb 65536 (length bytes)) 21 _ (omega arith) e).0

  -- a refusal, of the number of bytes or of their words, prints nothing
  module _ (refusal : Refusal) (printed : List ℕ) where
    refused : number_of refusal ≡ program_number bytes → (Err refusal ≡ answer_of bytes)
        × (printed ≡ program_output bytes ++ drop (length (program_output bytes)) printed)
        × (number_of refusal ≡ program_number bytes)
    unfolding answer_of program_output
    refused e =
        let number = number-not-0 refusal in
        let none : program_output bytes ≡ [] = rw (← e, ne_eqb (number_of refusal) 0 number) in
        (answered-refusal refusal (program_number bytes) _ e, rw none, e)

    pub bytes-refused : number_of refusal ≡ bytes_number bytes → (Err refusal ≡ answer_of bytes)
        × (printed ≡ program_output bytes ++ drop (length (program_output bytes)) printed)
        × (number_of refusal ≡ program_number bytes)
    unfolding program_number
    bytes-refused e = refused (stage-stops _ (bytes_number bytes) (cu_number ws 32768) e (number-not-0 refusal))

    pub words-refused : bytes_number bytes ≡ 0 → Tells (Err refusal) ws 32768 → (Err refusal ≡ answer_of bytes)
        × (printed ≡ program_output bytes ++ drop (length (program_output bytes)) printed)
        × (number_of refusal ≡ program_number bytes)
    unfolding program_number
    words-refused z tells = refused (stage-goes-on _ (bytes_number bytes) (bytes_number bytes) (cu_number ws 32768) refl z tells.0)

  -- ---- the file

  module _ (w : ℕ) (z : bytes_number bytes ≡ 0) (tells : Tells (Ok w) ws 32768) where
    accepted : cu_number ws 32768 ≡ 0
    accepted = sym tells.0

    words-are : w ≡ file_words (drawing_of ws)
    words-are = let e = accepted in tells.1 ∙ rw (eq-eqb (cu_number ws 32768) 0 e)

    pub has-room : w ≤ 32768
    unfolding cu_number
    has-room =
        let stages = stages-passed (cu_file_number ws) (drawing_number (drawing_of ws) 32768) accepted in
        let good = good-drawing (drawing_of ws) 32768 stages.1 in
        let room = good.has_room in
        let count = words-are in
        omega arith

    pub done : 0 ≡ program_number bytes
    unfolding program_number
    done = stage-goes-on 0 (bytes_number bytes) (bytes_number bytes) (cu_number ws 32768) refl z tells.0

    output-is : program_output bytes ≡ bytes_of (file_of (drawing_of ws))
    unfolding program_output
    output-is = rw (eq-eqb (program_number bytes) 0 (sym done))

    module _ (n : ℕ) (out after file room printed : List ℕ)
        (long : length out ≡ 32768)
        (written : after ≡ output_after ws out)
        (first : file ≡ take w after)
        (space : length room ≡ 65536)
        (count : n ≡ min (2 * length file) (length room))
        (spelling : printed ≡ over (min (2 * length file) (length room)) (word (bytes_of file)) room) where
      file-is : file ≡ file_of (drawing_of ws)
      unfolding output_after
      file-is =
          let words = words-are in
          let e = accepted in
          first
          ∙ ap (take w) written
          ∙ rw (long, eq-eqb (cu_number ws 32768) 0 e)
          (take_at (file_of (drawing_of ws)) (drop (file_words (drawing_of ws)) out) w (file-length (drawing_of ws) ∙ sym words))

      all : min (2 * length file) (length room) ≡ 2 * length file
      all =
          let words : length file ≡ w = ap length file-is ∙ file-length (drawing_of ws) ∙ sym words-are in
          let few = has-room in
          omega arith

      printed-is : bytes_of file ≡ program_output bytes
      printed-is = ap bytes_of file-is ∙ sym output-is

      pub printing : (Ok n ≡ answer_of bytes)
          × (printed ≡ program_output bytes ++ drop (length (program_output bytes)) room) × (n ≤ length printed)
      unfolding answer_of
      printing =
          let fits = all in
          let same = ap length spelling ∙ over-length (min (2 * length file) (length room)) (word (bytes_of file)) room in
          let bytes-of : 2 * length file ≡ length (program_output bytes) = sym (bytes-length file) ∙ ap length printed-is in
          let whole = count ∙ all ∙ bytes-of in (
            ap (λ (k : ℕ). Ok k) whole ∙ answered-value (program_number bytes) (length (program_output bytes)) done,
            spelling
                ∙ ap (λ (k : ℕ). over k (word (bytes_of file)) room) all
                ∙ over-list (2 * length file) (bytes_of file) room (bytes-length file) (omega arith)
                ∙ ap₂ (λ (xs : List ℕ) (k : ℕ). xs ++ drop k room) printed-is bytes-of,
            omega arith,
          )
