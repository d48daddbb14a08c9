-- The conversion of a CU file, its refusals, and the program: the paper's "Numbers returned", 20 to 27, and its last paragraph.
use Rattle.std.specs.Prelude.{ℕ, ◌≡◌, cond, List, [], ◌∷◌, ◌++◌, ltb, eqb, length, drop, Result, Ok, Err}
use Rattle.words.specs.Word.{words_of, bytes_of, odd_bytes}
use Rattle.words.specs.declared.refusal.Refusal.{Refusal}
use Rattle.words.specs.Refusal.{first_of, or_else, returned, answered}
use Rattle.convert.specs.Writing.{file_of, file_words, drawing_number}
use Rattle.convert.specs.Cu.{drawing_of, cu_file_number}

-- the number of a CU file's refusal, where the output has room for so many words
unfoldable pub cu_number : List ℕ → ℕ → ℕ
cu_number ws room = or_else (cu_file_number ws) (drawing_number (drawing_of ws) room)

unfoldable pub conversion_of : List ℕ → ℕ → Result ℕ Refusal
conversion_of ws room = answered (cu_number ws room) (file_words (drawing_of ws))

-- the paper's number and words written for each answer
abbrev pub conversion_number : Result ℕ Refusal → ℕ
conversion_number answer = returned answer

abbrev pub words_written : Result ℕ Refusal → ℕ
words_written (Ok words) = words
words_written (Err refusal) = 0

-- so what an answer tells: the number; beside 0 the words of the file, beside any other 0
abbrev pub Tells : Result ℕ Refusal → List ℕ → ℕ → Type 0
Tells answer ws room =
    (conversion_number answer ≡ cu_number ws room)
    × (words_written answer ≡ cond (eqb (cu_number ws room) 0) (file_words (drawing_of ws)) 0)

-- "Words of the lent output after the file stay"; on a refusal all of them stay
unfoldable pub output_after : List ℕ → List ℕ → List ℕ
output_after ws out =
    cond (eqb (cu_number ws (length out)) 0) (file_of (drawing_of ws) ++ drop (file_words (drawing_of ws)) out) out

-- the program: "Over 65,536 bytes is refused 21, before 14"
unfoldable pub bytes_number : List ℕ → ℕ
bytes_number bytes = first_of ((ltb 65536 (length bytes), 21) ∷ (odd_bytes bytes, 14) ∷ [])

-- "its output holds 32,768 words"
unfoldable pub program_number : List ℕ → ℕ
program_number bytes = or_else (bytes_number bytes) (cu_number (words_of bytes) 32768)

-- "writes the KernedStrike bytes, nothing else"; "A refusal writes nothing to standard output"
unfoldable pub program_output : List ℕ → List ℕ
program_output bytes = cond (eqb (program_number bytes) 0) (bytes_of (file_of (drawing_of (words_of bytes)))) []
