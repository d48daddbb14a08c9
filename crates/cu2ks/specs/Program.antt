-- What the program answers: the paper's "A small program reads CU bytes from standard input and writes the KernedStrike bytes".
use Rattle.std.specs.Prelude.{ℕ, List, length, Result}
use Rattle.words.specs.declared.refusal.Refusal.{Refusal}
use Rattle.words.specs.Refusal.{answered}
use Rattle.convert.specs.Conversion.{program_number, program_output}

-- how many bytes are printed, or the refusal of the number
unfoldable pub answer_of : List ℕ → Result ℕ Refusal
answer_of bytes = answered (program_number bytes) (length (program_output bytes))
