-- What the functions for C take and answer, beyond what the crates below define: checking is `fontbytes: File.file_number`, measuring
-- `paint: Label.measure_file`.
use Rattle.std.specs.Prelude.{ℕ, ◌/◌, cond, List, [], ◌∷◌, ltb, eqb, length}
use Rattle.words.specs.Word.{word, words_of, odd_bytes, over}
use Rattle.std.specs.declared.result.Result.{Result}
use Rattle.words.specs.declared.refusal.Refusal.{Refusal}
use Rattle.words.specs.Refusal.{first_of, returned}
use Rattle.convert.specs.Conversion.{conversion_number, words_written}
use Rattle.paint.specs.Label.{Call, Reply, call_of, reply_number, reply_pen, reply_substitutes}
use Rattle.paint.specs.Sheet.{Sheet}
use Rattle.sheets.specs.Sheet.{gather_after}
use Rattle.counts.specs.declared.Painted.{Painted}
use Rattle.counts.specs.declared.Settled.{Settled}
use Rattle.counts.specs.Lit.{Counted}
use Rattle.counts.specs.Calls.{paint_counted}
use Rattle.desk.specs.declared.Call.{Call as Handed}
use Rattle.desk.specs.declared.Answer.{Answer}
use Rattle.desk.specs.declared.Painted.{Painted as ForC}
use Rattle.desk.specs.declared.Settled.{Settled as SettledForC}
use Rattle.desk.specs.declared.Written.{Written}

-- a label call, by the struct that C hands; its shape stands apart
abbrev pub call_from : List ℕ → Handed → List ℕ → Call
call_from font handed text = call_of font handed.label text

-- a sheet with such a call gathered on it
abbrev pub gathered_by : Handed → List ℕ → List ℕ → Sheet → Sheet
gathered_by handed font text sheet = gather_after handed.shape (call_from font handed text) sheet

-- and what such a call leaves of a panel with counts
abbrev pub counted_by : Handed → List ℕ → List ℕ → List ℕ → List ℕ → Counted
counted_by handed font text panel counts = paint_counted handed.shape (call_from font handed text) panel counts

-- "returns its number, pen 0, substitutes 0, words written 0": the paper's number and values, as C has them
abbrev pub answer_of : Reply → Answer
answer_of reply = record { number = reply_number reply; pen = reply_pen reply; substitutes = reply_substitutes reply }

-- the counts go in and out by value, in a struct
abbrev pub painted_from : Painted → ForC
painted_from painted = record { answer = answer_of painted.reply; counts = record { lit = painted.counts } }

abbrev pub settled_from : Counted → SettledForC
settled_from counted = record { number = counted.number; counts = record { lit = counted.counts } }

-- so by what the call answers
abbrev pub settled_with : Settled → SettledForC
settled_with settled = record { number = returned settled.reply; counts = record { lit = settled.counts } }

abbrev pub written_of : Result ℕ Refusal → Written
written_of conversion = record { number = conversion_number conversion; words = words_written conversion }

-- Words of bytes: 14, then 27, "output slice too short"; else as many words as the bytes spell, over the first words of the output
unfoldable pub words_number : List ℕ → ℕ → ℕ
words_number bytes room = first_of ((odd_bytes bytes, 14) ∷ (ltb room (length bytes / 2), 27) ∷ [])

unfoldable pub words_answer : List ℕ → ℕ → Written
words_answer bytes room =
    let number = words_number bytes room in
    record { number = number; words = cond (eqb number 0) (length bytes / 2) 0 }

unfoldable pub words_after : List ℕ → List ℕ → List ℕ
words_after bytes out =
    cond (eqb (words_number bytes (length out)) 0) (over (length bytes / 2) (word (words_of bytes)) out) out
