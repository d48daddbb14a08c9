-- What a call is told by the numbers of its line, by docs/REPLAY.md, "Calls, and the line that each answers".
use Rattle.std.specs.Prelude.{ℕ, ◌+◌, ◌*◌, ◌/◌, ◌%◌, min, cond, List, [], ◌∷◌, ◌++◌, eqb, map, take, ℤ}
use Rattle.words.specs.Word.{word, table}
use Rattle.paint.specs.declared.Shape.{Shape}
use Rattle.paint.specs.declared.Label.{Label}
use Rattle.paint.specs.Label.{Call, Reply, call_of, reply_number, reply_pen, reply_substitutes}
use Rattle.replay.specs.declared.list.Line.{Line}
use Rattle.replay.specs.Lines.{values_of, number_of, signed_of}
use Rattle.replay.specs.Registers.{low_byte}
use Rattle.replay.specs.Text.{number_bytes, signed_bytes}

-- "R, H, W are the panel's shape": three numbers, of which the first is number `first`, at most 5
unfoldable pub shape_of : Line → ℕ → Shape
shape_of line first =
    let k = min first 5 in
    record { rowwords = number_of line k; rows = number_of line (k + 1); width = number_of line (k + 2) }

-- "STRIP X Y MODE": four numbers, of which the first is number `first`, at most 4
unfoldable pub label_of : Line → ℕ → Label
label_of line first =
    let k = min first 4 in
    record { strip = number_of line k; x = signed_of line (k + 1); y = signed_of line (k + 2); mode = number_of line (k + 3) }

-- the bytes of a label: "A label has at most 1,000 bytes"
abbrev pub text_of : Line → List ℕ
text_of line = map low_byte (take 1000 (values_of line.values))

-- the label of `gather`, behind the sheet and the shape
abbrev pub gather_call : Line → List ℕ → Call
gather_call line font = call_of font (label_of line 4) (text_of line)

-- and of `paint`, behind the shape
abbrev pub paint_call : Line → List ℕ → Call
paint_call line font = call_of font (label_of line 3) (text_of line)

-- "`N` is the refusal's number, or 0. A refusal's other numbers are 0."
-- `measure N PEN SUBSTITUTES`, and the same of `paint` and `gather`: a line, which a newline ends, 10
unfoldable pub numbers_bytes : List ℕ → ℕ → ℤ → ℕ → List ℕ
numbers_bytes word number pen substitutes =
    word ++ (number_bytes number ++ (signed_bytes pen ++ (number_bytes substitutes ++ (10 ∷ []))))

unfoldable pub reply_bytes : List ℕ → Reply → List ℕ
reply_bytes word reply = numbers_bytes word (reply_number reply) (reply_pen reply) (reply_substitutes reply)

-- the counts that words are: "each count two words, the high one first", and "Words that `counts` does not hold count as 0"
unfoldable pub count_at : List ℕ → ℕ → ℕ
count_at words k = word words (2 * k) * 65536 + word words (2 * k + 1)

unfoldable pub counts_in : List ℕ → List ℕ
counts_in words = table 32 (count_at words)

-- and the words that counts are
unfoldable pub count_word : List ℕ → ℕ → ℕ
count_word counts i = cond (eqb (i % 2) 0) (word counts (i / 2) / 65536) (word counts (i / 2) % 65536)

unfoldable pub count_words : List ℕ → List ℕ
count_words counts = table 64 (count_word counts)
