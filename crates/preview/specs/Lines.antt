-- The lines of what is read, by docs/PROGRAMS.md, "preview": "A line ends at a newline; the last one may have none."
use Rattle.std.specs.Prelude.{ℕ, ◌<◌, ◌≡◌, cond, List, [], ◌∷◌, ◌++◌, eqb, get_or, replicate, is_ok, IfErr}
use Rattle.reading.specs.declared.ReadFailed.{ReadFailed}
use Rattle.paint.specs.declared.Shape.{Shape}
use Rattle.preview.specs.declared.painting.Answer.{Answer}
use Rattle.preview.specs.declared.painting.Progress.{Progress}
use Rattle.preview.specs.Begun.{Begun, first_line, next_line, longer_line}
use Rattle.preview.specs.Line.{Dots, counted, after_line, plain_line}

-- ---- the lines of bytes, of any length

-- the lines that end in bytes, each at its newline, which is 10; the first of them has begun with the bytes before
unfoldable pub ended : List ℕ → List ℕ → List (List ℕ)
ended begun [] = []
ended begun (b ∷ bytes) = cond (eqb b 10) (begun ∷ ended [] bytes) (ended (begun ++ (b ∷ [])) bytes)

-- what stands behind the last newline, perhaps nothing
unfoldable pub unended : List ℕ → List ℕ → List ℕ
unended begun [] = begun
unended begun (b ∷ bytes) = cond (eqb b 10) (unended [] bytes) (unended (begun ++ (b ∷ [])) bytes)

-- all lines of bytes
unfoldable pub lines_of : List ℕ → List (List ℕ)
lines_of bytes = ended [] bytes ++ (unended [] bytes ∷ [])

-- what is left after lines, in their order
unfoldable pub after_lines : List ℕ → Shape → List (List ℕ) → Dots → Dots
after_lines font s [] dots = dots
after_lines font s (line ∷ lines) dots = after_lines font s lines (after_line font s line dots)

unfoldable pub plain_lines : List ℕ → Shape → List (List ℕ) → List ℕ → List ℕ
plain_lines font s [] panel = panel
plain_lines font s (line ∷ lines) panel = plain_lines font s lines (plain_line font s line panel)

-- numbers that are bytes
unfoldable pub Bytes : List ℕ → Type 0
Bytes numbers = (i : ℕ) → get_or numbers i 0 < 256

-- the counts of a dark panel
abbrev pub zeros : List ℕ
zeros = replicate 32 0

-- a read that failed, and of which no byte is there
abbrev pub nothing_read : ReadFailed
nothing_read = record { bytes = 0 }

-- What painting all lines leaves, with counts that are zeros at first: for the bytes that were read, which no contract can name, all of
-- their lines are painted where every read went well; else those that had ended. The counts that are answered are those that they leave,
-- and of a read that failed no byte is told.
pub record Painted (font : List ℕ) (s : Shape) (panel : List ℕ) (answer : Answer) (after : List ℕ) : Type 0 where
  pub read : List ℕ
  pub bytes : Bytes read
  pub paints : counted after answer.counts
      ≡ after_lines font s (cond (is_ok answer.read) (lines_of read) (ended [] read)) (counted panel zeros)
  pub unread : IfErr answer.read (λ failed. failed.bytes ≡ 0)

-- ---- the line that is being read

-- nothing has been read, and no dot is lit
abbrev pub first_progress : Progress
first_progress = record { line = first_line; counts = zeros }

-- "Lines are counted from 1, with those that are passed over."
unfoldable pub line_after : List ℕ → Begun → Begun
line_after [] line = line
line_after (b ∷ bytes) line = line_after bytes (cond (eqb b 10) (next_line line) (longer_line b line))

-- what taking bytes of the lines leaves
pub record Taken (font : List ℕ) (s : Shape) (bytes : List ℕ) (before : Progress) (panel : List ℕ)
    (after : Progress) (panel' : List ℕ) : Type 0 where
  pub begins : after.line ≡ line_after bytes before.line
  pub paints : counted panel' after.counts
      ≡ after_lines font s (ended before.line.kept bytes) (counted panel before.counts)
