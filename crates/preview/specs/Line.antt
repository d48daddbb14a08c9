-- A line of labels, by docs/PROGRAMS.md, "preview": "STRIP X Y MODE TEXT, with one space behind each number".
use Rattle.std.specs.Prelude.{ℕ, ℤ, suc, ◌+◌, ◌-◌, cond, List, [], ◌∷◌, ltb, eqb, length, get_or, take, drop, Option, None, Some}
use Rattle.std.specs.Option.{option_and_then, option_map}
use Rattle.paint.specs.declared.Shape.{Shape}
use Rattle.paint.specs.Label.{call_of, paint_after}
use Rattle.counts.specs.Calls.{paint_counted}
use Rattle.paint.specs.declared.Label.{Label}
use Rattle.preview.specs.declared.label.Line.{Line}
use Rattle.preview.specs.declared.label.Line.TheVariants.{Label as a_label, Passed, Other}
use Rattle.preview.specs.Number.{number_of, signed_of}

-- "A carriage return at its end is no part of it": where the last byte is 13, all bytes before it
unfoldable pub without_return : List ℕ → List ℕ
without_return line = cond (eqb (get_or line (length line - 1) 0) 13) (take (length line - 1) line) line

-- the bytes before the first space, which is 32
unfoldable pub word_length : List ℕ → ℕ
word_length [] = 0
word_length (b ∷ bytes) = cond (eqb b 32) 0 (suc (word_length bytes))

unfoldable pub word_of : List ℕ → List ℕ
word_of text = take (word_length text) text

-- the bytes behind that space; none where there is no space
unfoldable pub behind : List ℕ → List ℕ
behind text = drop (word_length text + 1) text

-- "The bytes of TEXT are the codes of the label": what is behind the fourth space, without the return
unfoldable pub text_of : List ℕ → List ℕ
text_of line = behind (behind (behind (behind (without_return line))))

-- a label, where all four are numbers
unfoldable pub label_from : Option ℕ → Option ℤ → Option ℤ → Option ℕ → Option Label
label_from strip left down mode =
    option_and_then
    (λ strip. option_and_then
    (λ x. option_and_then
    (λ y. option_map (λ mode. record { strip = strip; x = x; y = y; mode = mode }) mode) down) left) strip

unfoldable pub label_of : List ℕ → Option Label
label_of line =
    label_from
    (number_of (word_of line))
    (signed_of (word_of (behind line)))
    (signed_of (word_of (behind (behind line))))
    (number_of (word_of (behind (behind (behind line)))))

-- no label: "The line is not spelled so, or a number does not fit its type"
abbrev pub line_with : Option Label → Line
line_with None = Other
line_with (Some l) = a_label l

-- the most bytes of a label's line, without its return
abbrev pub longest : ℕ
longest = 1000

-- a line without its return. "Empty lines, and lines that begin with #, are passed over", which is 35. "A line of over 1,000 bytes is no
-- label, however short its text, unless it is a comment."
unfoldable pub kind_of : List ℕ → Line
kind_of [] = Passed
kind_of (b ∷ bytes) = cond (eqb b 35) Passed (cond (ltb longest (length (b ∷ bytes))) Other (line_with (label_of (b ∷ bytes))))

-- any line
unfoldable pub line_of : List ℕ → Line
line_of line = kind_of (without_return line)

-- the dots of a panel, and beside it the counts of those that are lit in each strip
pub record Dots : Type 0 where
  pub panel : List ℕ
  pub counts : List ℕ

abbrev pub counted : List ℕ → List ℕ → Dots
counted panel counts = record { panel = panel; counts = counts }

-- what is left after a line: its label is painted, with the counts, and any other line changes nothing
unfoldable pub painted : List ℕ → Shape → Line → List ℕ → Dots → Dots
painted font s (a_label l) text dots =
    let after = paint_counted s (call_of font l text) dots.panel dots.counts in
    counted after.panel after.counts
painted font s Passed text dots = dots
painted font s Other text dots = dots

unfoldable pub after_line : List ℕ → Shape → List ℕ → Dots → Dots
after_line font s line dots = painted font s (line_of line) (text_of line) dots

-- and the panel that is left where no counts are kept
unfoldable pub plain_painted : List ℕ → Shape → Line → List ℕ → List ℕ → List ℕ
plain_painted font s (a_label l) text panel = paint_after s (call_of font l text) panel
plain_painted font s Passed text panel = panel
plain_painted font s Other text panel = panel

unfoldable pub plain_line : List ℕ → Shape → List ℕ → List ℕ → List ℕ
plain_line font s line panel = plain_painted font s (line_of line) (text_of line) panel
