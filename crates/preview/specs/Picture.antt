-- The picture of a panel, by docs/DECISIONS.md, "The preview program": "A PBM picture of the kind P4".
use Rattle.std.specs.Prelude.{ℕ, ◌+◌, ◌*◌, ◌≡◌, cond, List, [], ◌∷◌, ◌++◌, length, take, drop, codes, decimal}
use Rattle.words.specs.Word.{bytes_of}
use Rattle.paint.specs.declared.Shape.{Shape}
use Rattle.paint.specs.Panel.{panel_words, bad_panel}

-- the most words of a panel: 128 a row, 256 rows
abbrev pub most_words : ℕ
most_words = 32768

-- the most bytes of a header, with two numbers of four digits
abbrev pub header_bytes : ℕ
header_bytes = 13

-- the most bytes of a picture
abbrev pub picture_bytes : ℕ
picture_bytes = header_bytes + 2 * most_words

-- "P4", a newline, the columns in decimal, a space, the rows, a newline
unfoldable pub header_of : Shape → List ℕ
header_of s = codes "P4\n" ++ (decimal (16 * s.rowwords) ++ (codes " " ++ (decimal s.rows ++ codes "\n")))

-- "a row of it is the row's words, high byte first, with 1 for a lit dot"
abbrev pub rows_of : Shape → List ℕ → List ℕ
rows_of s panel = bytes_of (take (panel_words s) panel)

-- a shape that 8 refuses has no picture
unfoldable pub picture_of : Shape → List ℕ → List ℕ
picture_of s panel = cond (bad_panel s (length panel ∷ [])) [] (header_of s ++ rows_of s panel)

-- a lent slice with bytes put into it from a place on
unfoldable pub put_at : ℕ → List ℕ → List ℕ → List ℕ
put_at at bytes lent = take at lent ++ (bytes ++ drop (at + length bytes) lent)

-- what putting bytes from a place on answers and leaves: the place behind them, and the slice
pub record Put (at : ℕ) (bytes lent : List ℕ) (end : ℕ) (after : List ℕ) : Type 0 where
  pub ends : end ≡ at + length bytes
  pub leaves : after ≡ put_at at bytes lent
