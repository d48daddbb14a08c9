-- The panel and its strips: the paper's "Panel, strips, pen", its first half.
use Rattle.std.specs.Prelude.{ℕ, ◌+◌, ◌*◌, Bool, false, ◌||◌, List, [], ◌∷◌, ltb}
use Rattle.words.specs.Refusal.{first_of, not_within}
use Rattle.paint.specs.declared.Shape.{Shape}
use Rattle.paint.specs.declared.Strip.{Strip}

-- "A panel has R words per row, H rows": R × H words. "A lent slice may be longer than R × H; the rest is never touched."
abbrev pub panel_words : Shape → ℕ
panel_words s = s.rowwords * s.rows

-- a panel of the same columns that has one row
abbrev pub one_row : Shape → Shape
one_row s = record { rowwords = s.rowwords; rows = 1; width = s.width }

-- "Strip k is columns kW to kW + W - 1"
abbrev pub strip_of : Shape → ℕ → Strip
strip_of s k = record { from = k * s.width; upto = k * s.width + s.width }

-- 8: "R not 1..128, H not 1..256, W not 1..64"
unfoldable pub bad_sides : Shape → Bool
bad_sides s = not_within 1 128 s.rowwords || not_within 1 256 s.rows || not_within 1 64 s.width

-- 8: or "32W > 16R"
unfoldable pub bad_shape : Shape → Bool
bad_shape s = bad_sides s || ltb (16 * s.rowwords) (32 * s.width)

-- 8: "or a lent panel or sheet slice under R × H words", by the lengths of the slices
unfoldable pub some_short : Shape → List ℕ → Bool
some_short s [] = false
some_short s (n ∷ lent) = ltb n (panel_words s) || some_short s lent

unfoldable pub bad_panel : Shape → List ℕ → Bool
bad_panel s lent = bad_shape s || some_short s lent

-- "Making a fresh sheet, joining and applying are refused by 8 only."
unfoldable pub panel_number : Shape → List ℕ → ℕ
panel_number s lent = first_of ((bad_panel s lent, 8) ∷ [])
