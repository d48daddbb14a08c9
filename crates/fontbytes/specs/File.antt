-- A font file in bytes: 14, and then what the words say that the bytes spell.
use Rattle.std.specs.Prelude.{ℕ, cond, List}
use Rattle.words.specs.Word.{words_of, odd_bytes}
use Rattle.words.specs.Refusal.{answered}
use Rattle.words.specs.declared.refusal.Refusal.{Refusal}
use Rattle.std.specs.declared.result.Result.{Result}
use Rattle.fonts.specs.declared.View.{View}
use Rattle.fonts.specs.Strike.{view_of}
use Rattle.fonts.specs.Reading.{font_number}

-- "14: an odd number of bytes where words are read from bytes", before the reader's own numbers
unfoldable pub file_number : List ℕ → ℕ
file_number bytes = cond (odd_bytes bytes) 14 (font_number (words_of bytes))

-- what reading answers: what finds the font's glyphs, or its refusal
abbrev pub file_reading : List ℕ → Result View Refusal
file_reading bytes = answered (file_number bytes) (view_of (words_of bytes))
