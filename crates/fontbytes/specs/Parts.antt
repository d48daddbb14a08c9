-- The tables of a strike file as parts of its bytes: two bytes for each word of the tables that the font reader defines.
use Rattle.std.specs.Prelude.{ℕ, ◌+◌, ◌-◌, ◌*◌, ◌/◌, cond, List, length, take, drop}
use Rattle.fonts.specs.declared.Header.{Header}
use Rattle.fonts.specs.declared.Strike.{Strike}
use Rattle.fonts.specs.declared.Entry.{Entry}
use Rattle.words.specs.Word.{words_of}
use Rattle.fonts.specs.Strike.{kerned, codes, map_at, bitmap_words, pointer_count}
use Rattle.fonts.specs.Entry.{entry_at}

-- the column pointers of a body, in bytes
unfoldable pub pointer_bytes : Strike → List ℕ → List ℕ
pointer_bytes s bytes = take (2 * pointer_count s.body) (drop (2 * (s.bitmap + bitmap_words s.body)) bytes)

-- "then n + 1 width entries", in bytes
unfoldable pub width_bytes : Header → List ℕ → List ℕ
width_bytes h bytes = take (2 * (codes h + 1)) (drop (2 * (length bytes / 2 - (codes h + 1))) bytes)

-- the map, in bytes
unfoldable pub map_bytes : Header → List ℕ → List ℕ
map_bytes h bytes = take (2 * (codes h + 1)) (drop (2 * map_at h) bytes)

-- what the two tables of a font without an index say at k, where they are bytes
abbrev pub spelt : List ℕ → List ℕ → ℕ → Entry
spelt pointers widths k = entry_at (words_of pointers) (words_of widths) k

-- of an entry what a step of the pen asks for: kerned, the width entry; plain, the two pointers
unfoldable pub for_step : Header → Entry → Entry
for_step h e =
    cond (kerned h)
    (record { left = 0; right = 0; width = e.width })
    (record { left = e.left; right = e.right; width = 0 })
