-- The layout of a strike file of the four kinds: the paper's "The Strike files", its first half, and P3 by the memo's section 7.2.
use Rattle.std.specs.Prelude.{ℕ, zero, suc, ◌+◌, ◌-◌, ◌*◌, min, max, Bool, cond, List, eqb, ltb, length, take, drop}
use Rattle.words.specs.Word.{word, bit_of, table, over}
use Rattle.words.specs.Search.{most_below}
use Rattle.fonts.specs.declared.Header.{Header}
use Rattle.fonts.specs.declared.Body.{Body}
use Rattle.fonts.specs.declared.Strike.{Strike}
use Rattle.fonts.specs.declared.View.{View}
use Rattle.fonts.specs.declared.Extent.{Extent}

-- "Format, from the top bit: always 1; 1 for an index; 1 for fixed spacing; 1 for kerned; twelve zero bits."
unfoldable pub kerned_format : ℕ → Bool
kerned_format format = eqb (bit_of format 3) 1

unfoldable pub index_format : ℕ → Bool
index_format format = eqb (bit_of format 1) 1

-- "nStrikeBodies: the number of strike bodies", behind maxascent and maxdescent: word 6; kerned, behind the four box words too, word 10
unfoldable pub count_at : ℕ → ℕ
count_at format = cond (kerned_format format) 10 6

-- "0 format; 1 min; 2 max; 3 maxwidth; 4 FBBox; .."; "PlainStrike has no words 4 to 7". A strike without an index is one body
unfoldable pub header_by : ℕ → ℕ → ℕ → ℕ → ℕ → Header
header_by format min max fifth count =
    record {
      format = format;
      min = min;
      max = max;
      fbbox = cond (kerned_format format) fifth 0;
      bodies = cond (index_format format) count 1;
    }

unfoldable pub header_of : List ℕ → Header
header_of ws = header_by (word ws 0) (word ws 1) (word ws 2) (word ws 4) (word ws (count_at (word ws 0)))

abbrev pub kerned : Header → Bool
kerned h = kerned_format h.format

abbrev pub index : Header → Bool
index h = index_format h.format

-- "Let n = max - min + 1 and height = ascent + descent."
abbrev pub codes : Header → ℕ
codes h = h.max - h.min + 1

abbrev pub height : Body → ℕ
height b = b.ascent + b.descent

-- what two words can say at most: a height, and a bitmap of that height
abbrev pub tallest : ℕ
tallest = 131070

abbrev pub largest : ℕ
largest = 8589672450

-- "map ^ min,max+1 @mapEntry": n + 1 entries behind the number of bodies
unfoldable pub map_at : Header → ℕ
map_at h = cond (kerned h) 11 7

unfoldable pub map_of : Header → List ℕ → List ℕ
map_of h ws = take (codes h + 1) (drop (map_at h) ws)

-- where the first body begins: behind the map; without one behind the header, and in a kerned file behind the four box words too
unfoldable pub first_at : Header → ℕ
first_at h = cond (index h) (map_at h + codes h + 1) (cond (kerned h) 8 4)

-- ".. 8 length; 9 ascent; 10 descent; 11 xoffset; 12 raster", where the body begins with word 8
unfoldable pub body_of : List ℕ → ℕ → Body
body_of ws at =
    record {
      words = word ws at;
      ascent = word ws (at + 1);
      descent = word ws (at + 2);
      xoffset = word ws (at + 3);
      raster = word ws (at + 4);
    }

-- "Length counts the body's words, itself included": the next body begins behind them
unfoldable pub behind_body : List ℕ → ℕ → ℕ
behind_body ws at = at + word ws at

-- "bodies ^ 1,nStrikeBodies @StrikeBody": where body k begins, counted from 0, by where the first does
unfoldable pub start_from : ℕ → List ℕ → ℕ → ℕ
start_from first ws zero = first
start_from first ws (suc k) = behind_body ws (start_from first ws k)

abbrev pub body_start : Header → List ℕ → ℕ → ℕ
body_start h ws k = start_from (first_at h) ws k

unfoldable pub view_of : List ℕ → View
view_of ws = record { header = header_of ws; body = body_of ws (first_at (header_of ws)) }

-- the first body's bitmap begins behind its five words, and so does every other body's; one that is not there has no words
unfoldable pub first_strike : View → Strike
first_strike v = record { bitmap = first_at v.header + 5; body = v.body }

abbrev pub no_body : Body
no_body = record { words = 0; ascent = 0; descent = 0; xoffset = 0; raster = 0 }

abbrev pub no_strike : Strike
no_strike = record { bitmap = 5; body = no_body }

abbrev pub strike_at : List ℕ → ℕ → Strike
strike_at ws at = record { bitmap = at + 5; body = body_of ws at }

unfoldable pub strike_in : View → List ℕ → ℕ → Strike
strike_in v ws k =
    cond (eqb k 0) (first_strike v) (cond (ltb k v.header.bodies) (strike_at ws (body_start v.header ws k)) no_strike)

-- where the bitmap of body k begins
abbrev pub bitmap_start : Header → List ℕ → ℕ → ℕ
bitmap_start h ws k = body_start h ws k + 5

-- the same by a table of where the bitmaps begin, which is made once: 128 numbers, 5 for a body that is not there
unfoldable pub bitmaps_of : Header → List ℕ → List ℕ
bitmaps_of h ws = over (min 128 h.bodies) (λ k. body_start h ws k + 5) (table 128 (λ k. 5))

unfoldable pub strike_by : View → List ℕ → List ℕ → ℕ → Strike
strike_by v bitmaps ws k =
    cond (eqb k 0) (first_strike v)
    (cond (ltb k v.header.bodies) (record { bitmap = word bitmaps k; body = body_of ws (word bitmaps k - 5) }) no_strike)

-- "the bitmap, raster × height words"
abbrev pub bitmap_words : Body → ℕ
bitmap_words b = b.raster * height b

-- P3: "its pointers are what its length word leaves after five words and the bitmap": the part of the file that begins after the bitmap
abbrev pub pointer_count : Body → ℕ
pointer_count b = b.words - (bitmap_words b + 5)

unfoldable pub pointers_of : Strike → List ℕ → List ℕ
pointers_of s ws = take (pointer_count s.body) (drop (s.bitmap + bitmap_words s.body) ws)

-- "then n + 1 width entries for min to max + 1": nothing stands behind them, so they are the last words of a kerned file; a plain one has
-- none
unfoldable pub behind : Header → ℕ
behind h = cond (kerned h) (codes h + 1) 0

unfoldable pub widths_of : Header → List ℕ → List ℕ
widths_of h ws = take (codes h + 1) (drop (length ws - (codes h + 1)) ws)

-- the rows that some body has above the baseline, and below: the first, and the others
unfoldable pub extent_of : View → List ℕ → Extent
extent_of v ws =
    let others : ℕ → Body = λ k. body_of ws (body_start v.header ws (suc k)) in
    let more = v.header.bodies - 1 in
    record {
      above = max v.body.ascent (most_below more (λ k. (others k).ascent));
      below = max v.body.descent (most_below more (λ k. (others k).descent));
    }
