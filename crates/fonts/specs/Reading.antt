-- What a font file is refused for: the paper's "Numbers returned", 1 to 7, and P3's 15 and 16.
use Rattle.std.specs.Prelude.{ℕ, zero, suc, ◌+◌, ◌-◌, ◌*◌, ◌%◌, ◌<◌, ◌≤◌, min, Bool, false, cond, not, ◌&&◌, ◌||◌, List, [], ◌∷◌, ltb, leb}
use Rattle.std.specs.Prelude.{eqb, length}
use Rattle.words.specs.Word.{word, bit_of, table, over}
use Rattle.words.specs.Search.{some_below}
use Rattle.words.specs.Refusal.{first_of, or_else, not_within, answered}
use Rattle.words.specs.Place.{place_of_word}
use Rattle.fonts.specs.declared.Header.{Header}
use Rattle.fonts.specs.declared.Body.{Body}
use Rattle.fonts.specs.declared.View.{View}
use Rattle.fonts.specs.declared.Name.{Name}
use Rattle.std.specs.declared.result.Result.{Result}
use Rattle.words.specs.declared.refusal.Refusal.{Refusal}
use Rattle.fonts.specs.Strike.{header_of, view_of, kerned, index, codes, height, bitmap_words, pointer_count, first_at, behind, body_of}
use Rattle.fonts.specs.Strike.{body_start, strike_at, pointers_of, widths_of}
use Rattle.fonts.specs.Entry.{name_of, name_in, marked}

-- 1: "fewer than 9 words"
unfoldable pub too_short : ℕ → Bool
too_short count = ltb count 9

-- 2: "top bit 0 .. or low twelve bits not zero"; "the index bit alone is no longer refused 2"
unfoldable pub bad_format : Header → Bool
bad_format h = eqb (bit_of h.format 0) 0 || ltb 0 (h.format % 4096)

-- 1 again: "after 2 is passed, kerned and fewer than 13"
unfoldable pub kerned_too_short : Header → ℕ → Bool
kerned_too_short h count = kerned h && ltb count 13

-- 3: "min > max, or max > 255"
unfoldable pub bad_codes : Header → Bool
bad_codes h = ltb h.max h.min || ltb 255 h.max

-- 15: "a body count not 1..128"; a strike without an index has one
unfoldable pub bad_count : Header → Bool
bad_count h = not_within 1 128 h.bodies

-- 4: "kerned and FBBox not -255..255"; a place counts from 2048 below zero
unfoldable pub bad_box : Header → Bool
bad_box h = kerned h && not_within 1793 2303 (place_of_word h.fbbox)

-- 1, 2, 3 and 15, then "1 where the words before the bodies aren't all there", and 4 for FBBox, which is the font's
unfoldable pub front_number : Header → ℕ → ℕ
front_number h count =
    first_of
    ((too_short count, 1)
    ∷ (bad_format h, 2)
    ∷ (kerned_too_short h count, 1)
    ∷ (bad_codes h, 3)
    ∷ (bad_count h, 15)
    ∷ (ltb count (first_at h), 1)
    ∷ (bad_box h, 4)
    ∷ [])

-- 4: "height not 1..256, raster not 1..4096, xoffset not 0"
unfoldable pub bad_sizes : Body → Bool
bad_sizes b = not_within 1 256 (height b) || not_within 1 4096 b.raster || ltb 0 b.xoffset

-- 5: "length word .. differs from the sums above", raster × height + n + 7; with an index it leaves at least two pointers
unfoldable pub wrong_length : Header → Body → Bool
wrong_length h b = cond (index h) (ltb b.words (bitmap_words b + 7)) (not (eqb b.words (bitmap_words b + 7 + codes h)))

-- 5: "for words too few or, after the last, left over": of the words that a body ends before, and of those that belong behind the last
unfoldable pub wrong_end : Header → ℕ → Bool → ℕ → Bool
wrong_end h end last count = cond last (not (eqb count (end + behind h))) (ltb count end)

-- 4 and 5, which the head of the body that begins with word `at` and the number of words decide; "its five words not all there is 5"
unfoldable pub head_number : Header → Body → ℕ → Bool → ℕ → ℕ
head_number h b at last count =
    first_of
    ((ltb count (at + 5), 5) ∷ (bad_sizes b, 4) ∷ (wrong_length h b, 5) ∷ (wrong_end h (at + b.words) last count, 5) ∷ [])

-- some pointer is smaller than the one before, and the first than `before`
unfoldable pub falls_from : ℕ → List ℕ → Bool
falls_from before [] = false
falls_from before (p ∷ pointers) = ltb p before || falls_from p pointers

-- 6: "a pointer smaller than the one before, or the last over 16 × raster"
unfoldable pub bad_pointers : Body → List ℕ → Bool
bad_pointers b pointers = falls_from 0 pointers || ltb (16 * b.raster) (word pointers (length pointers - 1))

unfoldable pub body_number : Header → List ℕ → ℕ → Bool → ℕ
body_number h ws at last =
    or_else (head_number h (body_of ws at) at last (length ws))
    (first_of ((bad_pointers (body_of ws at) (pointers_of (strike_at ws at) ws), 6) ∷ []))

-- "then 4, 5 and 6 for the bodies in turn", of the first n
unfoldable pub bodies_number : Header → List ℕ → ℕ → ℕ
bodies_number h ws zero = 0
bodies_number h ws (suc k) = or_else (bodies_number h ws k) (body_number h ws (body_start h ws k) (eqb (suc k) h.bodies))

-- how many pointers body k has; none where it is not there
unfoldable pub pairs_in : Header → List ℕ → ℕ → ℕ
pairs_in h ws k = cond (ltb k h.bodies) (pointer_count (body_of ws (body_start h ws k))) 0

-- the same as a table
unfoldable pub pairs_of : Header → List ℕ → List ℕ
pairs_of h ws = over (min 128 h.bodies) (λ k. pointer_count (body_of ws (body_start h ws k))) (table 128 (λ k. 0))

-- each of the first n bodies has so many pointers or more
abbrev pub EachHas : Header → List ℕ → ℕ → ℕ → Type 0
EachHas h ws n fewest = (k : ℕ) → k < n → fewest ≤ pointer_count (body_of ws (body_start h ws k))

-- every entry of a map names one of so many bodies, and a picture that a body of so many pointers has
abbrev pub NamesWithin : List ℕ → ℕ → ℕ → Type 0
NamesWithin map bodies fewest = (k : ℕ) → k < length map
    → ((name_of (word map k)).body < bodies) × ((name_of (word map k)).code + 1 < fewest)

-- 16: "a present map entry that names no body or no column pair in it": code + 1 is not the place of one of so many pointers
unfoldable pub lost : Header → Name → ℕ → ℕ → Bool
lost h name width pointers = not (marked h name.missing width) && leb pointers (name.code + 1)

unfoldable pub lost_at : Header → List ℕ → ℕ → Bool
lost_at h ws k = let name = name_in h ws k in lost h name (word (widths_of h ws) k) (pairs_in h ws name.body)

unfoldable pub nameless : Header → List ℕ → Bool
nameless h ws = index h && some_below (codes h + 1) (lost_at h ws)

-- 7: "no dummy: kerned entry FFFF". P1: "7 stays for kerned files only"; P3: "7 where the map's dummy is absent"
unfoldable pub no_dummy : Header → List ℕ → Bool
no_dummy h ws = marked h (name_in h ws (codes h)).missing (word (widths_of h ws) (codes h))

-- 16, "after 6", and 7
unfoldable pub table_number : Header → List ℕ → ℕ
table_number h ws = first_of ((nameless h ws, 16) ∷ (no_dummy h ws, 7) ∷ [])

-- the number of a font file's refusal, 0 where it is accepted: by its header, and the file's own
unfoldable pub number_by : Header → List ℕ → ℕ
number_by h ws = or_else (front_number h (length ws)) (or_else (bodies_number h ws h.bodies) (table_number h ws))

unfoldable pub font_number : List ℕ → ℕ
font_number ws = number_by (header_of ws) ws

unfoldable pub accepted : List ℕ → Bool
accepted ws = eqb (font_number ws) 0

-- what reading answers: what finds the font's glyphs, or its refusal
abbrev pub reading_of : List ℕ → Result View Refusal
reading_of ws = answered (font_number ws) (view_of ws)
