-- What the tables of a font say of a code: the paper's "The Strike files", a picture, plain and kerned, and P3's map.
use Rattle.std.specs.Prelude.{ℕ, ◌+◌, ◌-◌, ◌/◌, ◌%◌, Bool, false, cond, not, ◌&&◌, ◌||◌, List, eqb, ℤ, pos, ◌+ℤ◌}
use Rattle.words.specs.Word.{word, bit_of}
use Rattle.words.specs.Place.{place_of_word, signed_word}
use Rattle.fonts.specs.declared.Header.{Header}
use Rattle.fonts.specs.declared.Name.{Name}
use Rattle.fonts.specs.declared.Entry.{Entry}
use Rattle.fonts.specs.Strike.{kerned, index, map_of}

-- "missing bit 1; strike bit 7, which strike, a number in the range [0:127]; code byte, which character code in that strike"
unfoldable pub name_of : ℕ → Name
name_of entry = record { missing = eqb (bit_of entry 0) 1; body = entry / 256 % 128; code = entry % 256 }

-- at k for the code min + k: what the map names; "a strike without an index is one body, named by code - min"
unfoldable pub name_in : Header → List ℕ → ℕ → Name
name_in h ws k = cond (index h) (name_of (word (map_of h ws) k)) (record { missing = false; body = 0; code = k })

-- "A picture is the columns from pointer(c) up to, and without, pointer(c + 1)", and a width entry
abbrev pub entry_with : List ℕ → ℕ → ℕ → Entry
entry_with pointers code width = record { left = word pointers code; right = word pointers (code + 1); width = width }

-- what the two tables of a strike without an index say at one place
abbrev pub entry_at : List ℕ → List ℕ → ℕ → Entry
entry_at pointers widths k = entry_with pointers k (word widths k)

-- P3: "a code absent where the map's sign bit is set, and in kerned ones also where the width entry is FFFF"
unfoldable pub marked : Header → Bool → ℕ → Bool
marked h missing width = missing || (kerned h && eqb width 0xFFFF)

-- Without an index, kerned: "entry FFFF means that c doesn't exist"; plain: "equal pointers mean that c doesn't exist"
unfoldable pub struck : Header → Entry → Bool
struck h e = cond (kerned h) (not (eqb e.width 0xFFFF)) (not (eqb e.left e.right))

-- With an index "a present plain entry with equal pointers .. is no substitute"
unfoldable pub present : Header → Bool → Entry → Bool
present h missing e = cond (index h) (not (marked h missing e.width)) (struck h e)

-- "the picture's width"; 0 where the pointers fall, which 6 refuses
unfoldable pub columns_of : Entry → ℕ
columns_of e = e.right - e.left

-- "the left column goes to pen + FBBox + offset"; plain: "to the pen". "the high byte is BBox - FBBox"
unfoldable pub left_of : Header → Entry → ℕ
left_of h e = cond (kerned h) (place_of_word h.fbbox + e.width / 256) 2048

-- the same from the pen on, in whole numbers with a sign: FBBox + offset; plain, 0. "FBBox and FBBoy are two's complement"
unfoldable pub left_from_pen : Header → Entry → ℤ
left_from_pen h e = cond (kerned h) (signed_word h.fbbox +ℤ pos (e.width / 256)) (pos 0)

-- "the pen moves by Wx"; plain: "by the picture's width". "the low byte is the spacing Wx"
unfoldable pub advance_of : Header → Entry → ℕ
advance_of h e = cond (kerned h) (e.width % 256) (columns_of e)
