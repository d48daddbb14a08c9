-- P3: a strike made into a font with an index that has one body. `proofs/OneBody` shows that it is accepted, and that every label by it is
-- the strike's.
use Rattle.std.specs.Prelude.{ℕ, ◌+◌, ◌-◌, ◌≤◌, ◌<◌, ◌≡◌, false, List, [], ◌∷◌, ◌++◌, pos, replicate, take, drop}
use Rattle.words.specs.Word.{word, table}
use Rattle.fonts.specs.declared.Glyph.{Glyph}
use Rattle.fonts.specs.Strike.{header_of, view_of, kerned, index, codes, first_at, body_of, first_strike, pointers_of}
use Rattle.fonts.specs.Reading.{font_number}
use Rattle.claims.specs.Cases.{ends, small_font}
use Rattle.claims.specs.Fonts.{Seen, replies, plain_font, bare_font}
use Rattle.claims.specs.Limits.{Row, reads}
use Rattle.claims.specs.Index.{small_index, measured, painted, leaves, tall, at_three}

-- the file that is made of a strike: "a strike without an index is one body, named by code - min"
unfoldable pub indexed : List ℕ → List ℕ
indexed ws =
    let h = header_of ws in
    let first = first_at h in
    let b = body_of ws first in
    -- "Format, from the top bit: always 1; 1 for an index; ..", and the words up to the body as they are
    ((word ws 0 + 16384) ∷ take (first - 1) (drop 1 ws))
    -- maxascent, maxdescent, "nStrikeBodies: the number of strike bodies"
    ++ ((b.ascent ∷ b.descent ∷ 1 ∷ [])
    -- "map ^ min,max+1 @mapEntry", where entry k is "missing bit" 0, "strike bit 7" 0 and "code byte" k
    ++ (table (codes h + 1) (λ k. k)
    -- the body, and in a kerned file the width entries behind it
    ++ drop first ws))

-- how many words later its body begins: maxascent, maxdescent, the number of bodies and n + 1 map entries
abbrev pub later : List ℕ → ℕ
later ws = codes (header_of ws) + 4

-- an accepted strike without an index
pub record Single (ws : List ℕ) : Type 0 where
  pub good : font_number ws ≡ 0
  pub single : index (header_of ws) ≡ false

-- A code byte is left for the dummy: the codes are any, but all from 0 to 255
abbrev pub Few : List ℕ → Type 0
Few ws = codes (header_of ws) ≤ 255

-- In a plain strike "equal pointers mean that c doesn't exist", and with an index they do not: here no code from min to max has them
abbrev pub NoneEqual : List ℕ → Type 0
NoneEqual ws =
    let pointers = pointers_of (first_strike (view_of ws)) ws in
    kerned (header_of ws) ≡ false → (k : ℕ) → k < codes (header_of ws) → word pointers k ≡ word pointers (k + 1) → ⊥

-- a picture whose bitmap begins so many words later
abbrev pub moved_by : ℕ → Glyph → Glyph
moved_by n g =
    record {
      bitmap = g.bitmap + n;
      raster = g.raster;
      first = g.first;
      columns = g.columns;
      ascent = g.ascent;
      height = g.height;
      place = g.place;
      advance = g.advance;
      substitute = g.substitute;
    }

-- By hand

-- A plain strike of the codes 0 and 1, two rows above the baseline and one below, and the file that is made of it.
--            0     1     the dummy
--   row 0   #.    ##.    #
--   row 1   .#    #.#    .
--   row 2   ##    .##    #
unfoldable pub plain_pair : List ℕ
plain_pair =
    0x8000 ∷ 0x0000 ∷ 0x0001 ∷ 0x0003
    ∷ 0x000C ∷ 0x0002 ∷ 0x0001 ∷ 0x0000 ∷ 0x0001
    ∷ 0xB400 ∷ 0x6800 ∷ 0xDC00
    ∷ 0x0000 ∷ 0x0002 ∷ 0x0005 ∷ 0x0006 ∷ []

unfoldable pub plain_pair_index : List ℕ
plain_pair_index =
    -- format, min, max, maxwidth; maxascent, maxdescent, one body; the map of 0, 1 and the dummy
    0xC000 ∷ 0x0000 ∷ 0x0001 ∷ 0x0003 ∷ 0x0002 ∷ 0x0001 ∷ 0x0001
    ∷ 0x0000 ∷ 0x0001 ∷ 0x0002
    ∷ 0x000C ∷ 0x0002 ∷ 0x0001 ∷ 0x0000 ∷ 0x0001
    ∷ 0xB400 ∷ 0x6800 ∷ 0xDC00
    ∷ 0x0000 ∷ 0x0002 ∷ 0x0005 ∷ 0x0006 ∷ []

-- A kerned strike of the codes 0 to 2, of which 1 is empty and 2 is absent, and the file that is made of it.
unfoldable pub kerned_trio : List ℕ
kerned_trio =
    0x9000 ∷ 0x0000 ∷ 0x0002 ∷ 0x0004 ∷ 0xFFFF ∷ 0x0000 ∷ 0x0003 ∷ 0x0001
    ∷ 0x000B ∷ 0x0001 ∷ 0x0000 ∷ 0x0000 ∷ 0x0001
    ∷ 0xD000
    ∷ 0x0000 ∷ 0x0003 ∷ 0x0003 ∷ 0x0003 ∷ 0x0004
    ∷ 0x0103 ∷ 0x0002 ∷ 0xFFFF ∷ 0x0004 ∷ []

unfoldable pub kerned_trio_index : List ℕ
kerned_trio_index =
    0xD000 ∷ 0x0000 ∷ 0x0002 ∷ 0x0004 ∷ 0xFFFF ∷ 0x0000 ∷ 0x0003 ∷ 0x0001 ∷ 0x0001 ∷ 0x0000 ∷ 0x0001
    ∷ 0x0000 ∷ 0x0001 ∷ 0x0002 ∷ 0x0003
    ∷ 0x000B ∷ 0x0001 ∷ 0x0000 ∷ 0x0000 ∷ 0x0001
    ∷ 0xD000
    ∷ 0x0000 ∷ 0x0003 ∷ 0x0003 ∷ 0x0003 ∷ 0x0004
    ∷ 0x0103 ∷ 0x0002 ∷ 0xFFFF ∷ 0x0004 ∷ []

unfoldable pub made_files : List (List ℕ × List ℕ)
made_files =
    (indexed plain_pair, plain_pair_index)
    ∷ (indexed kerned_trio, kerned_trio_index)
    -- the paper's small font, whose codes begin at 65
    ∷ (indexed small_font, small_index)
    ∷ []

-- a plain strike of the codes from min on, so many behind it, each without columns
abbrev pub bare_codes : ℕ → ℕ → List ℕ
bare_codes min more =
    0x8000 ∷ min ∷ (min + more) ∷ 0 ∷ (9 + more) ∷ 1 ∷ 0 ∷ 0 ∷ 1
    ∷ 0x8000
    ∷ replicate (3 + more) 0

unfoldable pub made_numbers : List Row
made_numbers =
    -- the strikes, and the files that are made of them
    reads plain_pair 0
    ∷ reads plain_pair_index 0
    ∷ reads kerned_trio 0
    ∷ reads kerned_trio_index 0
    -- strikes of the codes 0 to 254 and 0 to 255
    ∷ reads (bare_codes 0 254) 0
    ∷ reads (bare_codes 0 255) 0
    ∷ []

unfoldable pub made_seen : List (Seen × Seen)
made_seen =
    -- the codes 1 and 0 and the dummy, in the columns 10 to 15
    (
      painted tall plain_pair (at_three 0) (1 ∷ 0 ∷ 7 ∷ []) 0,
      leaves tall (pos 6) 1 ((20, 0x0035) ∷ (40, 0x002A) ∷ (60, 0x001F) ∷ []) 0,
    )
    ∷ (
      painted tall (indexed plain_pair) (at_three 0) (1 ∷ 0 ∷ 7 ∷ []) 0,
      leaves tall (pos 6) 1 ((20, 0x0035) ∷ (40, 0x002A) ∷ (60, 0x001F) ∷ []) 0,
    )
    -- kerned: 0; the empty 1; the absent 2; outside
    ∷ (measured kerned_trio (pos 0) (0 ∷ 1 ∷ 2 ∷ 3 ∷ []), replies (ends (pos 13) 2))
    ∷ (measured (indexed kerned_trio) (pos 0) (0 ∷ 1 ∷ 2 ∷ 3 ∷ []), replies (ends (pos 13) 2))
    -- Why no code of a plain strike may have equal pointers: 98 is absent, and with an index it is present, "draws nothing, moves by 0
    -- and is no substitute". By a strike whose dummy has four columns, and by one whose dummy has none
    ∷ (measured plain_font (pos 0) (98 ∷ []), replies (ends (pos 4) 1))
    ∷ (measured (indexed plain_font) (pos 0) (98 ∷ []), replies (ends (pos 0) 0))
    ∷ (measured bare_font (pos 0) (98 ∷ []), replies (ends (pos 0) 1))
    ∷ (measured (indexed bare_font) (pos 0) (98 ∷ []), replies (ends (pos 0) 0))
    ∷ []
