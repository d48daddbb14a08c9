-- P2: calls with counts and what they leave, worked out by hand from the paper's small font. On its panel a strip has 4 columns and 3 rows,
-- so that its count is 0 to 12. B, code 66 at x = 1, has a dot in rows 1 and 2 of the strip's column 0; C2 has 5 dots.
use Rattle.std.specs.Prelude.{ℕ, Bool, true, false, List, [], ◌∷◌, ◌++◌, ℤ, pos, replicate, set}
use Rattle.paint.specs.declared.Shape.{Shape}
use Rattle.counts.specs.Lit.{Counted, lit, some_over, leaves}
use Rattle.counts.specs.Calls.{PanelCall, painting, applying, clearing}
use Rattle.claims.specs.Cases.{shape, words, zeros, label, sheet_from}

-- thirty-two counts: these, and 0 for the other strips
abbrev pub counts : List (ℕ × ℕ) → List ℕ
counts [] = replicate 32 0
counts (c ∷ cs) = set (counts cs) c.0 c.1

-- A call on a panel with counts. What it does without counts stands beside it, its number and the panel it leaves, so that a row is
-- computed in two steps; then what it leaves with them.
pub record Row : Type 0 where
  pub shape : Shape
  pub call : PanelCall
  pub panel : List ℕ
  pub counts : List ℕ
  pub own : ℕ
  pub after : List ℕ
  pub left : Counted

abbrev pub row : Shape → PanelCall → List ℕ → List ℕ → ℕ → List ℕ → Counted → Row
row s call panel counts own after left =
    record { shape = s; call = call; panel = panel; counts = counts; own = own; after = after; left = left }

-- done: the panel that it leaves without counts, and the counts
abbrev pub does : Shape → PanelCall → List ℕ → List ℕ → List ℕ → List ℕ → Row
does s call panel given after new = row s call panel given 0 after (record { number = 0; panel = after; counts = new })

-- refused 30, though without counts it would leave that panel; and refused by a number of its own
abbrev pub refused30 : Shape → PanelCall → List ℕ → List ℕ → List ℕ → Row
refused30 s call panel given after = row s call panel given 0 after (record { number = 30; panel = panel; counts = given })

abbrev pub refused_by : ℕ → Shape → PanelCall → List ℕ → List ℕ → Row
refused_by number s call panel given = row s call panel given number panel (record { number = number; panel = panel; counts = given })

abbrev pub c2 : List ℕ
c2 = words ((7, 0x0002) ∷ (15, 0x000D) ∷ (23, 0x0008) ∷ []) 0

-- one dot lit: row 0, the last column of strip 31
abbrev pub one_dot : List ℕ
one_dot = words ((7, 0x0001) ∷ []) 0

-- B's two dots, lit
abbrev pub b : List ℕ
b = words ((15, 0x0008) ∷ (23, 0x0008) ∷ []) 0

abbrev pub paint_of : ℕ → ℤ → ℕ → List ℕ → PanelCall
paint_of strip x mode codes = painting (label strip x mode codes)

abbrev pub b_by : ℕ → PanelCall
b_by mode = paint_of 31 (pos 1) mode (66 ∷ [])

abbrev pub c2_painted : PanelCall
c2_painted = paint_of 31 (pos 1) 0 (66 ∷ 65 ∷ [])

-- painting
unfoldable pub painted : List Row
painted =
    -- C2: five dots are gained; once more: none is
    does shape c2_painted zeros (counts []) c2 (counts ((31, 5) ∷ []))
    ∷ does shape c2_painted c2 (counts ((31, 5) ∷ [])) c2 (counts ((31, 5) ∷ []))
    -- C3: refused 9 hands back the counts given
    ∷ refused_by 9 shape (paint_of 32 (pos 1) 0 (66 ∷ 65 ∷ [])) zeros (counts ((3, 7) ∷ []))
    -- C4: the dummy lights all twelve dots, of which one is lit
    ∷ does shape (paint_of 31 (pos 1) 0 (67 ∷ [])) one_dot (counts ((31, 1) ∷ []))
    (words ((7, 0x000F) ∷ (15, 0x000F) ∷ (23, 0x000F) ∷ []) 0) (counts ((31, 12) ∷ []))
    -- C5 in strip 30: only that strip's count moves
    ∷ does shape (paint_of 30 (pos 3) 0 (65 ∷ [])) zeros (counts ((29, 12) ∷ (31, 4) ∷ []))
    (words ((15, 0x0010) ∷ []) 0) (counts ((29, 12) ∷ (30, 1) ∷ (31, 4) ∷ []))
    -- C7, "count 12 of 12 on an empty strip, Invert 66 66: accepted, 12": it is judged at the end of the call
    ∷ does shape (paint_of 31 (pos 1) 2 (66 ∷ 66 ∷ [])) zeros (counts ((31, 12) ∷ [])) zeros (counts ((31, 12) ∷ []))
    ∷ []

unfoldable pub refused_painting : List Row
refused_painting =
    -- "13 of 12 in another strip: 30", also for an empty label
    refused30 shape (b_by 0) zeros (counts ((0, 13) ∷ [])) b
    ∷ refused30 shape (paint_of 31 (pos 1) 0 []) zeros (counts ((30, 13) ∷ [])) zeros
    ∷ does shape (paint_of 31 (pos 1) 0 []) zeros (counts ((30, 12) ∷ [])) zeros (counts ((30, 12) ∷ []))
    -- two dots more: 10 becomes 12, and 11 would become 13
    ∷ does shape (b_by 0) zeros (counts ((31, 10) ∷ [])) b (counts ((31, 12) ∷ []))
    ∷ refused30 shape (b_by 0) zeros (counts ((31, 11) ∷ [])) b
    -- 30 stands after 12, and after 8
    ∷ refused_by 12 shape (b_by 3) zeros (counts ((31, 13) ∷ []))
    ∷ refused_by 8 shape (b_by 0) [] (counts ((31, 13) ∷ []))
    ∷ []

-- two dots fewer, by Erase and by Invert: 2 becomes 0, and 1 would leave 0
unfoldable pub lost_painting : List Row
lost_painting =
    does shape (b_by 1) b (counts ((31, 2) ∷ [])) zeros (counts [])
    ∷ refused30 shape (b_by 1) b (counts ((31, 1) ∷ [])) zeros
    ∷ does shape (b_by 2) b (counts ((31, 2) ∷ [])) zeros (counts [])
    ∷ refused30 shape (b_by 2) b (counts ((31, 1) ∷ [])) zeros
    ∷ []

-- clearing: "One dot lit and count 0: refused 30. One dot lit and count 2: accepted, 1."
unfoldable pub cleared : List Row
cleared =
    refused30 shape clearing one_dot (counts []) zeros
    ∷ does shape clearing one_dot (counts ((31, 1) ∷ [])) zeros (counts [])
    ∷ does shape clearing one_dot (counts ((31, 2) ∷ [])) zeros (counts ((31, 1) ∷ []))
    -- a count over the strip's dots refuses, also in a strip that has none lit
    ∷ refused30 shape clearing one_dot (counts ((31, 1) ∷ (4, 13) ∷ [])) zeros
    ∷ does shape clearing one_dot (counts ((31, 1) ∷ (4, 12) ∷ [])) zeros (counts ((4, 12) ∷ []))
    -- "its first R × H words become 0": the word behind them stays
    ∷ does shape clearing (c2 ++ (0xABCD ∷ [])) (counts ((31, 5) ∷ [])) (zeros ++ (0xABCD ∷ [])) (counts [])
    -- 8, and before 30
    ∷ refused_by 8 shape clearing [] (counts ((31, 13) ∷ []))
    ∷ []

-- applying: the sheet of C2, on an empty panel and onto B, whose two dots are lit already
unfoldable pub applied : List Row
applied =
    let sheet = sheet_from (label 31 (pos 1) 0 (66 ∷ 65 ∷ []) ∷ []) in
    does shape (applying sheet) zeros (counts []) c2 (counts ((31, 5) ∷ []))
    ∷ does shape (applying sheet) b (counts ((31, 2) ∷ [])) c2 (counts ((31, 5) ∷ []))
    ∷ refused30 shape (applying sheet) b (counts ((31, 10) ∷ [])) c2
    ∷ []

-- all dots of a panel of 9 words lit, whose last word no strip has: "dots in columns of no strip are counted nowhere"
abbrev pub spare : Shape
spare = record { rowwords = 9; rows = 1; width = 4 }

abbrev pub all_lit : PanelCall
all_lit = applying (record { keep = replicate 9 0; flip = replicate 9 0xFFFF })

unfoldable pub spare_applied : List Row
spare_applied =
    does spare all_lit (replicate 9 0) (counts []) (replicate 9 0xFFFF) (replicate 32 4)
    ∷ refused30 spare all_lit (replicate 9 0) (counts ((17, 1) ∷ [])) (replicate 9 0xFFFF)
    ∷ does spare all_lit (replicate 8 0xFFFF ++ (0 ∷ [])) (replicate 32 4) (replicate 9 0xFFFF) (replicate 32 4)
    -- 8, and before 30
    ∷ refused_by 8 spare all_lit (replicate 8 0) (counts ((0, 5) ∷ []))
    ∷ []

-- the limits of a count, on this panel and on the largest, whose strips have 64 × 256 dots
abbrev pub largest : Shape
largest = record { rowwords = 128; rows = 256; width = 64 }

unfoldable pub count_limits : List (Bool × Bool)
count_limits =
    (some_over shape (counts ((0, 12) ∷ (31, 12) ∷ [])), false)
    ∷ (some_over shape (counts ((0, 13) ∷ [])), true)
    ∷ (some_over shape (counts ((31, 13) ∷ [])), true)
    ∷ (some_over largest (counts ((0, 16384) ∷ (31, 16384) ∷ [])), false)
    ∷ (some_over largest (counts ((0, 16385) ∷ [])), true)
    ∷ (some_over largest (counts ((31, 4294967295) ∷ [])), true)
    -- old, gained and lost, of at most 12
    ∷ (leaves 12 0 0 0, false)
    ∷ (leaves 12 0 12 0, false)
    ∷ (leaves 12 0 13 0, true)
    ∷ (leaves 12 12 0 12, false)
    ∷ (leaves 12 12 0 13, true)
    ∷ (leaves 12 12 5 5, false)
    ∷ (leaves 12 12 5 4, true)
    ∷ (leaves 12 0 5 6, true)
    ∷ []

-- the lit dots of some strips: neighbours in one word, a strip across two words, the first and the last
unfoldable pub lit_dots : List (ℕ × ℕ)
lit_dots =
    (lit shape 31 c2, 5)
    ∷ (lit shape 30 c2, 0)
    ∷ (lit shape 0 (words ((0, 0xF000) ∷ []) 0), 4)
    ∷ (lit shape 1 (words ((0, 0xF000) ∷ []) 0), 0)
    ∷ (lit (record { rowwords = 6; rows = 1; width = 3 }) 5 (0x0001 ∷ 0xC000 ∷ 0 ∷ 0 ∷ 0 ∷ 0 ∷ []), 3)
    ∷ (lit (record { rowwords = 6; rows = 1; width = 3 }) 4 (0x0001 ∷ 0xC000 ∷ 0 ∷ 0 ∷ 0 ∷ 0 ∷ []), 0)
    ∷ (lit (record { rowwords = 6; rows = 1; width = 3 }) 6 (0x0001 ∷ 0xE000 ∷ 0 ∷ 0 ∷ 0 ∷ 0 ∷ []), 1)
    ∷ []
