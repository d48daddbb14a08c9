-- "One row of a strike may be asked for": an accepted font, a body that is there and a row below its height give exactly raster words,
-- those of the file from that row on, and never the empty part; all else gives the empty part.
use Prim.Native.Nat.{ℕ, zero, suc, ◌+◌, ◌*◌, ◌<◌, ◌≤◌}
use mathlib.Core.Path.{◌≡◌, refl, ap, ◌∙◌}
use mathlib.Core.Bool.{Bool, true, false, cond, ◌&&◌}
use mathlib.Core.List.{List, []}
use native.Mathlib.Omega.{arith}
use lib.Dec.{ltb, eqb}
use lib.ListN.{length, take, drop, length-drop}
use lib.Seq.{length-take-le, get_or-take, get_or-drop}
use borrow.Author.Tests.{eqb-true, ltb-true, lt-ltb, le-ltb, ne_eqb}
use Rattle.words.specs.Word.{word}
use Rattle.words.proofs.Rows.{row_room}
use Rattle.fonts.specs.declared.Strike.{Strike}
use Rattle.fonts.specs.Strike.{header_of, view_of, height, bitmap_words, start_from, strike_at, strike_in, first_strike, no_strike}
use Rattle.fonts.specs.Strike.{body_start}
use Rattle.fonts.specs.Reading.{font_number, accepted}
use Rattle.fonts.specs.Face.{row_of}
use Rattle.fonts.proofs.Accepted.{accepted-body}

-- a body that is there begins where the walk over the bodies finds it
pub strike-there : (ws : List ℕ) (k : ℕ) → k < (header_of ws).bodies
    → strike_in (view_of ws) ws k ≡ strike_at ws (body_start (header_of ws) ws k)
unfolding strike_in first_strike view_of start_from
strike-there ws zero less = refl
strike-there ws (suc k) less = rw (ne_eqb (suc k) 0 (λ e. omega arith), lt-ltb (suc k) (header_of ws).bodies less)

-- and one that is not has no rows
pub strike-gone : (ws : List ℕ) (k : ℕ) → 1 ≤ k → (header_of ws).bodies ≤ k → strike_in (view_of ws) ws k ≡ no_strike
unfolding strike_in view_of
strike-gone ws zero some past = absurd (omega arith)
strike-gone ws (suc k) some past = rw (ne_eqb (suc k) 0 (λ e. omega arith), le-ltb (suc k) (header_of ws).bodies past)

module _ (ws : List ℕ) (k r : ℕ) where
  abbrev s : Strike
  s = strike_in (view_of ws) ws k

  abbrev raster : ℕ
  raster = s.body.raster

  abbrev start : ℕ
  start = s.bitmap + r * raster

  module _ (good : font_number ws ≡ 0) (there : k < (header_of ws).bodies) (below : r < height s.body) where
    row_is : row_of ws k r ≡ take raster (drop start ws)
    unfolding row_of accepted
    row_is = rw (good, lt-ltb r (height s.body) below)

    in-file : s.bitmap + bitmap_words s.body + 2 ≤ length ws
    in-file =
        rw (strike-there ws k there)
        (let sound = accepted-body ws good k there in
        let long = sound.long in
        let end = sound.within in
        omega (arith, long, end))

    room : raster ≤ length (drop start ws)
    room =
        let row = row_room r (height s.body) raster (bitmap_words s.body) below (omega arith) in
        let end = in-file in
        let rest = length-drop start ws in
        omega (arith, row, end, rest)

    -- exactly raster words, of which there is one at least
    pub row-length : length (row_of ws k r) ≡ raster
    row-length = ap length row_is ∙ length-take-le raster (drop start ws) room

    pub row-not-empty : 1 ≤ length (row_of ws k r)
    row-not-empty =
        let long = row-length in
        let same = ap (λ (t : Strike). t.body.raster) (strike-there ws k there) in
        let some = (accepted-body ws good k there).some in
        omega (arith, long, same, some)

    -- those of the file from that row on
    pub row_word : (i : ℕ) → i < raster → word (row_of ws k r) i ≡ word ws (start + i)
    row_word i less =
        ap (λ (part : List ℕ). word part i) row_is ∙ get_or-take raster (drop start ws) i 0 less ∙ get_or-drop start ws i 0

  -- a refused font, or a row at or past height
  pub no_row : (font_number ws ≡ 0 → r < height s.body → ⊥) → row_of ws k r ≡ []
  unfolding row_of accepted
  no_row none = by_tests (eqb (font_number ws) 0) (ltb r (height s.body)) refl refl
    where
      by_tests : (p t : Bool) → eqb (font_number ws) 0 ≡ p → ltb r (height s.body) ≡ t
          → cond (p && t) (take raster (drop start ws)) [] ≡ []
      by_tests true true e f = absurd (none (eqb-true (font_number ws) 0 e) (ltb-true r (height s.body) f))
      by_tests true false e f = refl
      by_tests false t e f = refl

-- "A row call names a body; one not there gives the empty part": the two old kinds have body 0 and no other
pub no-body : (ws : List ℕ) (k r : ℕ) → 1 ≤ k → (header_of ws).bodies ≤ k → row_of ws k r ≡ []
no-body ws k r some past =
    no_row ws k r
    (λ good below. let gone = ap (λ (s : Strike). height s.body) (strike-gone ws k some past) in omega (arith, below, gone))
