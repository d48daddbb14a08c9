-- What an accepted CU file promises: the inverse of refusals 20 to 27.
use Prim.Native.Nat.{ℕ, ◌-◌, ◌%◌, ◌<◌, ◌≤◌}
use mathlib.Core.Path.{◌≡◌}
use mathlib.Core.Bool.{true, false, ◌||◌}
use mathlib.Core.List.{List}
use native.Mathlib.Omega.{arith}
use lib.Dec.{ltb}
use lib.ListN.{length}
use borrow.Author.Tests.{ltb-true, ltb-false, not-false}
use Rattle.words.specs.Refusal.{first_of, not_within}
use Rattle.words.proofs.Search.{last-le}
use Rattle.words.proofs.Passed.{neither, both, passed, within, stages-passed}
use Rattle.convert.specs.Writing.{Drawing, bad_spacing, bad_offset, too_large, no_room, drawing_number, fbbdy, file_words}
use Rattle.convert.specs.Cu.{rows, row_words, char_words, bad_size, bad_count, bad_code, no_origin, no_origin_at, code_place, has_dot}
use Rattle.convert.specs.Cu.{dot_in_row, row_used, lowest_of, bottom, frame_of, frame_from, drawing_of, drawing_from, cu_file_number}
use Rattle.convert.specs.Conversion.{cu_number}

-- what a file promises that 20 to 23 do not refuse
pub record GoodFile (ws : List ℕ) : Type 0 where
  pub long : 2 ≤ length ws
  pub some-rows : 1 ≤ rows ws
  pub few-rows : rows ws ≤ 128
  pub some_words : 1 ≤ row_words ws
  pub few_words : row_words ws ≤ 16
  pub whole : (length ws - 2) % char_words ws ≡ 0
  pub codes : bad_code ws ≡ false
  pub origin : 0 < code_place ws 65
  pub dotted : has_dot ws (code_place ws 65) ≡ true

pub good-file : (ws : List ℕ) → cu_file_number ws ≡ 0 → GoodFile ws
unfolding cu_file_number first_of bad_size bad_count no_origin no_origin_at
good-file ws e =
    let twenty = passed (bad_size ws) 20 _ (omega arith) e in
    let twenty-one = passed (bad_count ws) 21 _ (omega arith) twenty.1 in
    let twenty-two = passed (bad_code ws) 22 _ (omega arith) twenty-one.1 in
    let twenty-three = passed (no_origin ws) 23 _ (omega arith) twenty-two.1 in
    let sizes = neither (ltb (length ws) 2 || not_within 1 128 (rows ws)) (not_within 1 16 (row_words ws)) twenty.0 in
    let words-rows = neither (ltb (length ws) 2) (not_within 1 128 (rows ws)) sizes.0 in
    let down = within 1 128 (rows ws) words-rows.1 in
    let across = within 1 16 (row_words ws) sizes.1 in
    let left_over : (length ws - 2) % char_words ws ≤ 0 = ltb-false 0 _ twenty-one.0 in
    let letter = both (ltb 0 (code_place ws 65)) (has_dot ws (code_place ws 65)) (not-false _ twenty-three.0) in
    record {
      long = ltb-false (length ws) 2 words-rows.0;
      some-rows = down.0;
      few-rows = down.1;
      some_words = across.0;
      few_words = across.1;
      whole = omega arith;
      codes = twenty-two.0;
      origin = ltb-true 0 (code_place ws 65) letter.0;
      dotted = letter.1;
    }

-- what a drawing promises that 24 to 27 do not refuse
pub record GoodDrawing (d : Drawing) (room : ℕ) : Type 0 where
  pub spacings : bad_spacing d ≡ false
  pub offsets : bad_offset d ≡ false
  pub fits : too_large d ≡ false
  pub has_room : file_words d ≤ room

pub good-drawing : (d : Drawing) (room : ℕ) → drawing_number d room ≡ 0 → GoodDrawing d room
unfolding drawing_number first_of no_room
good-drawing d room e =
    let twenty-four = passed (bad_spacing d) 24 _ (omega arith) e in
    let twenty-five = passed (bad_offset d) 25 _ (omega arith) twenty-four.1 in
    let twenty-six = passed (too_large d) 26 _ (omega arith) twenty-five.1 in
    let twenty-seven = passed (no_room d room) 27 _ (omega arith) twenty-six.1 in
    record {
      spacings = twenty-four.0;
      offsets = twenty-five.0;
      fits = twenty-six.0;
      has_room = ltb-false room (file_words d) twenty-seven.0;
    }

module _ (ws : List ℕ) where
  module _ (room : ℕ) (e : cu_number ws room ≡ 0) where
    pub accepted-file : GoodFile ws
    unfolding cu_number
    accepted-file = good-file ws (stages-passed (cu_file_number ws) (drawing_number (drawing_of ws) room) e).0

    pub accepted-drawing : GoodDrawing (drawing_of ws) room
    unfolding cu_number
    accepted-drawing = good-drawing (drawing_of ws) room (stages-passed (cu_file_number ws) (drawing_number (drawing_of ws) room) e).1

  -- the font's box has no more rows than the raster, except for the one that it always has
  pub rows_upto : (most : ℕ) → 1 ≤ most → rows ws ≤ most → fbbdy (drawing_of ws) ≤ most
  unfolding fbbdy drawing_of drawing_from frame_of frame_from lowest_of bottom
  rows_upto most some few =
      let a = last-le (dot_in_row ws (code_place ws 65)) (rows ws) in
      let last = last-le (row_used ws) (rows ws) in
      omega arith

  pub rows-small : cu_file_number ws ≡ 0 → fbbdy (drawing_of ws) ≤ 256
  rows-small e = let few = (good-file ws e).few-rows in rows_upto 256 (omega arith) (omega arith)
