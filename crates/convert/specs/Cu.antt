-- The CU file, its origin, boxes and dots: the paper's "The CU file and its conversion".
use Rattle.std.specs.Prelude.{ℕ, ◌+◌, ◌-◌, ◌*◌, ◌/◌, ◌%◌, Bool, cond, not, ◌&&◌, ◌||◌, List, [], ◌∷◌, ltb, eqb, length, set}
use Rattle.std.specs.Prelude.{Option, Some, None, Result}
use Rattle.words.specs.Word.{word, bit_of, table}
use Rattle.words.specs.Search.{some_below, first_below, last_below}
use Rattle.words.specs.declared.refusal.Refusal.{Refusal}
use Rattle.words.specs.Refusal.{first_of, not_within, answered}
use Rattle.convert.specs.declared.cu.Frame.{Frame}
use Rattle.convert.specs.declared.cu.Places.{Places}
use Rattle.convert.specs.declared.cu.Source.{Source}
use Rattle.convert.specs.Writing.{Drawing}

-- a table of places with one character more; none where its code is over 255 or was there before
abbrev pub placed_with : Places → ℕ → ℕ → Option Places
placed_with places code place =
    cond (ltb 255 code || ltb 0 (word places.table code)) None (Some (record { table = set places.table code place }))

-- where a code stands by a table, if it is there
abbrev pub place_in : List ℕ → ℕ → Option ℕ
place_in places c = cond (ltb 0 (word places c)) (Some (word places c)) None

module _ (ws : List ℕ) where
  -- "Word 0 is H, word 1 is WW"
  unfoldable pub rows : ℕ
  rows = word ws 0

  unfoldable pub row_words : ℕ
  row_words = word ws 1

  -- "then for each character a code, a width, and H × WW raster words"
  unfoldable pub char_words : ℕ
  char_words = 2 + rows * row_words

  unfoldable pub chars : ℕ
  chars = (length ws - 2) / char_words

  -- the place in the file of its k-th character, in the order of the file
  unfoldable pub char_at : ℕ → ℕ
  char_at k = 2 + k * char_words

  -- 20: "CU under 2 words, H not 1..128, WW not 1..16"
  unfoldable pub bad_size : Bool
  bad_size = ltb (length ws) 2 || not_within 1 128 rows || not_within 1 16 row_words

  -- 21: "CU words after the first two are no multiple of 2 + H × WW"
  unfoldable pub bad_count : Bool
  bad_count = ltb 0 ((length ws - 2) % char_words)

  -- 22: "a code over 255, or there twice"
  unfoldable pub bad_code : Bool
  bad_code =
      some_below chars (λ k. ltb 255 (word ws (char_at k)) || some_below k (λ i. eqb (word ws (char_at i)) (word ws (char_at k))))

  -- "Characters come in any order": a code's place among the first n characters, or 0, where H stands, for one that is not there
  unfoldable pub place_among : ℕ → ℕ → ℕ
  place_among n c = let k = first_below n (λ i. eqb (word ws (char_at i)) c) in cond (ltb k n) (char_at k) 0

  unfoldable pub code_place : ℕ → ℕ
  code_place = place_among chars

  -- "a table of 256 places, one for each code"
  unfoldable pub places_of : List ℕ
  places_of = table 256 code_place

  -- which is made only where no code is refused
  unfoldable pub placed_of : Option Places
  placed_of = cond bad_code None (Some (record { table = places_of }))

  -- the dot at row i, column j of the character at a place; "H × WW raster words, top row first"
  unfoldable pub raster_dot : ℕ → ℕ → ℕ → ℕ
  raster_dot place i j = bit_of (word ws (place + 2 + i * row_words + j / 16)) (j % 16)

  unfoldable pub width : ℕ
  width = 16 * row_words

  unfoldable pub dot_in_row : ℕ → ℕ → Bool
  dot_in_row place i = some_below width (λ j. eqb (raster_dot place i j) 1)

  unfoldable pub dot_in_column : ℕ → ℕ → Bool
  dot_in_column place j = some_below rows (λ i. eqb (raster_dot place i j) 1)

  unfoldable pub has_dot : ℕ → Bool
  has_dot place = some_below rows (dot_in_row place)

  -- 23: "no code 65 with a dot"
  unfoldable pub no_origin_at : ℕ → Bool
  no_origin_at place = not (ltb 0 place && has_dot place)

  unfoldable pub no_origin : Bool
  no_origin = no_origin_at (code_place 65)

  -- "the lowest row with a dot and the leftmost dot in that row"
  unfoldable pub lowest_of : ℕ → ℕ
  lowest_of place = last_below rows (dot_in_row place)

  unfoldable pub first_in_row : ℕ → ℕ → ℕ
  first_in_row place i = first_below width (λ j. eqb (raster_dot place i j) 1)

  -- a character's own box, in columns of the raster
  unfoldable pub left_of : ℕ → ℕ
  left_of place = first_below width (dot_in_column place)

  unfoldable pub right_of : ℕ → ℕ
  right_of place = last_below width (dot_in_column place)

  -- "Each picture is as wide as its own box"
  unfoldable pub columns_across : ℕ → ℕ
  columns_across place = cond (has_dot place) (right_of place - left_of place + 1) 0

  -- "Absent codes have no columns"
  unfoldable pub columns_at : ℕ → ℕ
  columns_at place = cond (ltb 0 place) (columns_across place) 0

  -- some character has a dot in a column of the raster, in a row of it
  unfoldable pub column_used : ℕ → Bool
  column_used j = some_below chars (λ k. dot_in_column (char_at k) j)

  unfoldable pub row_used : ℕ → Bool
  row_used i = some_below chars (λ k. dot_in_row (char_at k) i)

  -- "the box words cover the dots of all characters together", in columns and rows of the raster
  unfoldable pub leftmost : ℕ
  leftmost = first_below width column_used

  unfoldable pub rightmost : ℕ
  rightmost = last_below width column_used

  unfoldable pub top : ℕ
  top = first_below rows row_used

  unfoldable pub bottom : ℕ
  bottom = last_below rows row_used

  -- What all characters share, by the place of code 65. "The origin: in code 65, take the lowest row with a dot and the leftmost dot in
  -- that row, at row a and column b. In every character the dot at row i, column j is x = j - b, y = a - i." FBBox is the least x. The rows
  -- above the baseline are those from top to a, for y from the greatest down to 0; those below it go on to the bottom.
  unfoldable pub frame_from : ℕ → Frame
  frame_from place =
      let a = lowest_of place in
      let b = first_in_row place a in
      record {
        origin = b;
        left = leftmost;
        top = top;
        fbbox = (65536 + leftmost - b) % 65536;
        fbbdx = rightmost - leftmost + 1;
        ascent = a - top + 1;
        descent = bottom - a;
      }

  unfoldable pub frame_of : Frame
  frame_of = frame_from (code_place 65)

  unfoldable pub left_from : Frame → ℕ → ℕ
  left_from frame place = cond (has_dot place) (left_of place) frame.origin

  -- What is drawn for each code, by the frame and the places. "Spacing is the width word." BBox is the x of the box's left column, and "an
  -- empty character has BBox 0", which is column b.
  unfoldable pub drawing_from : Frame → List ℕ → Drawing
  drawing_from frame places =
      record {
        present = λ c. ltb 0 (word places c);
        spacing = λ c. word ws (word places c + 1);
        offset = λ c. left_from frame (word places c) - frame.left;
        columns = λ c. columns_across (word places c);
        dot = λ c row column. raster_dot (word places c) (frame.top + row) (left_of (word places c) + column);
        fbbox = frame.fbbox;
        fbbdx = frame.fbbdx;
        ascent = frame.ascent;
        descent = frame.descent;
      }

  -- the same, of what was read
  abbrev pub drawn : Source → Drawing
  drawn source = drawing_from source.frame source.places.table

  unfoldable pub drawing_of : Drawing
  drawing_of = drawing_from frame_of places_of

  -- the number of the file's refusal before its boxes are measured
  unfoldable pub cu_file_number : ℕ
  cu_file_number = first_of ((bad_size, 20) ∷ (bad_count, 21) ∷ (bad_code, 22) ∷ (no_origin, 23) ∷ [])

  -- what reading the file gives
  unfoldable pub source_of : Result Source Refusal
  source_of = answered cu_file_number (record { places = record { table = places_of }; frame = frame_of })
