-- The KernedStrike file written from boxes and dots: the paper's "The file written". It does not ask where they come from.
use Rattle.std.specs.Prelude.{ℕ, ◌+◌, ◌-◌, ◌*◌, ◌/◌, ◌%◌, Bool, cond, not, ◌&&◌, ◌||◌, List, [], ◌∷◌, ◌++◌, ltb, eqb}
use Rattle.words.specs.Word.{word_of, table}
use Rattle.words.specs.Refusal.{first_of}
use Rattle.words.specs.Search.{some_below, first_below, last_below, sum_below, most_below}
use Rattle.convert.specs.declared.Layout.{Layout}

-- What is to be written. Each code from 0 to 255 is there or not; one that is there has its spacing, the columns of its own box, how far
-- that box lies right of the font's box (BBox - FBBox), and a dot for each row of the font's box and column of its own.
-- The font's box is given by the word FBBox, by FBBdx, and by its rows above and below the baseline.
pub record Drawing : Type 0 where
  pub present : ℕ → Bool
  pub spacing : ℕ → ℕ
  pub offset : ℕ → ℕ
  pub columns : ℕ → ℕ
  pub dot : ℕ → ℕ → ℕ → ℕ
  pub fbbox : ℕ
  pub fbbdx : ℕ
  pub ascent : ℕ
  pub descent : ℕ

module _ (d : Drawing) where
  -- "min and max are the least and greatest code present"
  unfoldable pub min_code : ℕ
  min_code = first_below 256 d.present

  unfoldable pub max_code : ℕ
  max_code = last_below 256 d.present

  unfoldable pub code_count : ℕ
  code_count = max_code - min_code + 1

  -- "ascent = FBBdy + FBBoy, descent = -FBBoy"
  unfoldable pub fbbdy : ℕ
  fbbdy = d.ascent + d.descent

  unfoldable pub fbboy : ℕ
  fbboy = (65536 - d.descent) % 65536

  -- "Absent codes have no columns"
  unfoldable pub columns_of : ℕ → ℕ
  columns_of c = cond (d.present c) (d.columns c) 0

  -- "all are packed without gaps in code order, first pointer 0": the first column of the k-th code from min on
  unfoldable pub pointer_at : ℕ → ℕ
  pointer_at k = sum_below k (λ i. columns_of (min_code + i))

  -- "The dummy is FBBdx columns": the last pointer
  unfoldable pub all_columns : ℕ
  all_columns = pointer_at code_count + d.fbbdx

  -- "n + 2 column pointers for min to max + 2": the last one is the dummy's right edge
  unfoldable pub pointer_word : ℕ → ℕ
  pointer_word k = cond (ltb code_count k) all_columns (pointer_at k)

  -- "Raster is the least that holds all columns"
  unfoldable pub raster_of : ℕ
  raster_of = (all_columns + 15) / 16

  -- the code, counted from min on, whose picture has a column of the strike
  unfoldable pub owner : ℕ → ℕ
  owner column = first_below code_count (λ k. ltb column (pointer_at (k + 1)))

  -- the dot of the strike in a row and column: of a picture; "the dummy is .. every dot set"; "unused bits are 0"
  unfoldable pub strike_dot : ℕ → ℕ → ℕ
  strike_dot row column =
      let k = owner column in
      cond (ltb k code_count) (d.dot (min_code + k) row (column - pointer_at k)) (cond (ltb column all_columns) 1 0)

  unfoldable pub bitmap_word : ℕ → ℕ
  bitmap_word i = word_of (λ j. strike_dot (i / raster_of) (16 * (i % raster_of) + j))

  -- "Maxwidth is the greatest spacing of a character in the file"
  unfoldable pub max_width : ℕ
  max_width = most_below 256 (λ c. cond (d.present c) (d.spacing c) 0)

  -- "fixed is 1 exactly when all these spacings are equal": none is other than the greatest
  unfoldable pub all_equal : Bool
  all_equal = not (some_below 256 (λ c. d.present c && not (eqb (d.spacing c) max_width)))

  -- "Format, from the top bit: always 1; 1 for an index; 1 for fixed spacing; 1 for kerned; twelve zero bits."
  unfoldable pub format_word : ℕ
  format_word = cond all_equal 0xB000 0x9000

  -- "the high byte is BBox - FBBox and the low byte is the spacing Wx"; "Absent codes have .. entry FFFF"; the dummy has "offset 0,
  -- spacing maxwidth". k counts codes from min on
  unfoldable pub width_entry : ℕ → ℕ
  width_entry k =
      let c = min_code + k in
      cond (eqb k code_count) max_width (cond (d.present c) (d.offset c * 256 + d.spacing c) 0xFFFF)

  -- "Length counts the body's words, itself included: raster × height + n + 7."
  unfoldable pub length_word : ℕ
  length_word = raster_of * fbbdy + code_count + 7

  unfoldable pub header_words : List ℕ
  header_words =
      format_word ∷ min_code ∷ max_code ∷ max_width ∷ d.fbbox ∷ fbboy ∷ d.fbbdx ∷ fbbdy
      ∷ length_word ∷ d.ascent ∷ d.descent ∷ 0 ∷ raster_of ∷ []

  unfoldable pub file_of : List ℕ
  file_of = header_words ++ table (raster_of * fbbdy) bitmap_word ++ table (code_count + 2) pointer_word ++ table (code_count + 1)
      width_entry

  -- "In all raster × height + 2n + 16 words."
  unfoldable pub file_words : ℕ
  file_words = raster_of * fbbdy + 2 * code_count + 16

  -- 24: "a spacing over 255, or offset and spacing both 255 (the entry would read as absent)"
  unfoldable pub bad_spacing : Bool
  bad_spacing =
      some_below 256 (λ c. d.present c && (ltb 255 (d.spacing c) || (eqb (d.spacing c) 255 && eqb (d.offset c) 255)))

  -- 25: "an offset over 255"
  unfoldable pub bad_offset : Bool
  bad_offset = some_below 256 (λ c. d.present c && ltb 255 (d.offset c))

  -- 26: "over 65,535 columns, or length over 65,535"
  unfoldable pub too_large : Bool
  too_large = ltb 65535 all_columns || ltb 65535 length_word

  -- 27: "output slice too short"
  unfoldable pub no_room : ℕ → Bool
  no_room room = ltb room file_words

  -- the number of its refusal, where the output has room for so many words
  unfoldable pub drawing_number : ℕ → ℕ
  drawing_number room = first_of ((bad_spacing, 24) ∷ (bad_offset, 25) ∷ (too_large, 26) ∷ (no_room room, 27) ∷ [])

  -- the numbers that the file is laid out by
  unfoldable pub layout_of : Layout
  layout_of =
      record {
        min = min_code;
        max = max_code;
        codes = code_count;
        columns = all_columns;
        raster = raster_of;
        rows = fbbdy;
      }
