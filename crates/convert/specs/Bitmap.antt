-- How the bitmap comes to be, picture after picture: what the functions that put them say of a lent bitmap.
use Rattle.std.specs.Prelude.{ℕ, ◌+◌, ◌-◌, ◌*◌, ◌/◌, ◌%◌, cond, ◌&&◌, List, leb, ltb, eqb}
use Rattle.words.specs.Word.{word, bit_of, word_of, put_bit}
use Rattle.convert.specs.declared.cu.Frame.{Frame}
use Rattle.convert.specs.declared.Picture.{Picture}
use Rattle.convert.specs.declared.Picture.TheVariants.{Raster, Block, Blank}
use Rattle.convert.specs.Cu.{raster_dot, left_of}

-- the dot of a picture in a row and column
unfoldable pub picture_dot : List ℕ → Picture → ℕ → ℕ → ℕ
picture_dot ws (Raster place top left) row column = raster_dot ws place (top + row) (left + column)
picture_dot ws Block row column = 1
picture_dot ws Blank row column = 0

-- the picture of the character at a place
unfoldable pub raster_at : List ℕ → Frame → ℕ → Picture
raster_at ws frame place = Raster place frame.top (left_of ws place)

-- word i of the bitmap after one column of a picture has been put into column `at` of the strike
unfoldable pub column_word : List ℕ → Picture → ℕ → ℕ → ℕ → List ℕ → ℕ → ℕ
column_word ws picture column at raster bitmap i =
    cond (eqb (i % raster) (at / 16)) (put_bit (word bitmap i) (at % 16) (picture_dot ws picture (i / raster) column)) (word bitmap i)

-- the same after all columns of a picture have been put, the first into column `at`: dot j of word i
unfoldable pub picture_bit : List ℕ → Picture → ℕ → ℕ → ℕ → List ℕ → ℕ → ℕ → ℕ
picture_bit ws picture columns at raster bitmap i j =
    let column = 16 * (i % raster) + j in
    cond (leb at column && ltb column (at + columns)) (picture_dot ws picture (i / raster) (column - at)) (bit_of (word bitmap i) j)

unfoldable pub picture_word : List ℕ → Picture → ℕ → ℕ → ℕ → List ℕ → ℕ → ℕ
picture_word ws picture columns at raster bitmap i = word_of (picture_bit ws picture columns at raster bitmap i)
