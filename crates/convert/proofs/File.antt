-- What stands at each word of the file written.
use Prim.Native.Nat.{ℕ, ◌+◌, ◌*◌, ◌<◌}
use mathlib.Core.Path.{◌≡◌, refl, ◌∙◌}
use mathlib.Core.List.{List, ◌++◌}
use native.Mathlib.Omega.{arith}
use lib.ListN.{length}
use Rattle.words.specs.Word.{word, table}
use Rattle.words.proofs.Tables.{table-length, table_at, joined_length, joined-first, joined-second}
use Rattle.convert.specs.Writing.{Drawing, code_count, fbbdy, raster_of, bitmap_word, pointer_word, width_entry, header_words, file_of}
use Rattle.convert.specs.Writing.{file_words}

module _ (d : Drawing) where
  abbrev bitmap : List ℕ
  bitmap = table (raster_of d * fbbdy d) (bitmap_word d)

  abbrev pub pointers_written : List ℕ
  pointers_written = table (code_count d + 2) (pointer_word d)

  abbrev pub widths_written : List ℕ
  widths_written = table (code_count d + 1) (width_entry d)

  -- where each part ends
  header-end : length (header_words d) ≡ 13
  unfolding header_words
  header-end = refl

  bitmap-end : length (header_words d ++ bitmap) ≡ 13 + raster_of d * fbbdy d
  bitmap-end = joined_length (header_words d) bitmap 13 header-end _ (table-length _ (bitmap_word d))

  pointers-end : length (header_words d ++ bitmap ++ pointers_written) ≡ 13 + raster_of d * fbbdy d + (code_count d + 2)
  pointers-end = joined_length (header_words d ++ bitmap) pointers_written _ bitmap-end _ (table-length _ (pointer_word d))

  widths-end : length (file_of d) ≡ 13 + raster_of d * fbbdy d + (code_count d + 2) + (code_count d + 1)
  unfolding file_of
  widths-end = joined_length (header_words d ++ bitmap ++ pointers_written) widths_written _ pointers-end _ (table-length _ (width_entry d))

  pub file-length : length (file_of d) ≡ file_words d
  unfolding file_words
  file-length = let sum = widths-end in omega arith

  -- the words before the last table, before the last two, and before the last three
  before-widths : (i : ℕ) → i < 13 + raster_of d * fbbdy d + (code_count d + 2)
      → word (file_of d) i ≡ word (header_words d ++ bitmap ++ pointers_written) i
  unfolding file_of
  before-widths i h = joined-first (header_words d ++ bitmap ++ pointers_written) widths_written _ pointers-end i h

  before-pointers : (i : ℕ) → i < 13 + raster_of d * fbbdy d → word (file_of d) i ≡ word (header_words d ++ bitmap) i
  before-pointers i h = before-widths i (omega arith) ∙ joined-first (header_words d ++ bitmap) pointers_written _ bitmap-end i h

  pub file-header : (i : ℕ) → i < 13 → word (file_of d) i ≡ word (header_words d) i
  file-header i h = before-pointers i (omega arith) ∙ joined-first (header_words d) bitmap 13 header-end i h

  -- the bitmap begins at word 13, the pointers behind it, and the width entries behind them
  pub file-bitmap : (i : ℕ) → i < raster_of d * fbbdy d → word (file_of d) (13 + i) ≡ bitmap_word d i
  file-bitmap i h =
      before-pointers (13 + i) (omega arith)
      ∙ joined-second (header_words d) bitmap 13 header-end i
      ∙ table_at (raster_of d * fbbdy d) (bitmap_word d) i h

  pub file-pointer : (k : ℕ) → k < code_count d + 2 → word (file_of d) (13 + raster_of d * fbbdy d + k) ≡ pointer_word d k
  file-pointer k h =
      before-widths (13 + raster_of d * fbbdy d + k) (omega arith)
      ∙ joined-second (header_words d ++ bitmap) pointers_written _ bitmap-end k
      ∙ table_at (code_count d + 2) (pointer_word d) k h

  pub file-entry : (k : ℕ) → k < code_count d + 1 → word (file_of d) (13 + raster_of d * fbbdy d + (code_count d + 2) + k) ≡ width_entry d k
  unfolding file_of
  file-entry k h =
      joined-second (header_words d ++ bitmap ++ pointers_written) widths_written _ pointers-end k
      ∙ table_at (code_count d + 1) (width_entry d) k h
