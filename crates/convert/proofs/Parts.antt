-- The file written as the reader takes it apart: its view, its one body, its pointers and its width entries.
use Prim.Native.Nat.{ℕ, ◌+◌, ◌-◌, ◌*◌, ◌<◌, ◌≤◌}
use mathlib.Core.Path.{◌≡◌, refl, ◌∙◌}
use mathlib.Core.Bool.{Bool, true, false, cond}
use native.Mathlib.Omega.{arith}
use lib.ListN.{length}
use borrow.Author.Tests.{lt-ltb, le-ltb, eq-eqb, ne_eqb}
use Rattle.words.specs.Word.{word, bit_of}
use Rattle.words.proofs.Tables.{table_at, part-table}
use Rattle.fonts.specs.declared.Header.{Header}
use Rattle.fonts.specs.declared.Body.{Body}
use Rattle.fonts.specs.declared.Strike.{Strike}
use Rattle.fonts.specs.declared.View.{View}
use Rattle.fonts.specs.Strike.{kerned_format, index_format, count_at, header_by, header_of, view_of}
use Rattle.fonts.specs.Strike.{first_at, body_of, first_strike, pointer_count, pointers_of, widths_of}
use Rattle.convert.specs.Writing.{Drawing, min_code, max_code, code_count, fbbdy, raster_of, pointer_at, all_columns, all_equal}
use Rattle.convert.specs.Writing.{format_word, max_width, length_word, pointer_word, width_entry, header_words, file_of, file_words}
use Rattle.convert.proofs.File.{pointers_written, widths_written, file-length, file-pointer, file-entry}

module _ (d : Drawing) where
  -- what holds of the format with fixed spacing and without holds of the file's
  pub of_format : (P : ℕ → Type 0) → P 0xB000 → P 0x9000 → P (format_word d)
  unfolding format_word
  of_format P fixed other = either (all_equal d)
    where
      either : (t : Bool) → P (cond t 0xB000 0x9000)
      either true = fixed
      either false = other

  pub format-kerned : kerned_format (format_word d) ≡ true
  unfolding kerned_format bit_of
  format-kerned = of_format (λ f. kerned_format f ≡ true) refl refl

  -- the reader finds no index, and so one body
  pub format-single : index_format (format_word d) ≡ false
  unfolding index_format bit_of
  format-single = of_format (λ f. index_format f ≡ false) refl refl

  abbrev pub header_written : Header
  header_written = record {
    format = format_word d;
    min = min_code d;
    max = max_code d;
    fbbox = d.fbbox;
    bodies = 1;
  }

  abbrev pub body_written : Body
  body_written = record {
    words = length_word d;
    ascent = d.ascent;
    descent = d.descent;
    xoffset = 0;
    raster = raster_of d;
  }

  abbrev pub view_written : View
  view_written = record { header = header_written; body = body_written }

  abbrev pub strike_written : Strike
  strike_written = record { bitmap = 13; body = body_written }

  pub header_read : header_of (file_of d) ≡ header_written
  unfolding header_of header_by count_at file_of header_words
  header_read = rw (format-kerned, format-single)

  -- its body begins behind the four box words
  pub body-start : first_at header_written ≡ 8
  unfolding first_at
  body-start = rw (format-single, format-kerned)

  pub body-read : body_of (file_of d) 8 ≡ body_written
  unfolding body_of file_of header_words
  body-read = refl

  pub view-read : view_of (file_of d) ≡ view_written
  unfolding view_of
  view-read = rw (header_read, body-start, body-read)

  pub first-strike : first_strike view_written ≡ strike_written
  unfolding first_strike
  first-strike = rw body-start

  -- what the length word leaves behind the bitmap: n + 2 pointers
  pointers-counted : pointer_count body_written ≡ code_count d + 2
  unfolding length_word fbbdy
  pointers-counted = omega arith

  pub pointers-read : pointers_of strike_written (file_of d) ≡ pointers_written d
  unfolding pointers_of fbbdy file_words
  pointers-read =
      let long = file-length d in
      rw pointers-counted
      (part-table (file_of d) (13 + raster_of d * fbbdy d) (code_count d + 2) (pointer_word d) (omega arith) (file-pointer d))

  -- the last n + 1 words stand behind the pointers
  widths-start : length (file_of d) - (code_count d + 1) ≡ 13 + raster_of d * fbbdy d + (code_count d + 2)
  unfolding file_words
  widths-start = let long = file-length d in omega arith

  pub widths-read : widths_of header_written (file_of d) ≡ widths_written d
  unfolding widths_of code_count file_words
  widths-read =
      let long = file-length d in
      rw widths-start
      (part-table (file_of d) (13 + raster_of d * fbbdy d + (code_count d + 2)) (code_count d + 1) (width_entry d) (omega arith)
      (file-entry d))

  -- ---- the tables, word by word

  pub pointer-at : (k : ℕ) → k ≤ code_count d → word (pointers_written d) k ≡ pointer_at d k
  unfolding pointer_word
  pointer-at k h = table_at (code_count d + 2) (pointer_word d) k (omega arith) ∙ rw (le-ltb (code_count d) k h)

  pub pointer-end : word (pointers_written d) (code_count d + 1) ≡ all_columns d
  unfolding pointer_word
  pointer-end = table_at (code_count d + 2) (pointer_word d) (code_count d + 1) (omega arith)
      ∙ rw (lt-ltb (code_count d) (code_count d + 1) (omega arith))

  pub entry-at : (k : ℕ) → k < code_count d
      → word (widths_written d) k ≡ cond (d.present (min_code d + k)) (d.offset (min_code d + k) * 256 + d.spacing (min_code d + k)) 0xFFFF
  unfolding width_entry
  entry-at k h =
      table_at (code_count d + 1) (width_entry d) k (omega arith) ∙ rw (ne_eqb k (code_count d) (λ e. omega arith))

  pub entry-dummy : word (widths_written d) (code_count d) ≡ max_width d
  unfolding width_entry
  entry-dummy = table_at (code_count d + 1) (width_entry d) (code_count d) (omega arith) ∙ rw (eq-eqb (code_count d) (code_count d) refl)
