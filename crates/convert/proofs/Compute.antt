-- All the definitions of this crate and of those below it, opened at once, so that a worked case computes: `unfolding computing`.
use Rattle.convert.specs.Writing.{min_code, max_code, code_count, fbbdy, fbboy, columns_of, pointer_at, all_columns, pointer_word}
use Rattle.convert.specs.Writing.{raster_of, owner, strike_dot, bitmap_word, max_width, all_equal, format_word, width_entry, length_word}
use Rattle.convert.specs.Writing.{header_words, file_of, file_words, bad_spacing, bad_offset, too_large, no_room, drawing_number, layout_of}
use Rattle.convert.specs.Cu.{rows, row_words, char_words, chars, char_at, bad_size, bad_count, bad_code, place_among, code_place, places_of}
use Rattle.convert.specs.Cu.{placed_of, raster_dot, width, dot_in_row, dot_in_column, has_dot, no_origin_at, no_origin, lowest_of}
use Rattle.convert.specs.Cu.{first_in_row, left_of, right_of, columns_across, columns_at, column_used, row_used, leftmost, rightmost, top}
use Rattle.convert.specs.Cu.{bottom, frame_from, frame_of, left_from, drawing_from, drawing_of, cu_file_number, source_of}
use Rattle.convert.specs.Conversion.{cu_number, conversion_of, output_after, bytes_number, program_number, program_output}
use Rattle.fonts.proofs.Compute.{computing as below}

unfoldable pub computing : Unit {0}
unfolding below min_code max_code code_count fbbdy fbboy columns_of pointer_at all_columns pointer_word raster_of owner strike_dot
    bitmap_word max_width all_equal format_word width_entry length_word header_words file_of file_words bad_spacing bad_offset too_large
    no_room drawing_number layout_of rows row_words char_words chars char_at bad_size bad_count bad_code place_among code_place places_of
    placed_of raster_dot width dot_in_row dot_in_column has_dot no_origin_at no_origin lowest_of first_in_row left_of right_of
    columns_across columns_at column_used row_used leftmost rightmost top bottom frame_from frame_of left_from drawing_from drawing_of
    cu_file_number source_of cu_number conversion_of output_after bytes_number program_number program_output
computing = tt
