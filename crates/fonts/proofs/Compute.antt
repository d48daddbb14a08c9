-- All the definitions of this crate and of those below it, opened at once, so that a worked case computes: `unfolding computing`.
use Rattle.fonts.specs.Strike.{kerned_format, index_format, count_at, header_by, header_of, map_at, map_of, first_at, body_of, behind_body}
use Rattle.fonts.specs.Strike.{start_from, view_of, first_strike, strike_in, pointers_of, behind, widths_of}
use Rattle.fonts.specs.Entry.{name_of, name_in, marked, struck, present, columns_of, left_of, left_from_pen, advance_of}
use Rattle.fonts.specs.Reading.{too_short, bad_format, kerned_too_short, bad_codes, bad_count, bad_box, front_number}
use Rattle.fonts.specs.Reading.{bad_sizes, wrong_length, wrong_end, head_number, falls_from, bad_pointers, body_number, bodies_number}
use Rattle.fonts.specs.Reading.{pairs_in, lost, lost_at, nameless, no_dummy, table_number, number_by, font_number, accepted}
use Rattle.fonts.specs.Face.{in_range, picture_of, strike_named, entry_in, exists, place_of_code, glyph_by, glyph_from}
use Rattle.fonts.specs.Face.{dot_of, dots_of, face_from, face_of, row_of}
use Rattle.words.proofs.Compute.{computing as below}

unfoldable pub tables : Unit {0}
unfolding kerned_format index_format count_at header_by header_of map_at map_of first_at body_of behind_body start_from view_of
tables = tt

unfoldable pub strikes : Unit {0}
unfolding first_strike strike_in pointers_of behind widths_of
strikes = tt

unfoldable pub entries : Unit {0}
unfolding name_of name_in marked struck present columns_of left_of left_from_pen advance_of
entries = tt

unfoldable pub fronts : Unit {0}
unfolding too_short bad_format kerned_too_short bad_codes bad_count bad_box front_number
fronts = tt

unfoldable pub bodies : Unit {0}
unfolding bad_sizes wrong_length wrong_end head_number falls_from bad_pointers body_number bodies_number
bodies = tt

unfoldable pub numbers : Unit {0}
unfolding pairs_in lost lost_at nameless no_dummy table_number number_by font_number accepted
numbers = tt

unfoldable pub faces : Unit {0}
unfolding in_range picture_of strike_named entry_in exists place_of_code glyph_by glyph_from dot_of dots_of face_from face_of row_of
faces = tt

unfoldable pub computing : Unit {0}
unfolding below tables strikes entries fronts bodies numbers faces
computing = tt
