-- The definitions of this crate and of all below it, opened at once, so that a table computes: `unfolding computing`.
use Rattle.claims.specs.Cases.{sheet_from, done, small_cu, small_font}
use Rattle.claims.specs.Fonts.{shown, held, measured, painted_on, painted, gathered, printed}
use Rattle.claims.specs.Fonts.{plain_font, bare_font, empty_font, plain_wide, kerned_wide, kerned_right, kerned_bare}
use Rattle.claims.specs.Fonts.{wide_cu, wide_written, fixed_cu, fixed_written, spelt_cases, plain_cases, blob_cases, wide_cases}
use Rattle.claims.specs.Fonts.{written_cases}
use Rattle.claims.specs.Edges.{font, painted as paintedAt, gathered as gatheredAt}
use Rattle.claims.specs.Edges.{one_wide, fifteen_wide, sixteen_wide, seventeen_wide, thirty_three_wide, two_rows, on_sheets}
use Rattle.claims.specs.Limits.{plain_file, kerned_file, short_files, formats, code_limits, size_limits, box_limits, length_limits}
use Rattle.claims.specs.Limits.{pointer_limits, dummy_limits, unread, font_limits}
use Rattle.claims.specs.Limits.{shape_limits, slice_limits, label_limits, measure_limits, call_limits}
use Rattle.claims.specs.Limits.{one_dot, odd_limits, cu_size_limits, cu_count_limits, cu_limits}
use Rattle.claims.specs.Limits.{cu_code_limits, spacing_limits, drawing_limits, room_limits, writing_limits}
use Rattle.claims.specs.Limits.{beside, in_order, plain_flaws, kerned_flaws, paint_flaws, measure_flaws, painted_by, measured_by}
use Rattle.claims.specs.Limits.{label_order}
use Rattle.claims.specs.Limits.{cu_flaws, converted_by, printed_by, plan_flaws, planned_by, conversion_order}
use Rattle.claims.specs.Counts.{painted as paintedCounting, refused_painting, lost_painting, cleared, applied, spare_applied}
use Rattle.claims.specs.Counts.{count_limits, lit_dots}
use Rattle.claims.specs.Index.{drawn, dots, held_in, measured as measuredByIndex, spelt_measured, painted as paintedByIndex}
use Rattle.claims.specs.Index.{sheet_of, gathered as gatheredByIndex, applied as appliedByIndex}
use Rattle.claims.specs.Index.{speakers, bare_index, kerned_shared, small_index, plain_index, kerned_index, plain_two, kerned_two}
use Rattle.claims.specs.Index.{plain_pictures, plain_rows, plain_measures, across_bodies, shared_painted, on_sheets as onIndexSheets}
use Rattle.claims.specs.Index.{kerned_pictures, kerned_seen, kerned_painted, small_painted, limit_pictures, dot_limits, limit_seen}
use Rattle.claims.specs.Index.{front_limits, count_limits as bodyCounts, before_bodies, size_limits as bodySizes}
use Rattle.claims.specs.Index.{length_limits as bodyLengths, pointer_limits as bodyPointers, body_by_body, name_limits}
use Rattle.claims.specs.Index.{dummy_limits as mappedDummies, unread as unreadByIndex}
use Rattle.claims.specs.Index.{plain_flaws as plainIndexFlaws, kerned_flaws as kernedIndexFlaws, all_spoilt, from_each}
use Rattle.claims.specs.Index.{plain_order, kerned_order, call_order}
use Rattle.claims.specs.Index.{many_limits, many_seen, many_pictures, large_limits, large_dots, large_rows, counted, kerned_counted}
use Rattle.claims.specs.OneBody.{indexed, plain_pair, plain_pair_index, kerned_trio, kerned_trio_index, made_files, made_numbers, made_seen}
use Rattle.words.specs.Refusal.{numbered, refusal_of, answered}
use Rattle.counts.proofs.Compute.{computing as below}

-- replies
unfoldable pub replies : Unit {0}
unfolding numbered refusal_of answered
replies = tt

-- the worked cases
unfoldable pub worked_cases : Unit {0}
unfolding sheet_from done small_cu small_font
worked_cases = tt

-- plain and wide fonts
unfoldable pub fonts : Unit {0}
unfolding plain_font bare_font empty_font plain_wide kerned_wide kerned_right kerned_bare wide_cu wide_written fixed_cu fixed_written
fonts = tt

unfoldable pub seen : Unit {0}
unfolding shown held measured painted_on painted gathered printed
seen = tt

unfoldable pub font_tables : Unit {0}
unfolding spelt_cases plain_cases blob_cases wide_cases written_cases
font_tables = tt

-- the edges
unfoldable pub edge_tables : Unit {0}
unfolding font paintedAt gatheredAt one_wide fifteen_wide sixteen_wide seventeen_wide thirty_three_wide two_rows on_sheets
edge_tables = tt

-- the limits
unfoldable pub file_limits : Unit {0}
unfolding plain_file kerned_file short_files formats code_limits size_limits box_limits length_limits pointer_limits dummy_limits unread
    font_limits
file_limits = tt

unfoldable pub calls : Unit {0}
unfolding shape_limits slice_limits label_limits measure_limits call_limits
calls = tt

unfoldable pub conversions : Unit {0}
unfolding one_dot odd_limits cu_size_limits cu_count_limits cu_limits cu_code_limits spacing_limits drawing_limits room_limits
    writing_limits
conversions = tt

unfoldable pub label_flaws : Unit {0}
unfolding beside in_order plain_flaws kerned_flaws paint_flaws measure_flaws painted_by measured_by label_order
label_flaws = tt

unfoldable pub conversion_flaws : Unit {0}
unfolding cu_flaws converted_by printed_by plan_flaws planned_by conversion_order
conversion_flaws = tt

-- the counts
unfoldable pub count_tables : Unit {0}
unfolding paintedCounting refused_painting lost_painting cleared applied spare_applied count_limits lit_dots
count_tables = tt

-- fonts with an index
unfoldable pub index_fonts : Unit {0}
unfolding speakers bare_index kerned_shared small_index plain_index kerned_index plain_two kerned_two
index_fonts = tt

unfoldable pub index_seen : Unit {0}
unfolding drawn dots held_in measuredByIndex spelt_measured paintedByIndex sheet_of gatheredByIndex appliedByIndex
index_seen = tt

unfoldable pub index_tables : Unit {0}
unfolding plain_pictures plain_rows plain_measures across_bodies shared_painted onIndexSheets kerned_pictures kerned_seen kerned_painted
index_tables = tt

unfoldable pub index_limits : Unit {0}
unfolding front_limits bodyCounts before_bodies bodySizes bodyLengths bodyPointers body_by_body name_limits mappedDummies unreadByIndex
index_limits = tt

unfoldable pub index_at_limits : Unit {0}
unfolding small_painted limit_pictures dot_limits limit_seen counted kerned_counted
index_at_limits = tt

unfoldable pub large_indexes : Unit {0}
unfolding many_limits many_seen many_pictures large_limits large_dots large_rows
large_indexes = tt

unfoldable pub index_order : Unit {0}
unfolding plainIndexFlaws kernedIndexFlaws all_spoilt from_each plain_order kerned_order call_order
index_order = tt

unfoldable pub one_body : Unit {0}
unfolding indexed plain_pair plain_pair_index kerned_trio kerned_trio_index made_files made_numbers made_seen
one_body = tt

unfoldable pub index : Unit {0}
unfolding index_fonts index_seen index_tables index_limits index_at_limits large_indexes index_order one_body
index = tt

unfoldable pub computing : Unit {0}
unfolding below replies count_tables worked_cases fonts seen font_tables edge_tables file_limits calls conversions label_flaws
    conversion_flaws index
computing = tt
