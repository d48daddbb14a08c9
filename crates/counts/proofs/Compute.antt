-- All the definitions of this crate and of those below it, opened at once, so that a table computes: `unfolding computing`.
use Rattle.counts.specs.Lit.{over_dots, lit, area, gained, lost, some_over, leaves, some_leaves, count_number, new_counts, counted_of}
use Rattle.counts.specs.Calls.{plain_number, plain_after, plain_all, plain_numbers, counted_all, panel_after_all, counts_after_all}
use Rattle.counts.specs.Calls.{own_answers}
use Rattle.words.specs.Search.{sum_below, some_below}
use Rattle.paint.specs.Rule.{panel_dot}
use Rattle.sheets.proofs.Compute.{computing as below}

unfoldable pub counting : Unit {0}
unfolding over_dots lit area gained lost some_over leaves some_leaves count_number new_counts counted_of sum_below some_below panel_dot
counting = tt

unfoldable pub computing : Unit {0}
unfolding below counting plain_number plain_after plain_all plain_numbers counted_all panel_after_all counts_after_all own_answers
computing = tt
