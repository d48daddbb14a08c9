-- All the definitions of this crate and of those below it, opened at once, so that a table computes: `unfolding computing`.
use Rattle.sheets.specs.Sheet.{fresh_number, fresh_after, join_number, join_after, apply_number, apply_after, gather_reply, gather_after}
use Rattle.sheets.specs.Sheet.{clear_number, clear_after, SameSheet}
use Rattle.sheets.specs.Calls.{paint_all, paint_replies, gather_all, gather_replies, of_strip, replies_for}
use Rattle.paint.proofs.Compute.{computing as below}

unfoldable pub calls : Unit {0}
unfolding fresh_number fresh_after join_number join_after apply_number apply_after clear_number clear_after gather_reply gather_after
    SameSheet
calls = tt

unfoldable pub computing : Unit {0}
unfolding below calls paint_all paint_replies gather_all gather_replies of_strip replies_for
computing = tt
