-- All the definitions of this crate and of those below it, opened at once, so that a worked case computes: `unfolding computing`.
use Rattle.paint.specs.Panel.{bad_sides, bad_shape, some_short, bad_panel, panel_number}
use Rattle.paint.specs.Pen.{pen_after, pen_along, stroke_of, in_strip, dot_along, mark, mask_from, mask_at, picture_effect, label_effect}
use Rattle.paint.specs.Sheet.{lengths, written}
use Rattle.paint.specs.Label.{label_number, number_with, call_number, last_pen, reply_with, reply_of, effect_with}
use Rattle.paint.specs.Label.{paint_with, paint_after, join_with, measure_number, number_after, measure_with, measure_for}
use Rattle.fontbytes.specs.File.{file_number}
use Rattle.convert.proofs.Compute.{computing as below}

unfoldable pub drawing : Unit {0}
unfolding pen_after pen_along stroke_of in_strip dot_along mark mask_from mask_at picture_effect label_effect
drawing = tt

unfoldable pub numbers : Unit {0}
unfolding bad_sides bad_shape some_short bad_panel panel_number label_number number_with call_number measure_number number_after file_number
numbers = tt

unfoldable pub replies : Unit {0}
unfolding last_pen reply_with reply_of effect_with paint_with paint_after join_with measure_with measure_for
replies = tt

unfoldable pub computing : Unit {0}
unfolding below drawing numbers replies lengths written
computing = tt
