-- `preview::picture::picture` is empty where 8 refuses the shape, and else the header and the rows.
use mathlib.Core.Path.{sym, ◌∙◌}
use lib.ListN.{length}
use native.Mathlib.Omega.{arith}
use Rattle.reading.proofs.Counting.{prefix_len_of_le}
use Rattle.preview.proofs.Putting.{put-none, first_counted}
use Rattle.preview.proofs.Pictures.{no-picture, a-picture, few_words}
use Rattle.preview.proofs.picture.picture.Goals as goal
use Rattle.preview.proofs.picture.picture.Goals.{After-bad_panel}

pub returns-then-bad_panel : goal.returns-then-bad_panel
returns-then-bad_panel c =
    let none = no-picture c.args.s c.args.panel.now (sym c.bad_panel.ensures ∙ c.if-bad_panel.true) in
    record { put = rw none (put-none 0 c.args.printed.now); room = prefix_len_of_le 0 c.args.printed.now (omega arith) }

pub put_picture-requires : goal.put_picture-requires
put_picture-requires c = record {
  s_in_bounds =
      few_words c.args.s (length c.args.panel.now) (sym c.bad_panel.ensures ∙ c.if-bad_panel.false);
  picture_bytes_in_bounds = omega arith;
}

pub returns : goal.returns
returns c =
    let whole = a-picture c.args.s c.args.panel.now (sym c.bad_panel.ensures ∙ c.if-bad_panel.false) in
    let put = rw (← whole) at c.put_picture.ensures in
    record { put = put; room = prefix_len_of_le c.put_picture.result c.put_picture.new.out (first_counted put) }
