-- `replay::label_calls::put_reply` puts zeros for a refused call.
use borrow.Author.Rules.{rules}
use mir.Syntax.{w32}
use mir.Facts.{to_z-of_z}
use Rattle.replay.specs.Calls.{reply_bytes}
use Rattle.replay.proofs.label_calls.put_reply.Goals as goal

pub returns-in-Ok : goal.returns-in-Ok
unfolding reply_bytes
returns-in-Ok g c =
    let pen = to_z-of_z {w = w32} {z = c.in-Ok.finish.pen} (search rules) in
    rw c.in-Ok.is (rw pen at c.put_numbers.ensures)

pub returns-in-Err : goal.returns-in-Err
unfolding reply_bytes
returns-in-Err g c = rw c.in-Err.is (rw c.number.ensures at c.put_numbers-in-Err.ensures)
