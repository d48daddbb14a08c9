use Rattle.std.proofs.Common.{ap}
use Rattle.reading.specs.declared.ReadFailed.{ReadFailed}
use Rattle.preview.proofs.Taking.{read-in-part, read_whole}
use Rattle.preview.proofs.painting.paint_lines.Goals as goal

pub returns-in-Err : goal.returns-in-Err
returns-in-Err g c = read-in-part _ _ _ _ _ c.loop.invariant c.in-Err.failed c.in-Err.ensures.failed

pub returns-then-count-eq0 : goal.returns-then-count-eq0
returns-then-count-eq0 g c = read_whole _ _ _ _ _ c.loop.invariant _ _ _ c.kept.ensures c.paint_line.ensures

pub returns : goal.returns
returns g c =
    read-in-part _ _ _ _ _ c.loop.invariant c.unread.result (ap (λ (failed : ReadFailed). failed.bytes) c.unread.ensures)
