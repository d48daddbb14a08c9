-- `preview::painting::paint_lines` paints the lines of all that is read. The invariant: the lines that have ended are painted, and of the
-- line behind them the first bytes are kept.
use Rattle.preview.proofs.Taking.{Reading}
use Rattle.preview.proofs.painting.paint_lines.Given as goal

abbrev pub invariant-loop : goal.invariant-loop
invariant-loop g l = Reading l.painter.font.now l.painter.s l.initial.panel l.so_far l.panel
