-- `preview::painting::Painter::take_byte` meets its contract: a newline paints the line, and any other byte is kept of it.
use mathlib.Core.Path.{refl}
use Rattle.preview.proofs.Taking.{newline-taken, other-taken}
use Rattle.preview.proofs.painting.Painter.take_byte.Goals as goal

pub returns-then-b-eq10 : goal.returns-then-b-eq10
returns-then-b-eq10 g c =
    newline-taken _ _ _ _ _ _ c.if-b-eq10.true _ c.next.ensures (rw c.kept.ensures at c.paint_line-so_far.ensures)

pub returns-else-b-eq10 : goal.returns-else-b-eq10
returns-else-b-eq10 g c = other-taken _ _ _ _ _ _ c.if-b-eq10.false c.push.ensures refl
