-- `preview::painting::Painter::take_bytes` takes byte after byte. The invariant: the bytes that are left do what all of them did at first.
use Rattle.preview.proofs.Taking.{Left}
use Rattle.preview.proofs.painting.Painter.take_bytes.Given as goal

abbrev pub invariant-loop-b : goal.invariant-loop-b
invariant-loop-b g l = Left l.self.font.now l.self.s l.bytes l.initial.so_far l.initial.panel l.b-index l.so_far l.panel
