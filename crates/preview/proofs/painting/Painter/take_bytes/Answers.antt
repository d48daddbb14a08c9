use native.Mathlib.Omega.{arith}
use Rattle.preview.specs.Lines.{Bytes}
use Rattle.preview.proofs.Taking.{one-taken}
use Rattle.preview.proofs.painting.Painter.take_bytes.Goals as goal

pub loop-b-preserved : goal.loop-b-preserved
loop-b-preserved g c = one-taken _ _ _ _ _ _ _ _ c.loop-b.invariant (omega arith) _ _ c.take_byte.ensures

pub returns-clause-bytes : goal.returns-clause-bytes
unfolding Bytes
returns-clause-bytes g c = λ i. (c.type_inv.bytes i).fits
