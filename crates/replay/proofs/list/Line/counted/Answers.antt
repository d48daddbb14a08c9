use mir.Syntax.{w64}
use mir.Facts.{to_z-of_z}
use Rattle.std.proofs.Common.{rules}
use Rattle.replay.specs.Lines.{counted_of}
use Rattle.replay.proofs.list.Line.counted.Goals as goal

pub returns : goal.returns
unfolding counted_of
returns c = rw (to_z-of_z {w = w64} {z = c.unwrap_or.result} (record { sfits = c.unwrap_or.type_inv })) (search rules)
