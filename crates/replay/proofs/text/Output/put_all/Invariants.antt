-- `replay::text::Output::put_all` puts byte after byte.
use Rattle.std.proofs.Common.{◌≡◌, drop}
use Rattle.replay.specs.Text.{with_bytes}
use Rattle.replay.proofs.text.Output.put_all.Given as goal

abbrev pub invariant-loop-b : goal.invariant-loop-b
invariant-loop-b g l = with_bytes l.fn.self l.bytes ≡ with_bytes l.self (drop l.b-index l.bytes)
