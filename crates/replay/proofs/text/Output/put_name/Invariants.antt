-- `replay::text::Output::put_name` puts pair after pair.
use Rattle.std.proofs.Common.{◌≡◌, ◌-◌}
use Rattle.replay.specs.Text.{with_bytes, name_bytes, last_pairs}
use Rattle.replay.proofs.text.Output.put_name.Given as goal

abbrev pub invariant-loop-k : goal.invariant-loop-k
invariant-loop-k g l = with_bytes l.fn.self (name_bytes l.name) ≡ with_bytes l.self (last_pairs (9 - l.k) l.name)
