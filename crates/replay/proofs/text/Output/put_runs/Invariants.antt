-- `replay::text::Output::put_runs` puts a run when another word comes: the words behind are left.
use Rattle.std.proofs.Common.{◌≡◌, ◌+◌, ◌-◌, ◌≤◌, ◌∷◌, drop}
use Rattle.replay.specs.Text.{with_bytes, list_bytes, runs_from}
use Rattle.replay.proofs.text.Output.put_runs.Given as goal

abbrev pub invariant-loop-i : goal.invariant-loop-i
invariant-loop-i g l = record {
  begun : l.before ≤ l.i;
  left : with_bytes l.fn.self (list_bytes l.digits (l.first ∷ l.rest))
      ≡ with_bytes l.self (runs_from l.digits l.run (l.i + 1 - l.before) (drop l.i l.rest));
}
