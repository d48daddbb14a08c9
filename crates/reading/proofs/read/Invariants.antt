-- `reading::read` ends: each turn finds a byte or more, or is the last. What it has found is what the input has lost.
use Rattle.std.proofs.Common.{◌-◌, ◌≤◌, take}
use Rattle.std.specs.Io.KnownBytes.{Consumes}
use Rattle.reading.specs.Counts.{IsPrefixLen}
use Rattle.reading.proofs.read.Given as goal

abbrev pub invariant-loop-at : goal.invariant-loop-at
invariant-loop-at g l = record {
  small : l.at ≤ 65537;
  there : IsPrefixLen l.at l.space;
  taken : Consumes (g.R.Read.remaining l.initial.from) (g.R.Read.remaining l.from) (take l.at l.space);
}

abbrev pub decreases-loop-at : goal.decreases-loop-at
decreases-loop-at g l = 65537 - l.at
