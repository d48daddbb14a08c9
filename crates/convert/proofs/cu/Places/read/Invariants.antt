-- `convert::cu::Places::read` keeps the table of the first characters, none of which is bad.
use Rattle.convert.proofs.Placing.{PlacedAmong}
use Rattle.convert.proofs.cu.Places.read.Given as goal

abbrev pub invariant-loop-k : goal.invariant-loop-k
invariant-loop-k l = PlacedAmong l.cu l.k l.places.table
