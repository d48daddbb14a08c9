-- From a bound on a count to what the contracts ask of it.
use Rattle.std.proofs.Common.{ℕ, ◌≤◌, List, length, sym}
use Rattle.std.proofs.lemmas.List.{length-take-le}
use Rattle.reading.specs.Counts.{IsPrefixLen}

pub prefix_len_of_le : (n : ℕ) (xs : List ℕ) → n ≤ length xs → IsPrefixLen n xs
prefix_len_of_le n xs within = (within, sym (length-take-le n xs within))
