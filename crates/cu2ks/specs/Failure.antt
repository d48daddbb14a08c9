-- What is said on standard error, by docs/PROGRAMS.md, "cu2ks".
use Rattle.std.specs.Prelude.{ℕ, List, ◌++◌, codes, decimal}
use Rattle.words.specs.Refusal.{number_of}
use Rattle.cu2ks.specs.declared.Failure.{Failure}
use Rattle.cu2ks.specs.declared.Failure.TheVariants.{Refused, Unread, Unwritten}

abbrev pub said : Failure → List ℕ
said (Refused refusal) = codes "refused " ++ decimal (number_of refusal)
said (Unread failed) = codes "read failed"
said Unwritten = codes "write failed"
