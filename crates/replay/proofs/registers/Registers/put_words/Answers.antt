-- `replay::registers::Registers::put_words` puts nothing where the name is no register's.
use Rattle.replay.proofs.Putting.{no_byte}
use Rattle.replay.specs.Answers.{register_bytes}
use Rattle.replay.proofs.registers.Registers.put_words.Goals as goal

pub returns-in-Some : goal.returns-in-Some
unfolding register_bytes
returns-in-Some g c = rw (c.in-Some.is, ← c.words.ensures, ← c.digits.ensures) c.put_list.ensures

pub returns-in-None : goal.returns-in-None
unfolding register_bytes
returns-in-None g c = rw c.in-None.is (no_byte c.args.output.now)
