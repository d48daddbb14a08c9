-- `replay::text::Output::put_pair` puts a character, or none.
use mathlib.Core.Path.{ap, ◌∙◌}
use borrow.Author.Tests.{eq-eqb, ne_eqb}
use native.Mathlib.Omega.{arith}
use Rattle.replay.proofs.Putting.{no_byte, one_byte}
use Rattle.replay.specs.Text.{with_byte, pair_bytes}
use Rattle.replay.proofs.text.Output.put_pair.Goals as goal

pub returns-then-pair-gt0 : goal.returns-then-pair-gt0
unfolding pair_bytes
returns-then-pair-gt0 g c =
    let put = c.put.ensures ∙ ap (with_byte c.args.self.now) c.character.ensures in
    rw (ne_eqb c.args.pair 0 (omega arith)) (one_byte _ _ put)

pub returns-else-pair-gt0 : goal.returns-else-pair-gt0
unfolding pair_bytes
returns-else-pair-gt0 g c = rw (eq-eqb c.args.pair 0 (omega arith)) (no_byte c.args.self.now)
