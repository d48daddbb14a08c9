use mathlib.Core.Path.{sym}
use Rattle.replay.proofs.Putting.{puts-same, no_byte}
use Rattle.replay.proofs.Runs.{no_words}
use Rattle.replay.proofs.text.Output.put_list.Goals as goal

pub returns-in_default : goal.returns-in_default
returns-in_default g c =
    let none = no_words c.args.digits c.args.list.now c.in_default.ensures.cases in
    puts-same c.args.self.now (no_byte c.args.self.now) (sym none)

pub returns : goal.returns
returns g c = rw c.in-Some.ensures.cases.0 c.put_runs.ensures
