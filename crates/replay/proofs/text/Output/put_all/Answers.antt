-- The bytes that are left are put behind those that were put.
use Rattle.replay.proofs.Putting.{all_more, all_done}
use Rattle.replay.proofs.text.Output.put_all.Goals as goal

pub loop-b-preserved : goal.loop-b-preserved
loop-b-preserved g c =
    all_more c.args.self.now c.loop-b.self c.args.bytes.now c.loop-b.b-index c.loop-b.invariant _ c.loop-b-test.true c.put.ensures

pub returns : goal.returns
returns g c = all_done c.args.self.now c.loop-b.self c.args.bytes.now c.loop-b.b-index c.loop-b.invariant c.loop-b-test.false
