use mathlib.Core.Path.{◌≡◌, refl, ◌∙◌}
use native.Mathlib.Omega.{arith}
use Rattle.words.proofs.Over.{over-all}
use Rattle.replay.specs.Calls.{counts_in}
use Rattle.replay.proofs.count_calls.counts_of.Goals as goal

pub returns : goal.returns
unfolding counts_in
returns c =
    let whole : c.loop-k.k ≡ 32 = omega arith in
    rw whole at c.loop-k.invariant ∙ over-all 32 _ _ refl
