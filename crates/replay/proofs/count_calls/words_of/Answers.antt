use mathlib.Core.Path.{◌≡◌, refl, ◌∙◌}
use native.Mathlib.Omega.{arith}
use Rattle.words.proofs.Over.{over-all}
use Rattle.replay.specs.Calls.{count_words}
use Rattle.replay.proofs.count_calls.words_of.Goals as goal

pub returns : goal.returns
unfolding count_words
returns c =
    let whole : c.loop-i.i ≡ 64 = omega arith in
    rw whole at c.loop-i.invariant ∙ over-all 64 _ _ refl
