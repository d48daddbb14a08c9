-- `replay::registers::Registers::keep_written` keeps the first words of `out`.
use mathlib.Core.Path.{ap, ◌∙◌}
use Rattle.std.specs.Prelude.{take}
use Rattle.replay.specs.Registers.{holds, registers}
use Rattle.replay.proofs.registers.Registers.keep_written.Goals as goal

pub returns : goal.returns
returns c =
    let r = c.args.self.now in
    let kept = c.part-written.ensures ∙ ap (take c.args.count) c.as_slice.ensures.value in
    ap (λ words. registers r.font r.cu r.panel r.out r.one r.two r.file r.counts (holds words))
    (c.set.ensures ∙ ap (take 70000) kept)
