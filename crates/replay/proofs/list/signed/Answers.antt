-- `replay::list::signed` is the number that is nearest.
use mathlib.Core.Path.{refl, ◌∙◌}
use mir.Syntax.{w32, w64}
use mir.Val.{SFits}
use mir.Facts.{to_z-of_z}
use Rattle.std.proofs.Common.{rules}
use Rattle.replay.specs.Lines.{signed_in}
use Rattle.replay.proofs.list.signed.Goals as goal

pub returns : goal.returns
unfolding signed_in
returns c =
    let wide = to_z-of_z {w = w64} {z = c.clamp.result} (record { sfits = c.clamp.type_inv }) in
    let narrow : SFits w32 c.clamp.result = search rules in
    rw (wide, to_z-of_z narrow) (c.clamp.ensures.value ∙ rw (to_z-of_z c.ranges.n) refl)
