-- `replay::font_calls::put_place` puts a number with its sign.
use native.Mathlib.Omega.{arith}
use mathlib.Core.Path.{◌≡◌}
use lib.IntN.{pos, ◌-ℤ◌}
use mir.Syntax.{w64}
use mir.Val.{SFits, to_z}
use mir.Facts.{to_z_pos, to_z-of_z}
use Rattle.std.proofs.Common.{rules}
use Rattle.replay.specs.Text.{signed_bytes}
use Rattle.replay.specs.Answers.{place_bytes}
use Rattle.replay.proofs.font_calls.put_place.Goals as goal

pub returns : goal.returns
unfolding place_bytes signed_bytes
returns g c =
    let whole : to_z w64 c.args.place ≡ pos c.args.place = to_z_pos w64 {n = c.args.place} (omega arith) in
    let fits : SFits w64 (pos c.args.place -ℤ pos 2048) = search rules in
    rw (whole, to_z-of_z fits) at c.put_number.ensures
