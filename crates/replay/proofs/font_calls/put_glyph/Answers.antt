-- `replay::font_calls::put_glyph` puts number behind number.
use mathlib.Core.Path.{ap}
use mathlib.Core.Bool.{Bool, true, false}
use mathlib.Core.Path.{◌≡◌, refl}
use mir.Val.{bool_byte}
use Rattle.replay.proofs.Putting.{then, puts-same}
use Rattle.replay.specs.Text.{number_bytes}
use Rattle.replay.specs.Answers.{one_if, glyph_bytes}
use Rattle.replay.proofs.font_calls.put_glyph.Goals as goal

-- a test, as the machine has it
one-if : (b : Bool) → bool_byte b ≡ one_if b
unfolding one_if
one-if true = refl
one-if false = refl

pub returns : goal.returns
unfolding glyph_bytes number_bytes
returns g c =
    let flag = puts-same _ c.put_number-3.ensures (ap number_bytes (one-if c.args.glyph.substitute)) in
    let last = then _ _ _ c.put_number-4.ensures c.put_number-5.ensures in
    then _ _ _ c.put_number.ensures (then _ _ _ c.put_place.ensures
    (then _ _ _ c.put_number-2.ensures (then _ _ _ flag last)))
