-- `paint::check_label` meets its contract: its tests are the definition's, in the same order.
-- Assumes nothing.
use mathlib.Core.Path.{◌≡◌, ap, ◌∙◌}
use mir.Syntax.{w32}
use mir.Facts.{to_z-of_z}
use Rattle.words.specs.Place.{outside}
use Rattle.words.specs.Refusal.{first_of}
use Rattle.words.proofs.Chain.{chain}
use Rattle.paint.specs.Label.{label_number}
use Rattle.paint.proofs.check_label.Goals as goal
use Rattle.paint.proofs.check_label.Goals.{After-outside, After-outside-2}

outx : (c : After-outside) → c.outside.result ≡ outside c.args.l.x
outx c = c.outside.ensures ∙ ap outside (to_z-of_z {w = w32} {z = c.args.l.x} (record { sfits = c.type_inv.l.1.0.1 }))

outy : (c : After-outside-2) → c.outside-2.result ≡ outside c.args.l.y
outy c =
    c.outside-2.ensures
    ∙ ap outside (to_z-of_z {w = w32} {z = c.args.l.y} (record { sfits = c.type_inv.l.1.1.0.1 }))

pub returns-then-l-gt31 : goal.returns-then-l-gt31
unfolding label_number first_of
returns-then-l-gt31 c = search chain depth 20

pub returns-then-outside : goal.returns-then-outside
unfolding label_number first_of
returns-then-outside c = let x = outx (goal.at.returns-then-outside c).After-outside in search chain depth 20

pub returns-then-outside-2 : goal.returns-then-outside-2
unfolding label_number first_of
returns-then-outside-2 c =
    let x = outx (goal.at.returns-then-outside-2 c).After-outside in
    let y = outy (goal.at.returns-then-outside-2 c).After-outside-2 in
    search chain depth 20

pub returns-then-bytes-gt64 : goal.returns-then-bytes-gt64
unfolding label_number first_of
returns-then-bytes-gt64 c =
    let x = outx (goal.at.returns-then-bytes-gt64 c).After-outside in
    let y = outy (goal.at.returns-then-bytes-gt64 c).After-outside-2 in
    search chain depth 20

pub returns-then-l-gt2 : goal.returns-then-l-gt2
unfolding label_number first_of
returns-then-l-gt2 c =
    let x = outx (goal.at.returns-then-l-gt2 c).After-outside in
    let y = outy (goal.at.returns-then-l-gt2 c).After-outside-2 in
    search chain depth 20

pub returns : goal.returns
unfolding label_number first_of
returns c =
    let x = outx (goal.at.returns c).After-outside in
    let y = outy (goal.at.returns c).After-outside-2 in
    search chain depth 20
