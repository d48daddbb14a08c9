-- `paint::Stroke::of` meets its contract, field by field.
-- Assumes nothing.
use borrow.Author.Rules.{rules}
use mathlib.Core.Path.{ap, ◌∙◌}
use mir.Syntax.{w32}
use mir.Val.{SFits}
use mir.Facts.{to_z-of_z}
use Rattle.words.specs.Place.{place_of}
use Rattle.paint.specs.Pen.{stroke_of}
use Rattle.paint.proofs.Stroke.of.Goals as goal

pub returns : goal.returns
unfolding stroke_of
returns c =
    let l = c.args.l in
    let fits : SFits w32 l.y = search rules in
    let row = c.place_of.ensures ∙ ap place_of (to_z-of_z fits) in
    cc
