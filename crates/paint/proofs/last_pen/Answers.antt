-- `paint::last_pen` meets its contract: the steps by the tables are those over what the font shows.
-- Assumes nothing.
use Prim.Native.Nat.{ℕ}
use mathlib.Core.Path.{◌≡◌, sym, ap, ◌∙◌}
use Rattle.fonts.specs.declared.Strike.{Strike}
use Rattle.fonts.specs.Strike.{pointers_of}
use Rattle.fonts.specs.Face.{face_from}
use Rattle.paint.specs.declared.Pen.{Pen}
use Rattle.paint.specs.Pen.{pen_along, steps_in, steps_of}
use Rattle.paint.specs.Label.{last_pen}
use Rattle.paint.proofs.Along.{along-same, steps-shown, pen-starts}
use Rattle.paint.proofs.last_pen.Given.{Over}
use Rattle.paint.proofs.last_pen.Goals as goal
use Rattle.paint.proofs.last_pen.Goals.{After-dummy_advance-dummy}

steps : (g : Over) (found : After-dummy_advance-dummy g) → (c : ℕ)
    → steps_in found.args.v.header (g.F.Words.as_words found.pointers-pointers.result) (g.F.Words.as_words found.widths-widths.result)
    found.dummy_advance-dummy.result c
    ≡ steps_of (face_from found.args.v (g.F.Words.as_words found.args.font)) c
steps g found =
    let font = g.F.Words.as_words found.args.font in
    let first = ap (λ (s : Strike). pointers_of s font) found.first.ensures in
    steps-shown found.args.v font _ _ _ (sym found.index.ensures ∙ found.if-index.false)
    (found.pointers-pointers.ensures.words ∙ first) found.widths-widths.ensures.words found.dummy_advance-dummy.ensures

pub returns-then-index : goal.returns-then-index
unfolding last_pen
returns-then-index g c =
    let face = face_from c.args.v (g.F.Words.as_words c.args.font) in
    let start = pen-starts _ c.args.x c.at.ensures.value c.ranges.x in
    record {
      value = c.pen_along_map.ensures.value ∙ ap (λ (p : Pen). pen_along (steps_of face) p c.args.text.now) start;
      near = c.pen_along_map.ensures.near;
    }

pub returns : goal.returns
unfolding last_pen
returns g c =
    let text = c.args.text.now in
    let start = pen-starts _ c.args.x c.at-2.ensures.value c.ranges.x in record {
      value = c.pen_along.ensures.value
          ∙ along-same _ _ (steps g (goal.at.returns g c).After-dummy_advance-dummy) text _
          ∙ ap (λ (p : Pen). pen_along (steps_of (face_from c.args.v (g.F.Words.as_words c.args.font))) p text) start;
      near = c.pen_along.ensures.near;
    }
