-- `fonts::Glyph::of` meets its contract: what is found by the table is what the font shows.
-- Assumes nothing.
use mathlib.Core.Path.{ap, ◌∙◌}
use Prim.Native.Nat.{ℕ}
use mathlib.Core.List.{List}
use Rattle.fonts.specs.Strike.{strike_by}
use Rattle.fonts.specs.Face.{glyph_by}
use Rattle.fonts.proofs.Found.{found-same}
use Rattle.fonts.proofs.Glyph.of.Goals as goal

pub returns : goal.returns
returns c =
    let a = c.args in
    let font = a.font.now in
    c.found.ensures
    ∙ ap (λ (bitmaps : List ℕ). glyph_by a.v.header (strike_by a.v bitmaps font) font a.code) c.bitmaps-bitmaps.ensures
    ∙ found-same a.v font a.code
