-- `fonts::Glyph::named` meets its contract: a picture of the body that is named, by its own pointers.
-- Assumes nothing.
use Prim.Native.Nat.{ℕ}
use mathlib.Core.Path.{ap, ◌∙◌}
use mathlib.Core.List.{List}
use Rattle.fonts.specs.declared.Name.{Name}
use Rattle.fonts.specs.declared.Strike.{Strike}
use Rattle.fonts.specs.declared.Entry.{Entry}
use Rattle.fonts.specs.Strike.{strike_by, pointers_of}
use Rattle.fonts.specs.Entry.{entry_with}
use Rattle.fonts.specs.Face.{picture_of}
use Rattle.fonts.specs.Kinds.{glyph_named}
use Rattle.fonts.proofs.Glyph.named.Goals as goal

pub returns : goal.returns
unfolding glyph_named
returns c =
    let a = c.args in
    let font = a.font.now in
    let strikes : ℕ → Strike = strike_by a.v a.bitmaps.now font in
    let n = a.n in
    let found = c.strike-s in
    let name = c.of-name in
    c.with.ensures
    ∙ ap (λ (e : Entry). picture_of a.v.header found.result e n.substitute)
    (c.with-entry.ensures
    ∙ ap (λ (pointers : List ℕ). entry_with pointers name.result.code n.width) c.pointers.ensures.words)
    ∙ ap (λ (s : Strike). picture_of a.v.header s (entry_with (pointers_of s font) name.result.code n.width) n.substitute)
    found.ensures
    ∙ ap (λ (m : Name). picture_of a.v.header (strikes m.body)
    (entry_with (pointers_of (strikes m.body) font) m.code n.width) n.substitute) name.ensures.value
