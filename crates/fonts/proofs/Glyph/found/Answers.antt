-- `fonts::Glyph::found` meets its contract: by the map, or by the two tables of a font without an index.
-- Assumes nothing.
use Prim.Native.Nat.{ℕ}
use mathlib.Core.Path.{sym, ap, ap₂, ◌∙◌}
use mathlib.Core.List.{List}
use Rattle.fonts.specs.declared.Strike.{Strike}
use Rattle.fonts.specs.declared.Named.{Named}
use Rattle.fonts.specs.Strike.{strike_by, pointers_of}
use Rattle.fonts.specs.Kinds.{glyph_in, named_in, glyph_named}
use Rattle.fonts.proofs.Struck.{struck-glyph}
use Rattle.fonts.proofs.Mapped.{named-glyph}
use Rattle.fonts.proofs.Found.{first_by}
use Rattle.fonts.proofs.Glyph.found.Goals as goal

pub returns-then-index : goal.returns-then-index
unfolding glyph_named
returns-then-index c =
    let a = c.args in
    let font = a.font.now in
    let h = a.v.header in
    let indexed = sym c.index.ensures ∙ c.if-index.true in
    c.named.ensures
    ∙ ap (λ (n : Named). glyph_named a.v a.bitmaps.now font n)
    (c.of.ensures
    ∙ ap₂ (λ (map widths : List ℕ). named_in h map widths a.code) c.map.ensures.words
    c.widths-widths.ensures.words)
    ∙ sym (named-glyph h (strike_by a.v a.bitmaps.now font) font indexed a.code)

pub returns : goal.returns
returns c =
    let a = c.args in
    let font = a.font.now in
    let table = c.pointers.ensures.words ∙ ap (λ (s : Strike). pointers_of s font) c.first.ensures in
    let single = sym c.index.ensures ∙ c.if-index.false in
    c.at.ensures
    ∙ ap₂ (λ (pointers widths : List ℕ). glyph_in a.v pointers widths a.code) table
    c.widths-widths.ensures.words
    ∙ sym (struck-glyph a.v (strike_by a.v a.bitmaps.now font) font single (first_by a.v a.bitmaps.now font) a.code)
