-- `fontbytes::mapped_step` meets its contract: the step over what stands at the code's place.
-- Assumes nothing.
use Prim.Native.Nat.{ℕ}
use mathlib.Core.Path.{sym, ap, ap₂, ◌∙◌}
use lib.Dec.{eqb}
use Rattle.fonts.specs.declared.Strike.{Strike}
use Rattle.fonts.specs.Strike.{strike_by}
use Rattle.fonts.specs.Entry.{advance_of}
use Rattle.fonts.specs.Face.{picture_of, entry_in, glyph_by}
use Rattle.fonts.proofs.Mapped.{place-mapped, substitute-mapped}
use Rattle.fontbytes.proofs.mapped_step.Goals as goal

pub returns : goal.returns
unfolding glyph_by picture_of
returns g c =
    let a = c.args in
    let h = a.v.header in
    let words = g.F.Words.as_words a.font in
    let strikes : ℕ → Strike = strike_by a.v a.bitmaps.now words in
    let at = c.mapped_place-k.ensures in
    let moves =
    c.mapped_advance.ensures
    ∙ ap (λ (k : ℕ). advance_of h (entry_in h strikes words k))
    (at ∙ sym (place-mapped h strikes words c.requires a.code)) in
    let counts =
    ap₂ eqb at c.codes.ensures ∙ substitute-mapped h strikes words c.requires a.code in
    (λ i. record { advance = moves i; substitute = counts i })
