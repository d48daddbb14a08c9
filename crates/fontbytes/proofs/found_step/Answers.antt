-- `fontbytes::found_step` meets its contract, by the kind of the font.
-- Assumes nothing.
use Prim.Native.Nat.{ℕ, ◌-◌}
use mathlib.Core.Path.{sym, ap, ◌∙◌}
use Rattle.fonts.specs.declared.Strike.{Strike}
use Rattle.fonts.specs.Strike.{codes, pointers_of, strike_by}
use Rattle.fonts.specs.Entry.{entry_at, advance_of}
use Rattle.fonts.specs.Kinds.{step_by}
use Rattle.fonts.proofs.Steps.{step-struck}
use Rattle.fonts.proofs.Found.{first_by}
use Rattle.fontbytes.proofs.found_step.Goals as goal

pub mapped_step-requires : goal.mapped_step-requires
mapped_step-requires g c = sym c.index.ensures ∙ c.if-index.true

pub returns-then-index : goal.returns-then-index
returns-then-index g c = c.mapped_step.ensures

pub returns : goal.returns
returns g c =
    let a = c.args in
    let h = a.v.header in
    let words = g.F.Words.as_words a.font in
    let strikes : ℕ → Strike = strike_by a.v a.bitmaps.now words in
    let table =
    c.pointers-pointers.ensures.words
    ∙ ap (λ (s : Strike). pointers_of s words) c.first.ensures in
    let entries = c.widths-widths.ensures.words in
    let single =
    sym c.index.ensures ∙ c.if-index.false in
    let moves = c.dummy_advance.ensures ∙ (λ i. advance_of h (entry_at (table i) (entries i) (codes h))) in
    c.step.ensures
    ∙ (λ i. step_by h (entry_at (table i) (entries i) (a.code - h.min)) (moves i) a.code)
    ∙ step-struck a.v strikes words single (first_by a.v a.bitmaps.now words) a.code
