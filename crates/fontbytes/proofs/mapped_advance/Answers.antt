-- `fontbytes::mapped_advance` meets its contract, by the kind of the font: a step asks for no more of an entry than was read.
-- Assumes nothing.
use Prim.Native.Nat.{ℕ, ◌+◌, ◌%◌}
use mathlib.Core.Path.{◌≡◌, sym, ap, ap₂, ◌∙◌}
use mathlib.Core.List.{List}
use native.Mathlib.Omega.{arith}
use Rattle.words.specs.Word.{word}
use Rattle.fonts.specs.declared.Name.{Name}
use Rattle.fonts.specs.declared.Strike.{Strike}
use Rattle.fonts.specs.Strike.{map_of, pointers_of, widths_of, strike_by}
use Rattle.fonts.specs.Entry.{name_of, entry_with, entry_at, advance_of}
use Rattle.fonts.specs.Face.{entry_in}
use Rattle.fonts.proofs.Mapped.{entry-mapped}
use Rattle.fontbytes.proofs.Stepping.{advance-asks, plain-advance}
use Rattle.fontbytes.proofs.mapped_advance.Given.{Over}
use Rattle.fontbytes.proofs.mapped_advance.Goals as goal
use Rattle.fontbytes.proofs.mapped_advance.Goals.{After-advance}

module _ (g : Over) (c : After-advance g) where
  name-is : c.of-name.result ≡ name_of (word (map_of c.args.v.header (g.F.Words.as_words c.args.font)) c.args.k)
  name-is =
      c.of-name.ensures.value ∙ ap name_of (c.word-2.ensures ∙ ap (λ (map : List ℕ). word map c.args.k) c.map.ensures.words)

  table_is : g.F.Words.as_words c.pointers-pointers.result
      ≡ pointers_of (strike_by c.args.v c.args.bitmaps.now (g.F.Words.as_words c.args.font)
      (name_of (word (map_of c.args.v.header (g.F.Words.as_words c.args.font)) c.args.k)).body) (g.F.Words.as_words c.args.font)
  table_is =
      c.pointers-pointers.ensures.words
      ∙ ap (λ (s : Strike). pointers_of s (g.F.Words.as_words c.args.font))
      (c.strike.ensures ∙ ap (λ (n : Name). strike_by c.args.v c.args.bitmaps.now (g.F.Words.as_words c.args.font) n.body) name-is)

pub returns-then-kerned : goal.returns-then-kerned
unfolding advance_of entry_in
returns-then-kerned g c =
    let a = c.args in
    let kind = sym c.kerned.ensures ∙ c.if-kerned.true in
    let table = c.widths.ensures.words in
    rw kind (ap (λ (n : ℕ). n % 256) (c.word.ensures ∙ ap (λ (widths : List ℕ). word widths a.k) table))

pub entry_for_step-requires : goal.entry_for_step-requires
entry_for_step-requires g c = omega (arith, c.of-name.ensures.small.1)

pub returns : goal.returns
returns g c =
    let t = (g.F.Words.as_words c.pointers-pointers.result) in
    let kind = sym c.kerned.ensures
    ∙ c.if-kerned.false in
    c.advance.ensures
    ∙ ap (advance_of c.args.v.header) c.entry_for_step.ensures
    ∙ advance-asks c.args.v.header (entry_at t t c.of-name.result.code)
    ∙ plain-advance c.args.v.header (entry_at t t c.of-name.result.code)
    (entry_with (pointers_of ((strike_by c.args.v c.args.bitmaps.now (g.F.Words.as_words c.args.font))
    (name_of (word (map_of c.args.v.header (g.F.Words.as_words c.args.font)) c.args.k)).body) (g.F.Words.as_words c.args.font))
    (name_of (word (map_of c.args.v.header (g.F.Words.as_words c.args.font)) c.args.k)).code
    (word (widths_of c.args.v.header (g.F.Words.as_words c.args.font)) c.args.k)) kind
    (ap₂ (λ (p : List ℕ) (n : Name). word p n.code) (table_is g (goal.at.returns g c).After-advance)
    (name-is g (goal.at.returns g c).After-advance))
    (ap₂ (λ (p : List ℕ) (n : Name). word p (n.code + 1)) (table_is g (goal.at.returns g c).After-advance)
    (name-is g (goal.at.returns g c).After-advance))
    ∙ ap (advance_of c.args.v.header)
    (sym (entry-mapped c.args.v.header (strike_by c.args.v c.args.bitmaps.now (g.F.Words.as_words c.args.font))
    (g.F.Words.as_words c.args.font) c.requires c.args.k))
