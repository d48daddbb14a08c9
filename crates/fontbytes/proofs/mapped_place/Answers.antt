-- `fontbytes::mapped_place` meets its contract, by the tests that it makes.
-- Assumes nothing.
use Prim.Native.Nat.{ℕ, ◌-◌}
use mathlib.Core.Path.{◌≡◌, sym, ap, ap₂, ◌∙◌}
use mathlib.Core.Bool.{true}
use native.Mathlib.Omega.{arith}
use Rattle.words.specs.Word.{word}
use Rattle.fonts.specs.declared.Name.{Name}
use Rattle.fonts.specs.Strike.{map_of, widths_of}
use Rattle.fonts.specs.Entry.{name_of, marked}
use Rattle.fonts.specs.Face.{in_range}
use Rattle.fonts.specs.Kinds.{mapped_place}
use Rattle.fontbytes.proofs.mapped_place.Given.{Over}
use Rattle.fontbytes.proofs.mapped_place.Goals as goal
use Rattle.fontbytes.proofs.mapped_place.Goals.{After-marked}

module _ (g : Over) (m : After-marked g) where
  in-it : in_range m.args.h m.args.code ≡ true
  in-it = sym m.in_range.ensures ∙ m.if-in_range.true

  name-is : m.of-name.result ≡ name_of (word (map_of m.args.h (g.F.Words.as_words m.args.font)) (m.args.code - m.args.h.min))
  name-is = m.of-name.ensures.value ∙ ap name_of (m.word.ensures ∙ ap₂ word m.map.ensures.words m.place-k.ensures)

  width_is : m.word-then-in_range.result ≡ word (widths_of m.args.h (g.F.Words.as_words m.args.font)) (m.args.code - m.args.h.min)
  width_is = m.word-then-in_range.ensures ∙ ap₂ word m.widths.ensures.words m.place-k.ensures

  marked-is : m.marked.result
      ≡ marked m.args.h (name_of (word (map_of m.args.h (g.F.Words.as_words m.args.font)) (m.args.code - m.args.h.min))).missing
      (word (widths_of m.args.h (g.F.Words.as_words m.args.font)) (m.args.code - m.args.h.min))
  marked-is = m.marked.ensures ∙ ap₂ (λ (name : Name) (w : ℕ). marked m.args.h name.missing w) name-is width_is

pub overflow_cast-dummy : goal.overflow_cast-dummy
overflow_cast-dummy g c = omega (arith, c.codes-dummy.ensures)

pub returns-then-marked : goal.returns-then-marked
unfolding mapped_place
returns-then-marked g c =
    rw (
      in-it g (goal.at.returns-then-marked g c).After-marked,
      sym (marked-is g (goal.at.returns-then-marked g c).After-marked) ∙ c.if-marked.true,
    )
    c.codes-dummy.ensures

pub overflow_cast-result : goal.overflow_cast-result
overflow_cast-result g c = omega (arith, c.place-k.ensures)

pub returns-then-in_range : goal.returns-then-in_range
unfolding mapped_place
returns-then-in_range g c = rw (
  in-it g (goal.at.returns-then-in_range g c).After-marked,
  sym (marked-is g (goal.at.returns-then-in_range g c).After-marked) ∙ c.if-marked.false,
) c.place-k.ensures

pub returns : goal.returns
unfolding mapped_place
returns g c =
    let out = sym c.in_range.ensures ∙ c.if-in_range.false in
    rw out c.codes-dummy.ensures
