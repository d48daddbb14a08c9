use Prim.Native.Nat.{ℕ, ◌+◌}
use mathlib.Core.Path.{◌≡◌, refl, sym, ap, ◌∙◌}
use mathlib.Core.List.{List}
use native.Mathlib.Omega.{arith}
use lib.ListN.{length}
use Rattle.words.specs.Word.{word}
use Rattle.words.specs.Search.{some_below}
use Rattle.words.proofs.Search.{some-here, none_more}
use Rattle.fonts.specs.declared.Name.{Name}
use Rattle.fonts.specs.Strike.{codes, widths_of, no_strike}
use Rattle.fonts.specs.Entry.{name_of, name_in}
use Rattle.fonts.specs.Reading.{pairs_in, lost, lost_at}
use Rattle.fonts.proofs.Tabled.{pairs-at}
use Rattle.fonts.proofs.Mapped.{name-mapped}
use Rattle.fonts.proofs.Naming.{whole-map}
use Rattle.fonts.proofs.some_lost.Given.{Over}
use Rattle.fonts.proofs.some_lost.Goals as goal
use Rattle.fonts.proofs.some_lost.Goals.{After-lost, At-loop-k}

entries : (g : Over) (b : At-loop-k g) → b.count-k-end.result ≡ codes b.args.h + 1
entries g b =
    b.count-k-end.ensures
    ∙ ap length b.map-map.ensures.words
    ∙ whole-map b.args.h (g.F.Words.as_words b.args.font) b.requires.0 b.requires.1

module _ (g : Over) (seen : After-lost g) where
  name-is : seen.of-name.result ≡ name_in seen.args.h (g.F.Words.as_words seen.args.font) seen.loop-k.k
  name-is =
      seen.of-name.ensures.value
      ∙ ap name_of (seen.word.ensures ∙ ap (λ (map : List ℕ). word map seen.loop-k.k) seen.map-map.ensures.words)
      ∙ sym (name-mapped seen.args.h (λ n. no_strike) (g.F.Words.as_words seen.args.font) seen.requires.0 seen.loop-k.k)

  width_is : word (g.F.Words.as_words seen.widths-widths.result) seen.loop-k.k
      ≡ word (widths_of seen.args.h (g.F.Words.as_words seen.args.font)) seen.loop-k.k
  width_is = ap (λ (widths : List ℕ). word widths seen.loop-k.k) seen.widths-widths.ensures.words

  pairs-are : word seen.pairs-pairs.result seen.of-name.result.body
      ≡ pairs_in seen.args.h (g.F.Words.as_words seen.args.font)
      (name_in seen.args.h (g.F.Words.as_words seen.args.font) seen.loop-k.k).body
  pairs-are =
      ap (λ (table : List ℕ). word table seen.of-name.result.body) seen.pairs-pairs.ensures
      ∙ pairs-at seen.args.h (g.F.Words.as_words seen.args.font) seen.of-name.result.body (omega (arith, seen.of-name.ensures.small.0))
      ∙ ap (λ (name : Name). pairs_in seen.args.h (g.F.Words.as_words seen.args.font) name.body) name-is

  lost-is : lost_at seen.args.h (g.F.Words.as_words seen.args.font) seen.loop-k.k ≡ seen.lost.result
  unfolding lost_at
  lost-is = sym (seen.lost.ensures ∙ (λ i. lost seen.args.h (name-is i) (width_is i) (pairs-are i)))

pub loop-k-init : goal.loop-k-init
unfolding some_below
loop-k-init g c = refl

pub returns-then-lost : goal.returns-then-lost
returns-then-lost g c =
    sym (some-here _ (codes c.args.h + 1) c.loop-k.k
    (omega (arith, entries g (goal.at.returns-then-lost g c).At-loop-k, c.loop-k-test.true))
    (lost-is g (goal.at.returns-then-lost g c).After-lost ∙ c.if-lost.true))

pub loop-k-preserved : goal.loop-k-preserved
loop-k-preserved g c =
    none_more _ c.loop-k.k c.loop-k.invariant (lost-is g (goal.at.loop-k-preserved g c).After-lost ∙ c.if-lost.false)

pub returns : goal.returns
returns g c =
    let e : c.loop-k.k ≡ codes c.args.h + 1 = omega (arith, entries g (goal.at.returns g c).At-loop-k) in
    sym (rw e at c.loop-k.invariant)
