use Prim.Native.Nat.{ℕ}
use mathlib.Core.Path.{◌≡◌, refl, sym, ap₂, ◌∙◌}
use mathlib.Core.Bool.{cond}
use native.Mathlib.Omega.{arith}
use lib.Dec.{ltb}
use Rattle.std.specs.Ordering.{ord_max, nat_cmp}
use Rattle.std.proofs.lemmas.Grind.{common_steps}
use Rattle.words.specs.Search.{most_below}
use Rattle.words.proofs.Search.{most-more}
use Rattle.convert.proofs.max_width.Goals as goal

greater : (a b : ℕ) → ord_max nat_cmp a b ≡ cond (ltb a b) b a
greater a b = grind (arith, common_steps)

pub loop-c-init : goal.loop-c-init
unfolding most_below
loop-c-init c = refl

pub loop-c-preserved : goal.loop-c-preserved
loop-c-preserved c =
    c.max-most.ensures
    ∙ greater c.loop-c.most c.spacing_in.result
    ∙ ap₂ (λ (m s : ℕ). cond (ltb m s) s m) c.loop-c.invariant c.spacing_in.ensures
    ∙ sym (most-more _ c.loop-c.c)

pub returns : goal.returns
returns c =
    let e : c.loop-c.c ≡ 256 = omega arith in
    rw e at c.loop-c.invariant
