-- `counts::some_over` meets its contract: it looks for a count over the most, which is the area of every strip.
-- Assumes nothing.
use Rattle.std.proofs.Common.{ℕ, ◌≡◌, ◌<◌, Bool, true, false, ltb, List, length, MatchBool, rules, tests, arith}
use mathlib.Core.Path.{sym, ap, ◌∙◌}
use Rattle.std.specs.List.{HoldsAt, AllWithin}
use Rattle.std.proofs.lemmas.Iterator.{cases_from_any, YieldsList-from_slice}
use Rattle.words.specs.Word.{word}
use Rattle.words.specs.Search.{some_below}
use Rattle.words.proofs.Search.{none_passes, some-here}
use Rattle.counts.proofs.Moves.{over-is}
use Rattle.counts.proofs.some_over.Goals as goal

module _ (most : ℕ) (counts : List ℕ) (long : length counts ≡ 32) where
  -- what a search finds is that some of them is over it
  found : (r : Bool)
      → MatchBool r ((k : ℕ) × (k < length counts) × HoldsAt (λ n. ltb most n ≡ true) counts k)
      (AllWithin (λ n. ltb most n ≡ false) counts 0 (length counts))
      → r ≡ some_below 32 (λ k. ltb most (word counts k))
  found true h = let less = h.1 in sym (some-here _ 32 h.0 (omega (arith, less, long)) (h.2 0))
  found false h = sym (none_passes _ 32 (λ k less. h k 0 (omega arith) (omega (arith, less, long))))

pub returns : goal.returns
returns c =
    let a = c.args in
    let most = c.most_lit-most.result in
    let ran = cases_from_any _ _ _ (λ n. ltb most n ≡ true) (λ n. ltb most n ≡ false) c.any.ensures.ran
    (YieldsList-from_slice a.counts (search rules)) (λ x q k. search (rules, tests)) (λ x q k. search (rules, tests)) in
    found most a.counts (search rules) _ ran
    ∙ ap (λ (m : ℕ). some_below 32 (λ k. ltb m (word a.counts k))) c.most_lit-most.ensures
    ∙ over-is a.s a.counts
