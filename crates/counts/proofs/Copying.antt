-- Words copied from one place of a list to another place of a second one.
use Prim.Native.Nat.{ℕ, zero, suc, ◌+◌, ◌<◌, ◌≤◌}
use mathlib.Core.Path.{◌≡◌, refl, sym, ap, ◌∙◌}
use mathlib.Core.Bool.{Bool, true, false}
use mathlib.Core.List.{List}
use native.Mathlib.Nat.{le_antisymm, lt_of_not-le}
use native.Mathlib.Numerals.{add-one}
use native.Mathlib.Omega.{arith}
use lib.Dec.{eqb}
use lib.ListN.{length, set, length-set}
use lib.Seq.{get_or-set_same, get_or-set_other}
use borrow.Author.Tests.{eqb-true, eqb-false}
use Rattle.words.specs.Word.{word}
use Rattle.counts.specs.Band.{copied_to}

module _ (panel : List ℕ) (from to : ℕ) where
  pub nothing_copied : (lent : List ℕ) → lent ≡ copied_to panel from to 0 lent
  unfolding copied_to
  nothing_copied lent = refl

  pub one-more-copied : (n d : ℕ) (now lent : List ℕ) → now ≡ copied_to panel from to n lent → d ≡ word panel (from + n)
      → set now (to + n) d ≡ copied_to panel from to (n + 1) lent
  unfolding copied_to
  one-more-copied n d now lent so_far read =
      ap (λ (q : List ℕ). set q (to + n) d) so_far ∙ ap (set (copied_to panel from to n lent) (to + n)) read
      ∙ sym (ap (λ (m : ℕ). copied_to panel from to m lent) (add-one n))

  pub copied-length : (n : ℕ) (lent : List ℕ) → length (copied_to panel from to n lent) ≡ length lent
  unfolding copied_to
  copied-length zero lent = refl
  copied-length (suc n) lent = simp length-set (copied-length n lent)

  last-or-before : (n : ℕ) (lent : List ℕ) (i : ℕ) (t : Bool) → eqb i n ≡ t → i ≤ n → to + suc n ≤ length lent
      → (i < n → word (copied_to panel from to n lent) (to + i) ≡ word panel (from + i))
      → word (copied_to panel from to (suc n) lent) (to + i) ≡ word panel (from + i)
  unfolding copied_to
  last-or-before n lent i true q le fits before =
      let same : i ≡ n = eqb-true i n q in
      let room : to + n < length (copied_to panel from to n lent) = rw (copied-length n lent) (omega arith) in
      rw same (get_or-set_same (copied_to panel from to n lent) (to + n) (word panel (from + n)) 0 room)
  last-or-before n lent i false q le fits before =
      let other = eqb-false i n q in
      get_or-set_other (copied_to panel from to n lent) (to + n) (to + i) (word panel (from + n)) 0 (λ r. other (omega (arith, r)))
      ∙ before (below i n le other)
    where
      below : (a b : ℕ) → a ≤ b → (a ≡ b → ⊥) → a < b
      below a b h apart = lt_of_not-le (λ back. apart (le_antisymm h back))

  pub copied_at : (n : ℕ) (lent : List ℕ) (i : ℕ) → i < n → to + n ≤ length lent
      → word (copied_to panel from to n lent) (to + i) ≡ word panel (from + i)
  copied_at zero lent i less fits = absurd (omega arith)
  copied_at (suc n) lent i less fits =
      last-or-before n lent i (eqb i n) refl (omega arith) fits (λ before. copied_at n lent i before (omega arith))
