-- Walking over the bodies: where body k begins is far from wrapping, and the number of the first that is refused is the bodies'.
use Prim.Native.Nat.{ℕ, zero, suc, ◌+◌}
use mathlib.Core.Path.{◌≡◌, refl, sym, ap, ◌∙◌}
use mathlib.Core.Bool.{cond}
use mathlib.Core.List.{List}
use native.Mathlib.Nat.{add-zero, add-suc}
use native.Mathlib.Omega.{arith}
use lib.Dec.{eqb}
use borrow.Author.Tests.{ne_eqb}
use Rattle.words.specs.Word.{word}
use Rattle.words.specs.Refusal.{or_else}
use Rattle.fonts.specs.declared.Header.{Header}
use Rattle.fonts.specs.Strike.{behind_body, start_from, body_start}
use Rattle.fonts.specs.Reading.{body_number, bodies_number}

pub add-one : (k : ℕ) → k + 1 ≡ suc k
add-one k = omega arith

-- a step of the walk
pub next_start : (first : ℕ) (ws : List ℕ) (k at length : ℕ) → at ≡ start_from first ws k → length ≡ word ws at
    → at + length ≡ start_from first ws (k + 1)
unfolding start_from behind_body
next_start first ws k at length here long =
    ap (λ (n : ℕ). at + n) long ∙ ap (λ (n : ℕ). n + word ws n) here ∙ ap (start_from first ws) (sym (add-one k))

module _ (h : Header) (ws : List ℕ) where
  abbrev pub number_at : ℕ → ℕ
  number_at k = body_number h ws (body_start h ws k) (eqb (k + 1) h.bodies)

  pub none-refused : 0 ≡ bodies_number h ws 0
  unfolding bodies_number
  none-refused = refl

  -- one body more
  pub one_more : (k n : ℕ) → 0 ≡ bodies_number h ws k → n ≡ number_at k → n ≡ bodies_number h ws (k + 1)
  unfolding bodies_number or_else
  one_more k n none here =
      here ∙ ap (λ (m : ℕ). body_number h ws (body_start h ws k) (eqb m h.bodies)) (add-one k)
      ∙ ap (λ (m : ℕ). cond (eqb m 0) (body_number h ws (body_start h ws k) (eqb (suc k) h.bodies)) m) none
      ∙ ap (bodies_number h ws) (sym (add-one k))

  -- the number of a refused body stays, whatever follows
  pub stays : (k j n : ℕ) → n ≡ bodies_number h ws k → (n ≡ 0 → ⊥) → n ≡ bodies_number h ws (k + j)
  unfolding bodies_number or_else
  stays k zero n here some = rw (add-zero k) here
  stays k (suc j) n here some =
      let same = stays k j n here some in
      let not_None = ne_eqb (bodies_number h ws (k + j)) 0 (λ e. some (same ∙ e)) in
      rw (add-suc k j) (rw not_None same)
