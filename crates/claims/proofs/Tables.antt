-- Tables whose rows are what the definitions give and what the paper says. The check of one declaration may take only so many steps, so a
-- large table is computed part by part.
use mathlib.Core.Path.{◌≡◌, sym, ap₂, ◌∙◌}
use mathlib.Core.List.{List, ◌++◌, map, map-append}

module _ {A : Type 0} where
  -- every row comes out as it says
  unfoldable pub Hold : List (A × A) → Type 0
  Hold rows = map (λ r. r.0) rows ≡ map (λ r. r.1) rows

  pub both_hold : (a b : List (A × A)) → Hold a → Hold b → Hold (a ++ b)
  unfolding Hold
  both_hold a b p q = map-append (λ r. r.0) a b ∙ ap₂ ◌++◌ p q ∙ sym (map-append (λ r. r.1) a b)
