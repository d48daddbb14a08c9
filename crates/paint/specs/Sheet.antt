-- What a sheet is: the paper's "Sheets", its first sentences. What fresh, join, apply and gather do with one stands in `sheets`.
use Rattle.std.specs.Prelude.{ℕ, List, [], ◌∷◌, length}
use Rattle.words.specs.declared.Effect.{Effect}
use Rattle.words.specs.Word.{word, over}
use Rattle.words.specs.Effect.{join_of}
use Rattle.paint.specs.declared.Shape.{Shape}
use Rattle.paint.specs.Panel.{panel_words}

-- "A sheet is two slices in the panel's shape, keep and flip."
pub record Sheet : Type 0 where
  pub keep : List ℕ
  pub flip : List ℕ

abbrev pub sheet_of : List ℕ → List ℕ → Sheet
sheet_of keep flip = record { keep = keep; flip = flip }

unfoldable pub lengths : Sheet → List ℕ
lengths sheet = length sheet.keep ∷ length sheet.flip ∷ []

abbrev pub lengths_of : List ℕ → List ℕ → List ℕ
lengths_of keep flip = lengths (sheet_of keep flip)

-- the effect that a sheet holds for word i
abbrev pub effect_at : Sheet → ℕ → Effect
effect_at sheet i = record { keep = word sheet.keep i; flip = word sheet.flip i }

-- a sheet whose first R × H effects have become f 0, f 1, .., and whose rest stays
unfoldable pub written : Shape → (ℕ → Effect) → Sheet → Sheet
written s f sheet =
    record {
      keep = over (panel_words s) (λ i. (f i).keep) sheet.keep;
      flip = over (panel_words s) (λ i. (f i).flip) sheet.flip;
    }

-- a sheet with an effect joined onto each of its own
abbrev pub joined : Shape → (ℕ → Effect) → Sheet → Sheet
joined s then sheet = written s (λ i. join_of (effect_at sheet i) (then i)) sheet
