-- What a list of calls does to a word, as one effect. Painting the list applies it and gathering the list joins it, so the laws of
-- demand 3 are laws of effects.
use Prim.Native.Nat.{ℕ}
use mathlib.Core.Path.{◌≡◌, refl, sym, ap, ◌∙◌}
use mathlib.Core.Bool.{Bool, true, false, cond}
use mathlib.Core.List.{List, [], ◌∷◌, ◌++◌}
use native.Mathlib.Omega.{arith}
use lib.Dec.{eqb}
use lib.ListN.{length}
use Rattle.words.specs.declared.Effect.{Effect}
use Rattle.words.specs.Refusal.{or_else}
use Rattle.words.specs.Effect.{identity, join_of, altered, OfWords}
use Rattle.words.proofs.Effects.{join-assoc, identity-join, join-words}
use Rattle.words.proofs.Altering.{AllWords, altered-idle, altered-twice, altered-length, altered-words}
use Rattle.fonts.specs.Reading.{font_number}
use Rattle.paint.specs.declared.Shape.{Shape}
use Rattle.paint.specs.Panel.{panel_words, bad_panel, panel_number}
use Rattle.paint.specs.Label.{Call, label_number, number_with, call_number, call_effect, paint_after}
use Rattle.paint.proofs.Accepted.{good-panel}
use Rattle.paint.proofs.Demand.{call-words}
use Rattle.paint.proofs.Slices.{passed-alone}
use Rattle.sheets.specs.Calls.{paint_all}

-- the number of a call whose panel and sheets are long enough: the font's, and then the label's own
unfoldable pub own_number : Call → ℕ
own_number call = or_else (font_number call.font) (label_number call.label (length call.text))

-- what a call does to word i: nothing where it is refused
unfoldable pub step_effect : Shape → Call → ℕ → Effect
step_effect s call i = cond (eqb (own_number call) 0) (call_effect s call i) identity

-- what a list of calls does to it, in order
unfoldable pub calls_effect : Shape → List Call → ℕ → Effect
calls_effect s [] i = identity
calls_effect s (call ∷ calls) i = join_of (step_effect s call i) (calls_effect s calls i)

pub own_is : (s : Shape) (lent : List ℕ) (call : Call) → 0 ≡ panel_number s lent → call_number s lent call ≡ own_number call
unfolding call_number number_with own_number or_else
own_is s lent call good = rw (← good)

-- ---- effects of words

identity-words : OfWords identity
identity-words = (omega arith, omega arith)

choice-words : (t : Bool) (e : Effect) → OfWords e → OfWords (cond t e identity)
choice-words true e h = h
choice-words false e h = identity-words

pub step_words : (s : Shape) (call : Call) (i : ℕ) → OfWords (step_effect s call i)
unfolding step_effect
step_words s call i = choice-words (eqb (own_number call) 0) (call_effect s call i) (call-words s call i)

pub calls-words : (s : Shape) (calls : List Call) (i : ℕ) → OfWords (calls_effect s calls i)
unfolding calls_effect
calls-words s [] i = identity-words
calls-words s (call ∷ calls) i = join-words (step_effect s call i) (calls_effect s calls i) (step_words s call i) (calls-words s calls i)

-- the effect of a list cut in two is the join of the parts'
pub calls-cut : (s : Shape) (xs ys : List Call) (i : ℕ) → calls_effect s (xs ++ ys) i ≡ join_of (calls_effect s xs i) (calls_effect s ys i)
unfolding calls_effect
calls-cut s [] ys i = sym (identity-join (calls_effect s ys i) (calls-words s ys i))
calls-cut s (x ∷ xs) ys i =
    ap (join_of (step_effect s x i)) (calls-cut s xs ys i)
    ∙ sym (join-assoc (step_effect s x i) (calls_effect s xs i) (calls_effect s ys i))

-- ---- painting a list

module _ (s : Shape) where
  chosen : (t : Bool) (call : Call) (panel : List ℕ) → AllWords panel
      → cond t (altered 0 (panel_words s) (call_effect s call) panel) panel
      ≡ altered 0 (panel_words s) (λ i. cond t (call_effect s call i) identity) panel
  chosen true call panel words = refl
  chosen false call panel words = sym (altered-idle 0 (panel_words s) (λ i. identity) panel words (λ j less. refl))

  pub paint-step : (call : Call) (panel : List ℕ) → bad_panel s (length panel ∷ []) ≡ false → AllWords panel
      → paint_after s call panel ≡ altered 0 (panel_words s) (step_effect s call) panel
  unfolding paint_after step_effect
  paint-step call panel good words =
      let own = own_is s (length panel ∷ []) call (passed-alone s (length panel) good) in
      ap (λ (n : ℕ). cond (eqb n 0) (altered 0 (panel_words s) (call_effect s call) panel) panel) own
      ∙ chosen (eqb (own_number call) 0) call panel words

  pub paint-all : (calls : List Call) (panel : List ℕ) → bad_panel s (length panel ∷ []) ≡ false → AllWords panel
      → paint_all s calls panel ≡ altered 0 (panel_words s) (calls_effect s calls) panel
  unfolding paint_all calls_effect
  paint-all [] panel good words = sym (altered-idle 0 (panel_words s) (λ i. identity) panel words (λ j less. refl))
  paint-all (call ∷ calls) panel good words =
      let next = altered 0 (panel_words s) (step_effect s call) panel in
      let room = ap (λ (n : ℕ). bad_panel s (n ∷ [])) (altered-length 0 (step_effect s call) panel (panel_words s)) ∙ good in
      let still = altered-words 0 (panel_words s) (step_effect s call) panel (step_words s call) words in
      ap (paint_all s calls) (paint-step call panel good words)
      ∙ paint-all calls next room still
      ∙ altered-twice (panel_words s) (step_effect s call) (calls_effect s calls) panel (good-panel s (length panel) good).long
