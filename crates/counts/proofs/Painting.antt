-- Painting with counts: the label's own strip alone decides, by its lit dots in the rows that the label may reach, and only its count
-- moves.
use Prim.Native.Nat.{ℕ, ◌+◌, ◌-◌, ◌*◌, ◌≤◌}
use mathlib.Core.Path.{◌≡◌, refl, sym, ap, ap₂, ◌∙◌}
use mathlib.Core.Bool.{Bool, true, false, cond, ◌||◌}
use mathlib.Core.List.{List, [], ◌∷◌}
use native.Mathlib.Nat.{zero-add}
use native.Mathlib.Omega.{arith}
use lib.Dec.{eqb}
use lib.ListN.{length, set}
use Rattle.words.specs.Word.{word, over}
use Rattle.std.specs.declared.result.Result.{Result}
use Rattle.std.specs.declared.result.Result.TheVariants.{Ok, Err}
use Rattle.words.specs.declared.refusal.Refusal.{Refusal}
use Rattle.words.specs.declared.refusal.Refusal.TheVariants.{LitDots}
use Rattle.words.specs.Refusal.{number_of, returned, first_of}
use Rattle.words.proofs.Refusals.{answered-refusal}
use Rattle.words.specs.Effect.{altered}
use Rattle.words.proofs.Altering.{AllWords, altered-length}
use Rattle.words.proofs.Over.{over-one}
use Rattle.fonts.specs.declared.View.{View}
use Rattle.fonts.specs.Face.{Face, face_from, face_of}
use Rattle.paint.specs.declared.Shape.{Shape}
use Rattle.paint.specs.declared.Label.{Label}
use Rattle.paint.specs.declared.Finish.{Finish}
use Rattle.paint.specs.Panel.{panel_words}
use Rattle.paint.specs.Label.{Call, call_of, number_with, call_number}
use Rattle.paint.specs.Label.{effect_with, paint_after, paint_with, finish_of, reply_for, reply_of, last_pen}
use Rattle.paint.proofs.Replies.{number_read, paint-read}
use Rattle.paint.proofs.Accepted.{accepted-label}
use Rattle.counts.specs.Lit.{lit, area, gained, lost, leaves, some_over, count_number, new_counts}
use Rattle.counts.specs.Calls.{paint_counted, painted_of, painted_by}
use Rattle.counts.specs.Band.{lit_reached, left_reached, Read}
use Rattle.counts.proofs.Apart.{none-gained, none-lost}
use Rattle.counts.proofs.Agreeing.{own-decides}
use Rattle.counts.proofs.Balance.{balance}
use Rattle.counts.proofs.Settling.{leaves-same, leaves_alike}
use Rattle.counts.proofs.Settling.{own-number, counts-number, panel-stays, counts-stay, panel-done, counts-done}
use Rattle.counts.proofs.Reached.{reached-alone}

-- what a call answers, and the panel that it leaves
abbrev pub Answers : Result (Finish × List ℕ) Refusal → List ℕ → Shape → Call → List ℕ → List ℕ → Type 0
Answers answer left s call panel counts =
    (painted_by answer counts ≡ painted_of s call panel counts)
    × (returned answer ≡ (paint_counted s call panel counts).number)
    × (left ≡ (paint_counted s call panel counts).panel)

module _ (s : Shape) (call : Call) (panel counts : List ℕ) where
  -- ---- a call that is refused

  refused-as : (refusal : Refusal) → number_of refusal ≡ (paint_counted s call panel counts).number
      → Answers (Err refusal) panel s call panel counts
  refused-as refusal e =
      let own = call_number s (length panel ∷ []) call in
      let after = paint_after s call panel in
      let finish = finish_of (last_pen (face_of call.font) call.label.x call.text) in (
        (λ i. record { reply = answered-refusal refusal _ finish e i; counts = counts-stay s own panel after counts refusal e i }),
        e,
        panel-stays s own panel after counts refusal e,
      )

  -- by another number
  pub refused-before : (refusal : Refusal) → number_of refusal ≡ call_number s (length panel ∷ []) call
      → Answers (Err refusal) panel s call panel counts
  refused-before refusal e = refused-as refusal (own-number s _ panel (paint_after s call panel) counts refusal e)

  -- for the counts
  module _ (accepted : call_number s (length panel ∷ []) call ≡ 0) where
    refused-for-counts : count_number s panel (paint_after s call panel) counts ≡ 30 → Answers (Err LitDots) panel s call panel counts
    refused-for-counts e = refused-as LitDots (counts-number s _ panel (paint_after s call panel) counts 30 (sym accepted) (sym e))

    pub refused-for-over : some_over s counts ≡ true → Answers (Err LitDots) panel s call panel counts
    unfolding count_number first_of
    refused-for-over over-it = refused-for-counts (rw over-it)

    -- ---- one that is done
    pub done-as : count_number s panel (paint_after s call panel) counts ≡ 0 → (finish : Finish) (new : List ℕ)
        → Ok finish ≡ reply_of s (length panel ∷ []) call → new ≡ new_counts s panel (paint_after s call panel) counts
        → Answers (Ok (finish, new)) (paint_after s call panel) s call panel counts
    unfolding reply_of
    done-as none finish new reply same =
        let own = call_number s (length panel ∷ []) call in
        let after = paint_after s call panel in
        let number = counts-number s own panel after counts 0 (sym accepted) (sym none) in
        let told = reply ∙ ap (λ (n : ℕ). reply_for n (last_pen (face_of call.font) call.label.x call.text)) (accepted ∙ number) in (
          (λ i. record { reply = told i; counts = (same ∙ counts-done s own panel after counts number) i }),
          number,
          panel-done s own panel after counts number,
        )

-- ---- the panel stays as long

pub painted-length : (face : Face) (s : Shape) (l : Label) (text panel : List ℕ) → length (paint_with face s l text panel) ≡ length panel
unfolding paint_with
painted-length face s l text panel = by_number (eqb (number_with s (length panel ∷ []) l (length text)) 0)
  where
    by_number : (t : Bool) → length (cond t (altered 0 (panel_words s) (effect_with face s l text) panel) panel) ≡ length panel
    by_number true = altered-length 0 (effect_with face s l text) panel (panel_words s)
    by_number false = refl

-- ---- one that only 30 can refuse

module _ (v : View) (font : List ℕ) (s : Shape) (l : Label) (text panel counts : List ℕ) (read : Read v font)
    (accepted : number_with s (length panel ∷ []) l (length text) ≡ 0) (words : AllWords panel) where
  abbrev call : Call
  call = call_of font l text

  abbrev k : ℕ
  k = l.strip

  abbrev held : ℕ
  held = word counts k

  abbrev after : List ℕ
  after = paint_after s call panel

  painted-is : paint_with (face_from v font) s l text panel ≡ after
  painted-is = paint-read font v read.1 read.0 s l text panel

  number_is : call_number s (length panel ∷ []) call ≡ 0
  number_is = sym (number_read font v read.1 read.0 s l text (length panel ∷ [])) ∙ accepted

  own-strip : k ≤ 31
  own-strip = (accepted-label s (length panel) l (length text) (sym accepted)).strip

  -- the lit dots of the strip in the rows that are reached, as they were and as the label leaves them
  abbrev were : ℕ
  were = lit_reached v font s l panel

  abbrev left : ℕ
  left = left_reached v font s l text panel

  reached : lit s k after + were ≡ lit s k panel + left
  reached =
      let alone = reached-alone v font s l text panel accepted words in
      let same = ap (lit s k) painted-is in
      omega (arith, alone, same)

  own-leaves : leaves (s.width * s.rows) held left were ≡ leaves (area s k) held (gained s k panel after) (lost s k panel after)
  own-leaves =
      let moved = reached in
      leaves-same (s.width * s.rows) held left were (lit s k after) (lit s k panel) (omega (arith, moved))
      ∙ leaves_alike s panel after k held

  module _ (none_over : some_over s counts ≡ false) where
    decided : count_number s panel after counts ≡ first_of ((false || leaves (s.width * s.rows) held left were, 30) ∷ [])
    decided =
        own-decides s call panel counts words k own-strip refl
        ∙ ap₂ (λ t u. first_of ((t || u, 30) ∷ [])) none_over (sym own-leaves)

    pub refused-by-30 : leaves (s.width * s.rows) held left were ≡ true → Answers (Err LitDots) panel s call panel counts
    unfolding first_of
    refused-by-30 out =
        refused-for-counts s call panel counts number_is (decided ∙ ap (λ t. first_of ((false || t, 30) ∷ [])) out)

    -- only its own count moves
    one-count : new_counts s panel after counts ≡ set counts k (held + left - were)
    unfolding new_counts over
    one-count =
        let f : ℕ → ℕ = λ j. word counts j + gained s j panel after - lost s j panel after in
        let others : (j : ℕ) → j ≤ 31 → (k ≡ j → ⊥) → f j ≡ word counts j = λ j small apart.
        let more = none-gained s call panel words j small apart in
        let fewer = none-lost s call panel words j small apart in
        omega (arith, more, fewer) in
        let one = own-strip in
        let sum = balance s k panel after in
        let moved = reached in
        let own : f k ≡ held + left - were = omega (arith, sum, moved) in
        let size : 32 ≡ 0 + k + 1 + (31 - k) = omega (arith, one) in
        ap (λ (n : ℕ). over n f counts) size
        ∙ over-one 0 k (31 - k) f counts
        (λ j less. others (0 + j) (omega (arith, less, one)) (λ e. absurd (omega (arith, e, less))))
        (λ j less. others (0 + k + 1 + j) (omega (arith, less, one)) (λ e. absurd (omega (arith, e))))
        ∙ ap (λ (n : ℕ). set counts n (f n)) (zero-add k)
        ∙ ap (set counts k) own

    pub done-by : leaves (s.width * s.rows) held left were ≡ false → (finish : Finish)
        → Ok finish ≡ reply_of s (length panel ∷ []) call → (new : List ℕ) → new ≡ set counts k (held + left - were)
        → Answers (Ok (finish, new)) after s call panel counts
    unfolding first_of
    done-by stays finish reply new same =
        let none = decided ∙ ap (λ t. first_of ((false || t, 30) ∷ [])) stays in
        done-as s call panel counts number_is none finish new reply (same ∙ sym one-count)
