-- "in demand 3's exchange the last counts are equal, and in a reply the count of the call's own strip": and the panels are. The counts
-- need not be true: what a list of calls does to a strip and its count is what the calls for that strip do to them.
use Prim.Native.Nat.{ℕ, ◌≤◌}
use mathlib.Core.Path.{◌≡◌, refl, sym, ap, ap₂, ◌∙◌}
use mathlib.Core.Bool.{Bool, true, false, cond}
use mathlib.Core.List.{List, [], ◌∷◌}
use native.Mathlib.Omega.{arith}
use lib.Dec.{eqb}
use lib.ListN.{length}
use lib.Seq.{ext_get_or}
use borrow.Author.Tests.{eqb-true, eqb-false}
use Rattle.words.specs.Word.{word}
use Rattle.words.proofs.Altering.{AllWords}
use Rattle.paint.specs.declared.Shape.{Shape}
use Rattle.paint.specs.Panel.{bad_panel}
use Rattle.paint.specs.Label.{Call, paint_after}
use Rattle.sheets.specs.Calls.{paint_all, of_strip, SameForStrips}
use Rattle.sheets.proofs.Laws.{exchange-panel}
use Rattle.counts.specs.Lit.{Counted, counted_of}
use Rattle.counts.specs.Calls.{PanelCall, paint_counted, plain_number, plain_after, counted_by, counted_all, panel_after_all}
use Rattle.counts.specs.Calls.{counts_after_all}
use Rattle.counts.specs.Calls.{own_answers, labels}
use Rattle.counts.proofs.Agreeing.{counts-length, Held, still-held, AgreeOn, agree-itself, other-agrees, same_number, own-agrees}

-- ---- the calls of a list that are done

unfoldable pub done_of : Shape → List Call → List ℕ → List ℕ → List Call
done_of s [] panel counts = []
done_of s (call ∷ calls) panel counts =
    let first = paint_counted s call panel counts in
    let rest = done_of s calls first.panel first.counts in
    cond (eqb first.number 0) (call ∷ rest) rest

-- the panel that a list leaves is the one that these leave without counts
done-paints : (s : Shape) (calls : List Call) (panel counts : List ℕ)
    → panel_after_all s (labels calls) panel counts ≡ paint_all s (done_of s calls panel counts) panel
unfolding panel_after_all done_of paint_all counted_of plain_number plain_after
done-paints s [] panel counts = refl
done-paints s (call ∷ calls) panel counts =
    let first = paint_counted s call panel counts in
    done-paints s calls first.panel first.counts
    ∙ by_number (eqb first.number 0) (done_of s calls first.panel first.counts)
  where
    by_number : (t : Bool) (rest : List Call)
        → paint_all s rest (cond t (paint_after s call panel) panel) ≡ paint_all s (cond t (call ∷ rest) rest) panel
    by_number true rest = refl
    by_number false rest = refl

-- ---- what a list does to strip k: the calls for it that are done, their answers, and the last count

-- one list from one panel and its counts, and another list from others
pub record AlikeFor (s : Shape) (k : ℕ) (xs : List Call) (p c : List ℕ) (ys : List Call) (q d : List ℕ) : Type 0 where
  pub finished : of_strip k (done_of s xs p c) ≡ done_of s ys q d
  pub answers : own_answers k xs (counted_all s (labels xs) p c) ≡ own_answers k ys (counted_all s (labels ys) q d)
  pub last : word (counts_after_all s (labels xs) p c) k ≡ word (counts_after_all s (labels ys) q d) k

module _ (s : Shape) (k : ℕ) (call : Call) (xs ys : List Call) (p c q d : List ℕ) where
  abbrev first : Counted
  first = paint_counted s call p c

  abbrev second : Counted
  second = paint_counted s call q d

  -- a call for another strip before the first list
  other-call : eqb call.label.strip k ≡ false → AlikeFor s k xs first.panel first.counts ys q d
      → AlikeFor s k (call ∷ xs) p c ys q d
  unfolding done_of of_strip own_answers counted_all counts_after_all plain_number plain_after
  other-call other rest = record {
    finished = by_number (eqb first.number 0) (done_of s xs first.panel first.counts) ∙ rest.finished;
    answers = rw other rest.answers;
    last = rest.last;
  }
    where
      by_number : (t : Bool) (more : List Call) → of_strip k (cond t (call ∷ more) more) ≡ of_strip k more
      by_number true more = rw other
      by_number false more = refl

  -- a call for this strip before both
  own-call : eqb call.label.strip k ≡ true → first.number ≡ second.number → word first.counts k ≡ word second.counts k
      → AlikeFor s k xs first.panel first.counts ys second.panel second.counts → AlikeFor s k (call ∷ xs) p c (call ∷ ys) q d
  unfolding done_of of_strip own_answers counted_all counts_after_all plain_number plain_after
  own-call own number count rest = record {
    finished = ap (λ (n : ℕ). of_strip k (cond (eqb n 0) (call ∷ done_first) done_first)) number ∙ by_number (eqb second.number 0);
    answers = rw own (ap₂ (λ (a : ℕ × ℕ) (more : List (ℕ × ℕ)). a ∷ more) (ap₂ (λ (n m : ℕ). (n, m)) number count) rest.answers);
    last = rest.last;
  }
    where
      done_first : List Call
      done_first = done_of s xs first.panel first.counts

      done-second : List Call
      done-second = done_of s ys second.panel second.counts

      by_number : (t : Bool) → of_strip k (cond t (call ∷ done_first) done_first) ≡ cond t (call ∷ done-second) done-second
      by_number true = rw own (ap (λ (more : List Call). call ∷ more) rest.finished)
      by_number false = rest.finished

-- so a list of calls does to strip k what its calls for that strip do, from panels and counts that agree on it
module _ (s : Shape) (k : ℕ) (small : k ≤ 31) where
  strip-alone : (calls : List Call) (p c q d : List ℕ) → Held s p c → Held s q d → AgreeOn s k p c q d
      → AlikeFor s k calls p c (of_strip k calls) q d
  unfolding of_strip done_of own_answers counted_all counts_after_all
  strip-alone [] p c q d hp hq agree = record { finished = refl; answers = refl; last = agree.count }
  strip-alone (call ∷ calls) p c q d hp hq agree = by-strip (strip-alone calls) (eqb call.label.strip k) refl
    where
      by-strip : ((p c q d : List ℕ) → Held s p c → Held s q d → AgreeOn s k p c q d → AlikeFor s k calls p c (of_strip k calls) q d)
          → (t : Bool) → eqb call.label.strip k ≡ t
          → AlikeFor s k (call ∷ calls) p c (cond t (call ∷ of_strip k calls) (of_strip k calls)) q d
      by-strip rest true e =
          let own = eqb-true call.label.strip k e in
          let both = own-agrees s call k small own p c q d hp hq agree in
          own-call s k call calls (of_strip k calls) p c q d e (same_number s call k small own p c q d hp hq agree) both.count
          (rest _ _ _ _ (still-held s call p c hp) (still-held s call q d hq) both)
      by-strip rest false e =
          other-call s k call calls (of_strip k calls) p c q d e
          (rest _ _ q d (still-held s call p c hp) hq
          (other-agrees s call k small (eqb-false call.label.strip k e) p c q d hp agree))

-- ---- the exchange

all-counts : (s : Shape) (calls : List PanelCall) (panel counts : List ℕ) → length (counts_after_all s calls panel counts) ≡ length counts
unfolding counts_after_all
all-counts s [] panel counts = refl
all-counts s (call ∷ calls) panel counts =
    let first = counted_by s call panel counts in
    all-counts s calls first.panel first.counts
    ∙ counts-length s (plain_number s call panel) panel (plain_after s call panel) counts

module _ (s : Shape) (xs ys : List Call) (same : SameForStrips xs ys) (panel counts : List ℕ)
    (room : bad_panel s (length panel ∷ []) ≡ false) (words : AllWords panel) (all : length counts ≡ 32) where
  alone : (k : ℕ) → k ≤ 31 → (calls : List Call) → AlikeFor s k calls panel counts (of_strip k calls) panel counts
  alone k small calls =
      let held : Held s panel counts = record { room = room; words = words; all = all } in
      strip-alone s k small calls panel counts panel counts held held (agree-itself s k panel counts)

  -- "calls for different strips may change places": the same panel
  pub exchange-counted-panel : panel_after_all s (labels xs) panel counts ≡ panel_after_all s (labels ys) panel counts
  exchange-counted-panel =
      done-paints s xs panel counts
      ∙ exchange-panel s (done_of s xs panel counts) (done_of s ys panel counts)
      (λ k small. (alone k small xs).finished
      ∙ ap (λ (calls : List Call). done_of s calls panel counts) (same k small)
      ∙ sym (alone k small ys).finished)
      panel room words
      ∙ sym (done-paints s ys panel counts)

  -- "the last counts are equal"
  pub exchange-counts : counts_after_all s (labels xs) panel counts ≡ counts_after_all s (labels ys) panel counts
  exchange-counts =
      let long = all-counts s (labels xs) panel counts in
      ext_get_or 0 _ _ (long ∙ sym (all-counts s (labels ys) panel counts))
      (λ k less. last k (omega arith))
    where
      last : (k : ℕ) → k ≤ 31 → word (counts_after_all s (labels xs) panel counts) k ≡ word (counts_after_all s (labels ys) panel counts) k
      last k small =
          (alone k small xs).last
          ∙ ap (λ (calls : List Call). word (counts_after_all s (labels calls) panel counts) k) (same k small)
          ∙ sym (alone k small ys).last

  -- "and in a reply the count of the call's own strip", beside the number
  pub exchange-answers : (k : ℕ) → k ≤ 31
      → own_answers k xs (counted_all s (labels xs) panel counts) ≡ own_answers k ys (counted_all s (labels ys) panel counts)
  exchange-answers k small =
      (alone k small xs).answers
      ∙ ap (λ (calls : List Call). own_answers k calls (counted_all s (labels calls) panel counts)) (same k small)
      ∙ sym (alone k small ys).answers
