-- "From true counts demands 2 and 3 hold, and an applied sheet leaves the counts that the same labels painted in turn leave." The exchange
-- of calls stands in `proofs/Exchange`. Gathering and joining have no counts, so what `sheets: proofs/Laws` says of them stays as it is.
use Prim.Native.Nat.{ℕ, ◌*◌, ◌<◌, ◌≤◌}
use mathlib.Core.Path.{◌≡◌, refl, sym, ap, ◌∙◌}
use mathlib.Core.Bool.{Bool, true, false, cond}
use mathlib.Core.List.{List, [], ◌∷◌}
use native.Mathlib.Omega.{arith}
use lib.Dec.{eqb}
use lib.ListN.{length}
use borrow.Author.Tests.{ne_eqb}
use Rattle.words.specs.Word.{word, table}
use Rattle.words.specs.Effect.{identity}
use Rattle.words.proofs.Passed.{stages-passed}
use Rattle.words.proofs.Altering.{AllWords}
use Rattle.words.proofs.Over.{over-at}
use Rattle.fonts.specs.Face.{face_of}
use Rattle.paint.specs.declared.Shape.{Shape}
use Rattle.paint.specs.Panel.{bad_panel}
use Rattle.paint.specs.Rule.{panel_dot, dot_after}
use Rattle.paint.specs.Label.{Call, call_number, paint_after, last_pen, reply_for, reply_of}
use Rattle.paint.specs.Sheet.{Sheet}
use Rattle.paint.proofs.Demand.{painted-dot}
use Rattle.sheets.specs.Sheet.{SameSheet, fresh_after, apply_number, apply_after}
use Rattle.sheets.specs.Calls.{paint_all, gather_all}
use Rattle.sheets.proofs.Done.{Passed, all-passed}
use Rattle.sheets.proofs.Holding.{Lent, fresh_holds, gather-all-holds}
use Rattle.sheets.proofs.Laws.{gather-apply, equal-treat-alike, alike-are-equal}
use Rattle.counts.specs.Lit.{lit, TrueCounts, new_counts, Counted, counted_of}
use Rattle.counts.specs.Calls.{paint_counted, painted_of, apply_counted, painting, applying, plain_number, plain_after, plain_all, labels}
use Rattle.counts.specs.Calls.{panel_after_all, counts_after_all}
use Rattle.counts.proofs.Apart.{none-gained, none-lost}
use Rattle.counts.proofs.Truth.{true-call, true-panel, true-counts, same-counts, counts_of}

-- "any refusal hands back the counts given", and alters nothing
pub refused-stays : (s : Shape) (own : ℕ) (before after counts : List ℕ) → ((counted_of s own before after counts).number ≡ 0 → ⊥)
    → ((counted_of s own before after counts).panel ≡ before) × ((counted_of s own before after counts).counts ≡ counts)
unfolding counted_of
refused-stays s own before after counts some = let e = ne_eqb _ 0 some in (rw e, rw e)

-- ---- demand 2

-- a call that is done leaves the panel that it leaves without counts, whatever the counts
pub done-panel : (s : Shape) (call : Call) (panel counts : List ℕ) → (paint_counted s call panel counts).number ≡ 0
    → (call_number s (length panel ∷ []) call ≡ 0) × ((paint_counted s call panel counts).panel ≡ paint_after s call panel)
unfolding counted_of
done-panel s call panel counts none = ((stages-passed _ _ none).0, rw none)

-- so it changes exactly the dots that the painting rule names
pub counted-dot : (s : Shape) (call : Call) (panel counts : List ℕ) → AllWords panel → (paint_counted s call panel counts).number ≡ 0
    → (row column : ℕ) → row < s.rows → column < 16 * s.rowwords
    → panel_dot s (paint_counted s call panel counts).panel row column ≡ dot_after s call row column (panel_dot s panel row column)
counted-dot s call panel counts words none row column down across =
    let ended = done-panel s call panel counts none in
    ap (λ (p : List ℕ). panel_dot s p row column) ended.1 ∙ painted-dot s call panel words (sym ended.0) row column down across

-- from true counts each call is done that is done without them: with the same reply and the same panel
module _ (s : Shape) (call : Call) (panel counts : List ℕ) (holds : TrueCounts s panel counts) where
  pub paint-reply : (painted_of s call panel counts).reply ≡ reply_of s (length panel ∷ []) call
  unfolding plain_number plain_after reply_of
  paint-reply =
      ap (λ (n : ℕ). reply_for n (last_pen (face_of call.font) call.label.x call.text))
      (true-call s (painting call) panel counts holds).0

  pub paint-panel : (paint_counted s call panel counts).panel ≡ paint_after s call panel
  unfolding plain_number plain_after
  paint-panel = (true-call s (painting call) panel counts holds).1

  pub paint-counts : TrueCounts s (paint_after s call panel) (painted_of s call panel counts).counts
  unfolding plain_number plain_after
  paint-counts = (true-call s (painting call) panel counts holds).2

-- only the count of the call's own strip can change, whatever the counts
pub other-count : (s : Shape) (call : Call) (panel counts : List ℕ) → AllWords panel → length counts ≡ 32
    → (k : ℕ) → k ≤ 31 → (call.label.strip ≡ k → ⊥) → word (paint_counted s call panel counts).counts k ≡ word counts k
unfolding counted_of new_counts
other-count s call panel counts words all k small other = by_number (eqb (paint_counted s call panel counts).number 0)
  where
    by_number : (t : Bool) → word (cond t (new_counts s panel (paint_after s call panel) counts) counts) k ≡ word counts k
    by_number true =
        let more = none-gained s call panel words k small other in
        let fewer = none-lost s call panel words k small other in
        over-at 32 _ counts k (omega arith) (omega arith) ∙ omega arith
    by_number false = refl

-- ---- demand 3

-- labels painted in turn without counts
plain-labels : (s : Shape) (calls : List Call) (panel : List ℕ) → plain_all s (labels calls) panel ≡ paint_all s calls panel
unfolding plain_all plain_after paint_all
plain-labels s [] panel = refl
plain-labels s (call ∷ calls) panel = plain-labels s calls (paint_after s call panel)

apply-good : (s : Shape) (sheet : Sheet) (panel : List ℕ) → Lent s sheet → bad_panel s (length panel ∷ []) ≡ false
    → apply_number s sheet panel ≡ 0
unfolding apply_number Passed
apply-good s sheet panel lent room =
    sym (all-passed s (length sheet.keep) (length sheet.flip ∷ length panel ∷ []) (lent.keep-room, (lent.flip-room, (room, tt))))

-- "a gathered sheet, applied, is painting in turn", and "leaves the counts that the same labels painted in turn leave"
module _ (s : Shape) (calls : List Call) (sheet : Sheet) (panel counts : List ℕ) (lent : Lent s sheet)
    (room : bad_panel s (length panel ∷ []) ≡ false) (words : AllWords panel) (holds : TrueCounts s panel counts) where
  abbrev filled : Sheet
  filled = gather_all s calls (fresh_after s sheet)

  filled-lent : Lent s filled
  filled-lent =
      (gather-all-holds s calls (fresh_after s sheet) (λ i. identity) (λ i. (omega arith, omega arith)) (fresh_holds s sheet lent)).lent

  same-panel : apply_after s filled panel ≡ plain_all s (labels calls) panel
  same-panel = gather-apply s calls sheet panel lent room words ∙ sym (plain-labels s calls panel)

  pub apply-number : (apply_counted s filled panel counts).number ≡ 0
  unfolding plain_number plain_after
  apply-number = (true-call s (applying filled) panel counts holds).0 ∙ apply-good s filled panel filled-lent room

  pub apply-panel : (apply_counted s filled panel counts).panel ≡ panel_after_all s (labels calls) panel counts
  unfolding plain_number plain_after
  apply-panel =
      (true-call s (applying filled) panel counts holds).1 ∙ same-panel ∙ sym (true-panel s (labels calls) panel counts holds)

  pub apply-counts : (apply_counted s filled panel counts).counts ≡ counts_after_all s (labels calls) panel counts
  unfolding plain_number plain_after
  apply-counts =
      same-counts s (apply_after s filled panel) _ _
      (true-call s (applying filled) panel counts holds).2
      (rw same-panel (true-counts s (labels calls) panel counts holds))

-- "two sheets are equal exactly when they treat every panel alike": with its true counts
module _ (s : Shape) (a b : Sheet) (la : Lent s a) (lb : Lent s b) where
  pub equal-count-alike : SameSheet s a b → (panel counts : List ℕ) → bad_panel s (length panel ∷ []) ≡ false
      → apply_counted s a panel counts ≡ apply_counted s b panel counts
  equal-count-alike same panel counts room =
      ap (λ (n : ℕ). counted_of s n panel (apply_after s a panel) counts)
      (apply-good s a panel la room ∙ sym (apply-good s b panel lb room))
      ∙ ap (λ (p : List ℕ). counted_of s (apply_number s b panel) panel p counts) (equal-treat-alike s a b la lb same panel room)

  pub count-alike-are-equal
      : ((panel counts : List ℕ) → bad_panel s (length panel ∷ []) ≡ false → AllWords panel → TrueCounts s panel counts
      → apply_counted s a panel counts ≡ apply_counted s b panel counts)
      → SameSheet s a b
  unfolding plain_number plain_after
  count-alike-are-equal alike =
      alike-are-equal s a b la lb
      (λ panel room words.
      let counts = table 32 (λ k. lit s k panel) in
      let holds = counts_of s panel in
      sym (true-call s (applying a) panel counts holds).1
      ∙ ap (λ (c : Counted). c.panel) (alike panel counts room words holds)
      ∙ (true-call s (applying b) panel counts holds).1)
