-- True counts: a call that finds the counts true is never refused 30, answers and paints as it does without counts, and hands back counts
-- that are true again. So it is with any list of calls.
use Prim.Native.Nat.{ℕ, ◌+◌, ◌*◌, ◌/◌, ◌%◌, ◌<◌, ◌≤◌}
use mathlib.Core.Path.{◌≡◌, refl, sym, ap, ap₂, ◌∙◌}
use mathlib.Core.Bool.{Bool, true, false, cond}
use mathlib.Core.List.{List, [], ◌∷◌, map}
use native.Mathlib.Omega.{arith}
use lib.Dec.{eqb, ltb}
use lib.ListN.{length, replicate, length-replicate, get_or-replicate}
use lib.Seq.{ext_get_or}
use borrow.Author.Tests.{le-ltb, eqb-true}
use Rattle.words.specs.Word.{word, bit_of, over, table}
use Rattle.words.specs.Refusal.{first_of, or_else}
use Rattle.words.proofs.Digits.{bit-zero}
use Rattle.words.proofs.Search.{none_passes}
use Rattle.words.proofs.Over.{over-at, over-length}
use Rattle.words.proofs.Tables.{table-length, table_at}
use Rattle.words.proofs.Rows.{row_room}
use Rattle.paint.specs.declared.Shape.{Shape}
use Rattle.paint.specs.Panel.{panel_words, bad_panel, strip_of}
use Rattle.paint.specs.Rule.{panel_dot}
use Rattle.paint.specs.Label.{paint_after}
use Rattle.paint.proofs.Accepted.{good-panel, strip-fits}
use Rattle.paint.proofs.Slices.{passed-alone}
use Rattle.sheets.specs.Sheet.{apply_after, clear_number, clear_after}
use Rattle.counts.specs.Lit.{lit, area, gained, lost, TrueCounts, some_over, leaves, some_leaves, count_number, new_counts}
use Rattle.counts.specs.Lit.{Counted, counted_of}
use Rattle.counts.specs.Calls.{PanelCall, painting, applying, clearing, plain_number, plain_after, counted_by, clear_counted}
use Rattle.counts.specs.Calls.{plain_all, plain_numbers, counted_all, panel_after_all, counts_after_all}
use Rattle.counts.proofs.Sums.{dots-none}
use Rattle.counts.proofs.Balance.{balance, lit-le}

-- ---- one call

module _ (s : Shape) (before after counts : List ℕ) (true-before : TrueCounts s before counts) where
  not-over : (k : ℕ) → k < 32 → ltb (area s k) (word counts k) ≡ false
  not-over k less =
      let held = true-before.each k (omega arith) in
      let most = lit-le s k before in
      le-ltb (area s k) (word counts k) (omega arith)

  stays_within : (k : ℕ) → k < 32 → leaves (area s k) (word counts k) (gained s k before after) (lost s k before after) ≡ false
  unfolding leaves
  stays_within k less =
      let held = true-before.each k (omega arith) in
      let most = lit-le s k after in
      let even = balance s k before after in
      rw (
        le-ltb (word counts k + gained s k before after) (lost s k before after) (omega arith),
        le-ltb (area s k + lost s k before after) (word counts k + gained s k before after) (omega arith),
      )

  -- they are not refused, whatever the panel becomes
  pub true-number : count_number s before after counts ≡ 0
  unfolding count_number some_over some_leaves first_of
  true-number = rw (none_passes _ 32 not-over, none_passes _ 32 stays_within)

  -- and become what is true then
  pub true-stays : TrueCounts s after (new_counts s before after counts)
  unfolding new_counts
  true-stays = record {
    all = over-length 32 _ counts ∙ true-before.all;
    each = λ k small.
        let all = true-before.all in
        let held = true-before.each k small in
        let even = balance s k before after in
        over-at 32 _ counts k (omega arith) (omega arith) ∙ omega arith;
  }

-- what a call that is given true counts leaves, by its number without them: where that is not 0, it alters nothing
module _ (s : Shape) (own : ℕ) (before after counts : List ℕ) (true-before : TrueCounts s before counts) where
  abbrev called : Counted
  called = counted_of s own before after counts

  counted-number : called.number ≡ own
  unfolding counted_of or_else
  counted-number = by_number (eqb own 0) refl
    where
      by_number : (t : Bool) → eqb own 0 ≡ t → cond t (count_number s before after counts) own ≡ own
      by_number true e = true-number s before after counts true-before ∙ sym (eqb-true own 0 e)
      by_number false e = refl

  counted-panel : (eqb own 0 ≡ false → after ≡ before) → called.panel ≡ after
  unfolding counted_of
  counted-panel idle = rw counted-number (by_number (eqb own 0) refl)
    where
      by_number : (t : Bool) → eqb own 0 ≡ t → cond t after before ≡ after
      by_number true e = refl
      by_number false e = sym (idle e)

  counted-true : TrueCounts s called.panel called.counts
  unfolding counted_of
  counted-true = by_number (eqb called.number 0)
    where
      by_number : (t : Bool) → TrueCounts s (cond t after before) (cond t (new_counts s before after counts) counts)
      by_number true = true-stays s before after counts true-before
      by_number false = true-before

-- a refused call alters nothing
pub refused-idle : (s : Shape) (call : PanelCall) (panel : List ℕ) → eqb (plain_number s call panel) 0 ≡ false
    → plain_after s call panel ≡ panel
unfolding plain_number plain_after paint_after apply_after clear_after
refused-idle s (painting call) panel e = rw e
refused-idle s (applying sheet) panel e = rw e
refused-idle s clearing panel e = rw e

-- from true counts no call is refused 30, and the counts handed back are true
pub true-call : (s : Shape) (call : PanelCall) (panel counts : List ℕ) → TrueCounts s panel counts
    → ((counted_by s call panel counts).number ≡ plain_number s call panel)
    × ((counted_by s call panel counts).panel ≡ plain_after s call panel)
    × TrueCounts s (plain_after s call panel) (counted_by s call panel counts).counts
true-call s call panel counts true-before =
    let number = plain_number s call panel in
    let after = plain_after s call panel in
    let same = counted-panel s number panel after counts true-before (refused-idle s call panel) in (
      counted-number s number panel after counts true-before,
      same,
      rw same at (counted-true s number panel after counts true-before),
    )

-- ---- "so true counts stay true over any list of such calls for one panel size", refused ones among them

module _ (s : Shape) where
  pub true-panel : (calls : List PanelCall) (panel counts : List ℕ) → TrueCounts s panel counts
      → panel_after_all s calls panel counts ≡ plain_all s calls panel
  unfolding panel_after_all plain_all
  true-panel [] panel counts holds = refl
  true-panel (call ∷ calls) panel counts holds =
      let one = true-call s call panel counts holds in
      let next = (counted_by s call panel counts).counts in
      ap (λ (p : List ℕ). panel_after_all s calls p next) one.1 ∙ true-panel calls (plain_after s call panel) next one.2

  pub true-numbers : (calls : List PanelCall) (panel counts : List ℕ) → TrueCounts s panel counts
      → map (λ (c : Counted). c.number) (counted_all s calls panel counts) ≡ plain_numbers s calls panel
  unfolding counted_all plain_numbers
  true-numbers [] panel counts holds = refl
  true-numbers (call ∷ calls) panel counts holds =
      let one = true-call s call panel counts holds in
      let next = (counted_by s call panel counts).counts in
      ap₂ ◌∷◌ one.0
      (ap (λ (p : List ℕ). map (λ (c : Counted). c.number) (counted_all s calls p next)) one.1
      ∙ true-numbers calls (plain_after s call panel) next one.2)

  pub true-counts : (calls : List PanelCall) (panel counts : List ℕ) → TrueCounts s panel counts
      → TrueCounts s (plain_all s calls panel) (counts_after_all s calls panel counts)
  unfolding counts_after_all plain_all
  true-counts [] panel counts holds = holds
  true-counts (call ∷ calls) panel counts holds =
      let one = true-call s call panel counts holds in
      let next = (counted_by s call panel counts).counts in
      rw one.1 (true-counts calls (plain_after s call panel) next one.2)

-- ---- every panel has true counts, and no others

pub same-counts : (s : Shape) (panel a b : List ℕ) → TrueCounts s panel a → TrueCounts s panel b → a ≡ b
same-counts s panel a b ta tb =
    ext_get_or 0 a b (ta.all ∙ sym tb.all)
    (λ k room. let all = ta.all in ta.each k (omega arith) ∙ sym (tb.each k (omega arith)))

pub counts_of : (s : Shape) (panel : List ℕ) → TrueCounts s panel (table 32 (λ k. lit s k panel))
counts_of s panel = record {
  all = table-length 32 (λ k. lit s k panel);
  each = λ k small. table_at 32 (λ k. lit s k panel) k (omega arith);
}

-- ---- a panel of zeros

abbrev pub zeros : List ℕ
zeros = replicate 32 0

-- how one starts: zeros are true of a panel whose words are 0
module _ (s : Shape) (panel : List ℕ) (room : bad_panel s (length panel ∷ []) ≡ false)
    (dark : (i : ℕ) → i < panel_words s → word panel i ≡ 0) where
  dark-strip : (k : ℕ) → k ≤ 31 → lit s k panel ≡ 0
  unfolding lit panel_dot
  dark-strip k small =
      let good = good-panel s (length panel) room in
      let fits = strip-fits k s.width s.rowwords small good.strips in
      dots-none (strip_of s k) 0 s.rows _
      (λ row column _ down _ across.
      let place = row * s.rowwords + column / 16 in
      let inside = row_room row s.rows s.rowwords (panel_words s) (omega arith) (omega arith) in
      ap (λ (w : ℕ). bit_of w (column % 16)) (dark place (omega arith)) ∙ bit-zero (column % 16))

  pub zeros-true : TrueCounts s panel zeros
  zeros-true = record {
    all = length-replicate {A = ℕ} 32 0;
    each = λ k small. get_or-replicate {A = ℕ} 32 k 0 0 (omega arith) ∙ sym (dark-strip k small);
  }

-- what clearing leaves: zeros, from true counts
module _ (s : Shape) (panel : List ℕ) (room : bad_panel s (length panel ∷ []) ≡ false) where
  cleared : clear_after s panel ≡ over (panel_words s) (λ i. 0) panel
  unfolding clear_after clear_number
  cleared = rw (← passed-alone s (length panel) room)

  pub cleared-dark : (i : ℕ) → i < panel_words s → word (clear_after s panel) i ≡ 0
  cleared-dark i less =
      rw cleared (over-at (panel_words s) (λ i. 0) panel i less (good-panel s (length panel) room).long)

  pub clearing-zeros : (counts : List ℕ) → TrueCounts s panel counts → (clear_counted s panel counts).counts ≡ zeros
  unfolding plain_number plain_after
  clearing-zeros counts holds =
      let long = ap length cleared ∙ over-length (panel_words s) (λ i. 0) panel in
      let still = ap (λ (n : ℕ). bad_panel s (n ∷ [])) long ∙ room in
      same-counts s (clear_after s panel) _ zeros
      (true-call s clearing panel counts holds).2
      (zeros-true s (clear_after s panel) still cleared-dark)
