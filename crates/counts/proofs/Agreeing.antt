-- Two panels with their counts agree on a strip: in its dots, in its count, and in whether some count is over its area. A call for
-- another strip leaves the agreement; one for this strip is answered alike on both, and leaves them agreeing. The counts need not be true.
use Prim.Native.Nat.{ℕ, ◌+◌, ◌-◌, ◌*◌, ◌<◌, ◌≤◌}
use mathlib.Core.Path.{◌≡◌, refl, sym, ap, ap₂, ◌∙◌}
use mathlib.Core.Bool.{Bool, true, false, cond, ◌||◌}
use mathlib.Core.List.{List, [], ◌∷◌}
use native.Mathlib.Omega.{arith}
use lib.Dec.{eqb, ltb}
use lib.ListN.{length}
use borrow.Author.Tests.{eqb-true, eqb-false, ltb-false, le-ltb}
use Rattle.words.specs.Word.{word}
use Rattle.words.specs.Refusal.{first_of, or_else}
use Rattle.words.specs.Search.{some_below}
use Rattle.words.proofs.Passed.{neither, passed, stages-passed}
use Rattle.words.proofs.Search.{some-here, none_passes, none_below}
use Rattle.words.proofs.Over.{over-at, over-length}
use Rattle.words.proofs.Altering.{AllWords, altered-length, altered-words}
use Rattle.paint.specs.declared.Shape.{Shape}
use Rattle.paint.specs.Panel.{panel_words, bad_panel, strip_of}
use Rattle.paint.specs.Label.{Call, call_number, paint_after}
use Rattle.paint.specs.Rule.{panel_dot, dot_after}
use Rattle.sheets.proofs.Effects.{step_effect, step_words, paint-step}
use Rattle.counts.specs.Lit.{area, gained, lost, some_over, leaves, some_leaves, count_number, new_counts, Counted, counted_of}
use Rattle.counts.specs.Calls.{paint_counted}
use Rattle.counts.proofs.Sums.{dots-same}
use Rattle.counts.proofs.Apart.{strip-dot, other-dot, none-gained, none-lost}
use Rattle.counts.proofs.Laws.{other-count}

-- ---- what no call changes

pub counts-length : (s : Shape) (own : ℕ) (before after counts : List ℕ)
    → length (counted_of s own before after counts).counts ≡ length counts
unfolding counted_of new_counts
counts-length s own before after counts = by_number (eqb (counted_of s own before after counts).number 0)
  where
    by_number : (t : Bool) → length (cond t (new_counts s before after counts) counts) ≡ length counts
    by_number true = over-length 32 _ counts
    by_number false = refl

not_left : (most held more fewer : ℕ) → leaves most held more fewer ≡ false → held + more - fewer ≤ most
unfolding leaves
not_left most held more fewer e =
    let tests = neither (ltb (held + more) fewer) (ltb (most + fewer) (held + more)) e in
    let low = ltb-false (held + more) fewer tests.0 in
    let high = ltb-false (most + fewer) (held + more) tests.1 in
    omega arith

-- a call that is done found no count over its area, and leaves none
within-area : (s : Shape) (before after counts : List ℕ) → length counts ≡ 32 → count_number s before after counts ≡ 0
    → (some_over s counts ≡ false) × (some_over s (new_counts s before after counts) ≡ false)
unfolding count_number some_over some_leaves new_counts first_of
within-area s before after counts all none =
    let tests = neither _ _ (passed _ 30 0 (omega arith) none).0 in (
      tests.0,
      none_passes _ 32
          (λ k less.
          let stays = none_below _ 32 k tests.1 less in
          let most = not_left (area s k) (word counts k) (gained s k before after) (lost s k before after) stays in
          rw (over-at 32 _ counts k less (omega arith)) (le-ltb (area s k) _ most)),
    )

pub over-stays : (s : Shape) (own : ℕ) (before after counts : List ℕ) → length counts ≡ 32
    → some_over s (counted_of s own before after counts).counts ≡ some_over s counts
unfolding counted_of
over-stays s own before after counts all = by_number (eqb (counted_of s own before after counts).number 0) refl
  where
    by_number : (t : Bool) → eqb (or_else own (count_number s before after counts)) 0 ≡ t
        → some_over s (cond t (new_counts s before after counts) counts) ≡ some_over s counts
    by_number true e =
        let ended = within-area s before after counts all (stages-passed own _ (eqb-true _ 0 e)).1 in
        ended.1 ∙ sym ended.0
    by_number false e = refl

-- a panel that 8 does not refuse, of words, with thirty-two counts
pub record Held (s : Shape) (panel counts : List ℕ) : Type 0 where
  pub room : bad_panel s (length panel ∷ []) ≡ false
  pub words : AllWords panel
  pub all : length counts ≡ 32

module _ (s : Shape) (call : Call) (panel counts : List ℕ) (held : Held s panel counts) where
  abbrev called : Counted
  called = paint_counted s call panel counts

  abbrev after : List ℕ
  after = paint_after s call panel

  pub panel-length : length called.panel ≡ length panel
  unfolding counted_of
  panel-length = by_number (eqb called.number 0)
    where
      by_number : (t : Bool) → length (cond t after panel) ≡ length panel
      by_number true =
          ap length (paint-step s call panel held.room held.words) ∙ altered-length 0 (step_effect s call) panel (panel_words s)
      by_number false = refl

  panel-words : AllWords called.panel
  unfolding counted_of
  panel-words = by_number (eqb called.number 0)
    where
      by_number : (t : Bool) → AllWords (cond t after panel)
      by_number true =
          rw (paint-step s call panel held.room held.words)
          (altered-words 0 (panel_words s) (step_effect s call) panel (step_words s call) held.words)
      by_number false = held.words

  pub still-held : Held s called.panel called.counts
  still-held = record {
    room = ap (λ (n : ℕ). bad_panel s (n ∷ [])) panel-length ∙ held.room;
    words = panel-words;
    all = counts-length s (call_number s (length panel ∷ []) call) panel after counts ∙ held.all;
  }

-- ---- what decides of 30: the counts as a whole, and then the dots and the count of the call's own strip

module _ (s : Shape) (call : Call) (panel counts : List ℕ) (words : AllWords panel) (k : ℕ) (small : k ≤ 31)
    (own : call.label.strip ≡ k) where
  abbrev becomes : List ℕ
  becomes = paint_after s call panel

  abbrev test : ℕ → Bool
  test i = leaves (area s i) (word counts i) (gained s i panel becomes) (lost s i panel becomes)

  other_test : (i : ℕ) → i < 32 → (i ≡ k → ⊥) → some_over s counts ≡ false → test i ≡ false
  unfolding some_over leaves
  other_test i less other none =
      let elsewhere : call.label.strip ≡ i → ⊥ = λ e. other (sym e ∙ own) in
      let most = ltb-false (area s i) (word counts i) (none_below _ 32 i none less) in
      rw (
        none-gained s call panel words i (omega arith) elsewhere,
        none-lost s call panel words i (omega arith) elsewhere,
        le-ltb (word counts i + 0) 0 (omega arith),
        le-ltb (area s i + 0) (word counts i + 0) (omega arith),
      )

  own-test : some_over s counts ≡ false → some_leaves s panel becomes counts ≡ test k
  unfolding some_leaves
  own-test none = by-test (test k) refl
    where
      each : test k ≡ false → (i : ℕ) → i < 32 → (t : Bool) → eqb i k ≡ t → test i ≡ false
      each e i less true q = ap test (eqb-true i k q) ∙ e
      each e i less false q = other_test i less (eqb-false i k q) none

      by-test : (t : Bool) → test k ≡ t → some_below 32 test ≡ t
      by-test true e = some-here test 32 k (omega arith) e
      by-test false e = none_passes test 32 (λ i less. each e i less (eqb i k) refl)

  pub own-decides : count_number s panel becomes counts ≡ first_of ((some_over s counts || test k, 30) ∷ [])
  unfolding count_number
  own-decides = ap (λ (t : Bool). first_of ((t, 30) ∷ [])) (by_over (some_over s counts) refl)
    where
      by_over : (t : Bool) → some_over s counts ≡ t → (t || some_leaves s panel becomes counts) ≡ (t || test k)
      by_over true e = refl
      by_over false e = own-test e

-- ---- agreement on strip k

pub record AgreeOn (s : Shape) (k : ℕ) (p c q d : List ℕ) : Type 0 where
  pub long : length p ≡ length q
  pub over : some_over s c ≡ some_over s d
  pub count : word c k ≡ word d k
  pub dots : (row column : ℕ) → row < s.rows → (strip_of s k).from ≤ column → column < (strip_of s k).upto
      → panel_dot s p row column ≡ panel_dot s q row column

pub agree-itself : (s : Shape) (k : ℕ) (p c : List ℕ) → AgreeOn s k p c p c
agree-itself s k p c = record { long = refl; over = refl; count = refl; dots = λ row column down from upto. refl }

-- a call for another strip leaves it
module _ (s : Shape) (call : Call) (k : ℕ) (small : k ≤ 31) (other : call.label.strip ≡ k → ⊥) (p c q d : List ℕ)
    (hp : Held s p c) (agree : AgreeOn s k p c q d) where
  abbrev one : Counted
  one = paint_counted s call p c

  same-dot : (row column : ℕ) → row < s.rows → (strip_of s k).from ≤ column → column < (strip_of s k).upto
      → panel_dot s one.panel row column ≡ panel_dot s p row column
  unfolding counted_of
  same-dot row column down from upto = by_number (eqb one.number 0)
    where
      by_number : (t : Bool) → panel_dot s (cond t (paint_after s call p) p) row column ≡ panel_dot s p row column
      by_number true = other-dot s call p hp.words k small other row column down from upto
      by_number false = refl

  pub other-agrees : AgreeOn s k one.panel one.counts q d
  other-agrees = record {
    long = panel-length s call p c hp ∙ agree.long;
    over = over-stays s (call_number s (length p ∷ []) call) p (paint_after s call p) c hp.all ∙ agree.over;
    count = other-count s call p c hp.words hp.all k small other ∙ agree.count;
    dots = λ row column down from upto. same-dot row column down from upto ∙ agree.dots row column down from upto;
  }

-- a call for this strip has the same number on both, and leaves them agreeing
module _ (s : Shape) (call : Call) (k : ℕ) (small : k ≤ 31) (own : call.label.strip ≡ k) (p c q d : List ℕ)
    (hp : Held s p c) (hq : Held s q d) (agree : AgreeOn s k p c q d) where
  abbrev first : Counted
  first = paint_counted s call p c

  abbrev second : Counted
  second = paint_counted s call q d

  abbrev pa : List ℕ
  pa = paint_after s call p

  abbrev qa : List ℕ
  qa = paint_after s call q

  same-own : call_number s (length p ∷ []) call ≡ call_number s (length q ∷ []) call
  same-own = ap (λ (n : ℕ). call_number s (n ∷ []) call) agree.long

  after-dots : (row column : ℕ) → row < s.rows → (strip_of s k).from ≤ column → column < (strip_of s k).upto
      → panel_dot s pa row column ≡ panel_dot s qa row column
  after-dots row column down from upto =
      strip-dot s call p hp.words k small row column down from upto
      ∙ ap₂ (λ (n dot : ℕ). cond (eqb n 0) (dot_after s call row column dot) dot) same-own (agree.dots row column down from upto)
      ∙ sym (strip-dot s call q hq.words k small row column down from upto)

  same-gained : gained s k p pa ≡ gained s k q qa
  unfolding gained
  same-gained =
      dots-same (strip_of s k) 0 s.rows _ _
      (λ row column _ down from upto.
      ap₂ (λ (b a : ℕ). (1 - b) * a)
      (agree.dots row column (omega arith) from upto) (after-dots row column (omega arith) from upto))

  same-lost : lost s k p pa ≡ lost s k q qa
  unfolding lost
  same-lost =
      dots-same (strip_of s k) 0 s.rows _ _
      (λ row column _ down from upto.
      ap₂ (λ (b a : ℕ). b * (1 - a))
      (agree.dots row column (omega arith) from upto) (after-dots row column (omega arith) from upto))

  same-thirty : count_number s p pa c ≡ count_number s q qa d
  same-thirty =
      own-decides s call p c hp.words k small own
      ∙ rw (agree.over, agree.count, same-gained, same-lost) refl
      ∙ sym (own-decides s call q d hq.words k small own)

  pub same_number : first.number ≡ second.number
  unfolding counted_of
  same_number = ap₂ or_else same-own same-thirty

  same_count : word first.counts k ≡ word second.counts k
  unfolding counted_of new_counts
  same_count =
      ap (λ (n : ℕ). word (cond (eqb n 0) (new_counts s p pa c) c) k) same_number ∙ by_number (eqb second.number 0)
    where
      by_number : (t : Bool) → word (cond t (new_counts s p pa c) c) k ≡ word (cond t (new_counts s q qa d) d) k
      by_number true =
          over-at 32 _ c k (omega arith) (omega arith)
          ∙ rw (agree.count, same-gained, same-lost) refl
          ∙ sym (over-at 32 _ d k (omega arith) (omega arith))
      by_number false = agree.count

  same-dots : (row column : ℕ) → row < s.rows → (strip_of s k).from ≤ column → column < (strip_of s k).upto
      → panel_dot s first.panel row column ≡ panel_dot s second.panel row column
  unfolding counted_of
  same-dots row column down from upto =
      ap (λ (n : ℕ). panel_dot s (cond (eqb n 0) pa p) row column) same_number ∙ by_number (eqb second.number 0)
    where
      by_number : (t : Bool) → panel_dot s (cond t pa p) row column ≡ panel_dot s (cond t qa q) row column
      by_number true = after-dots row column down from upto
      by_number false = agree.dots row column down from upto

  pub own-agrees : AgreeOn s k first.panel first.counts second.panel second.counts
  own-agrees = record {
    long = panel-length s call p c hp ∙ agree.long ∙ sym (panel-length s call q d hq);
    over = over-stays s (call_number s (length p ∷ []) call) p pa c hp.all ∙ agree.over
        ∙ sym (over-stays s (call_number s (length q ∷ []) call) q qa d hq.all);
    count = same_count;
    dots = same-dots;
  }
