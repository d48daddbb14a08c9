-- A sheet holds effects: its slices are long enough, its words are words, and its first R × H effects are those. Each operation on
-- sheets is told by the effects that it makes of those that its sheets hold.
use Prim.Native.Nat.{ℕ, zero, suc, ◌<◌}
use mathlib.Core.Path.{◌≡◌, refl, sym, ap, ◌∙◌}
use mathlib.Core.Bool.{Bool, true, false, cond}
use mathlib.Core.List.{List, [], ◌∷◌}
use native.Mathlib.Nat.{zero-add}
use native.Mathlib.Omega.{arith}
use lib.Dec.{eqb}
use lib.ListN.{length}
use Rattle.words.specs.declared.Effect.{Effect}
use Rattle.words.specs.Word.{over}
use Rattle.words.specs.Effect.{identity, join_of, altered, OfWords}
use Rattle.words.proofs.Effects.{join-assoc, join-identity, join-words}
use Rattle.words.proofs.Over.{over-at, over-length}
use Rattle.words.proofs.Altering.{AllWords, set_words, altered-same}
use Rattle.paint.specs.declared.Shape.{Shape}
use Rattle.paint.specs.Panel.{panel_words, bad_panel, panel_number}
use Rattle.paint.specs.Sheet.{Sheet, lengths, effect_at, written, joined}
use Rattle.paint.specs.Label.{Call, call_effect}
use Rattle.paint.proofs.Accepted.{good-panel}
use Rattle.paint.proofs.Demand.{call-words}
use Rattle.sheets.specs.Sheet.{fresh_number, fresh_after, join_number, join_after, apply_number, apply_after, gather_after}
use Rattle.sheets.specs.Calls.{gather_all}
use Rattle.sheets.proofs.Done.{Passed, all-passed}
use Rattle.sheets.proofs.Effects.{own_number, step_effect, calls_effect, own_is, step_words}

pub record Lent (s : Shape) (sheet : Sheet) : Type 0 where
  pub keep-room : bad_panel s (length sheet.keep ∷ []) ≡ false
  pub flip-room : bad_panel s (length sheet.flip ∷ []) ≡ false
  pub keep-words : AllWords sheet.keep
  pub flip-words : AllWords sheet.flip

pub record Holds (s : Shape) (sheet : Sheet) (e : ℕ → Effect) : Type 0 where
  pub lent : Lent s sheet
  pub effects : (i : ℕ) → i < panel_words s → effect_at sheet i ≡ e i

pub holds-itself : (s : Shape) (sheet : Sheet) → Lent s sheet → Holds s sheet (effect_at sheet)
holds-itself s sheet lent = record { lent = lent; effects = λ i less. refl }

-- ---- writing effects into a sheet

over-words : (n : ℕ) (f : ℕ → ℕ) (p : List ℕ) → ((i : ℕ) → f i < 65536) → AllWords p → AllWords (over n f p)
unfolding over
over-words zero f p hf h = h
over-words (suc n) f p hf h = set_words (over n f p) n (f n) (over-words n f p hf h) (hf n)

module _ (s : Shape) (sheet : Sheet) (l : Lent s sheet) where
  pub held-words : (i : ℕ) → OfWords (effect_at sheet i)
  held-words i = (l.keep-words i, l.flip-words i)

  pub written-holds : (e : ℕ → Effect) → ((i : ℕ) → OfWords (e i)) → Holds s (written s e sheet) e
  unfolding written
  written-holds e h =
      let n = panel_words s in
      record {
        lent = record {
          keep-room = ap (λ (m : ℕ). bad_panel s (m ∷ [])) (over-length n (λ i. (e i).keep) sheet.keep) ∙ l.keep-room;
          flip-room = ap (λ (m : ℕ). bad_panel s (m ∷ [])) (over-length n (λ i. (e i).flip) sheet.flip) ∙ l.flip-room;
          keep-words = over-words n (λ i. (e i).keep) sheet.keep (λ i. (h i).0) l.keep-words;
          flip-words = over-words n (λ i. (e i).flip) sheet.flip (λ i. (h i).1) l.flip-words;
        };
        effects = λ i less. λ j. record {
          keep = over-at n (λ i. (e i).keep) sheet.keep i less (good-panel s (length sheet.keep) l.keep-room).long j;
          flip = over-at n (λ i. (e i).flip) sheet.flip i less (good-panel s (length sheet.flip) l.flip-room).long j;
        };
      }

  pub both-pass : 0 ≡ panel_number s (lengths sheet)
  unfolding lengths Passed
  both-pass = all-passed s (length sheet.keep) (length sheet.flip ∷ []) (l.keep-room, (l.flip-room, tt))

  -- making it fresh
  pub fresh_holds : Holds s (fresh_after s sheet) (λ i. identity)
  unfolding fresh_after fresh_number
  fresh_holds = rw (← both-pass) (written-holds (λ i. identity) (λ i. (omega arith, omega arith)))

module _ (s : Shape) where
  -- joining effects onto it
  joined-holds : (sheet : Sheet) (e then : ℕ → Effect) → ((i : ℕ) → OfWords (then i)) → Holds s sheet e
      → Holds s (joined s then sheet) (λ i. join_of (e i) (then i))
  joined-holds sheet e then words h =
      let own = held-words s sheet h.lent in
      let made = written-holds s sheet h.lent (λ i. join_of (effect_at sheet i) (then i)) (λ i. join-words _ _ (own i) (words i)) in
      record { lent = made.lent; effects = λ i less. made.effects i less ∙ ap (λ (f : Effect). join_of f (then i)) (h.effects i less) }

  -- ---- gathering

  chosen : (t : Bool) (call : Call) (sheet : Sheet) (e : ℕ → Effect) → Holds s sheet e
      → Holds s (cond t (joined s (call_effect s call) sheet) sheet) (λ i. join_of (e i) (cond t (call_effect s call i) identity))
  chosen true call sheet e h = joined-holds sheet e (call_effect s call) (call-words s call) h
  chosen false call sheet e h =
      let words = held-words s sheet h.lent in
      record {
        lent = h.lent;
        effects = λ i less. sym (join-identity (effect_at sheet i) (words i)) ∙ ap (λ (f : Effect). join_of f identity) (h.effects i less);
      }

  pub gather-holds : (call : Call) (sheet : Sheet) (e : ℕ → Effect) → Holds s sheet e
      → Holds s (gather_after s call sheet) (λ i. join_of (e i) (step_effect s call i))
  unfolding gather_after step_effect
  gather-holds call sheet e h =
      rw (own_is s (lengths sheet) call (both-pass s sheet h.lent)) (chosen (eqb (own_number call) 0) call sheet e h)

  same-holds : (sheet : Sheet) (e f : ℕ → Effect) → ((i : ℕ) → e i ≡ f i) → Holds s sheet e → Holds s sheet f
  same-holds sheet e f same h = record { lent = h.lent; effects = λ i less. h.effects i less ∙ same i }

  pub gather-all-holds : (calls : List Call) (sheet : Sheet) (e : ℕ → Effect) → ((i : ℕ) → OfWords (e i)) → Holds s sheet e
      → Holds s (gather_all s calls sheet) (λ i. join_of (e i) (calls_effect s calls i))
  unfolding gather_all calls_effect
  gather-all-holds [] sheet e words h = same-holds sheet e (λ i. join_of (e i) identity) (λ i. sym (join-identity (e i) (words i))) h
  gather-all-holds (call ∷ calls) sheet e words h =
      let next : ℕ → Effect = λ i. join_of (e i) (step_effect s call i) in
      let still : (i : ℕ) → OfWords (next i) = λ i. join-words _ _ (words i) (step_words s call i) in
      same-holds _ _ _ (λ i. join-assoc (e i) (step_effect s call i) (calls_effect s calls i))
      (gather-all-holds calls (gather_after s call sheet) next still (gather-holds call sheet e h))

  -- ---- joining and applying

  pub join-holds : (first second : Sheet) (e f : ℕ → Effect) → Holds s first e → Holds s second f
      → Holds s (join_after s first second) (λ i. join_of (e i) (f i))
  unfolding join_after join_number Passed
  join-holds first second e f h k =
      let passes =
      all-passed s (length first.keep) (length first.flip ∷ length second.keep ∷ length second.flip ∷ [])
      (h.lent.keep-room, (h.lent.flip-room, (k.lent.keep-room, (k.lent.flip-room, tt)))) in
      let made = joined-holds first e (effect_at second) (held-words s second k.lent) h in
      rw (← passes) (record { lent = made.lent; effects = λ i less. made.effects i less ∙ ap (join_of (e i)) (k.effects i less) })

  pub apply-holds : (sheet : Sheet) (e : ℕ → Effect) (panel : List ℕ) → Holds s sheet e → bad_panel s (length panel ∷ []) ≡ false
      → apply_after s sheet panel ≡ altered 0 (panel_words s) e panel
  unfolding apply_after apply_number Passed
  apply-holds sheet e panel h room =
      let passes =
      all-passed s (length sheet.keep) (length sheet.flip ∷ length panel ∷ [])
      (h.lent.keep-room, (h.lent.flip-room, (room, tt))) in
      rw (← passes)
      (altered-same 0 (panel_words s) (effect_at sheet) e panel
      (λ j less. ap (effect_at sheet) (zero-add j) ∙ h.effects j less ∙ ap e (sym (zero-add j))))
