-- Demand 3. For any list of label calls of one panel size, refused ones among them, and fonts differing from call to call:
-- a gathered sheet, applied, is painting in turn; a cut list's sheets join; calls for different strips may change places; two sheets
-- are equal exactly when they treat every panel alike.
use Prim.Native.Nat.{ℕ, zero, suc, ◌+◌, ◌<◌, ◌≤◌}
use mathlib.Core.Path.{◌≡◌, refl, sym, ap, ap₂, ◌∙◌}
use mathlib.Core.Bool.{Bool, true, false, cond}
use mathlib.Core.List.{List, [], ◌∷◌, ◌++◌, map}
use native.Mathlib.Nat.{zero-add}
use native.Mathlib.Omega.{arith}
use lib.Dec.{eqb}
use lib.ListN.{length, take, get_or, replicate, length-replicate, get_or-replicate}
use lib.Seq.{ext_get_or, length-take-le, get_or-take}
use Rattle.words.specs.declared.Effect.{Effect}
use Rattle.words.specs.Word.{word}
use Rattle.words.specs.Effect.{effect, identity, join_of, apply_to, altered}
use Rattle.words.proofs.Effects.{identity-join, same_effect}
use Rattle.words.proofs.Altering.{AllWords, altered-same, altered-length, from_zero}
use Rattle.fonts.specs.Face.{face_of}
use Rattle.paint.specs.declared.Shape.{Shape}
use Rattle.paint.specs.Panel.{panel_words, bad_panel, panel_number}
use Rattle.paint.specs.Label.{Call, Reply, call_number, call_effect, paint_after, last_pen, reply_for, reply_of}
use Rattle.paint.specs.Sheet.{Sheet, lengths, effect_at}
use Rattle.paint.proofs.Accepted.{good-panel, just_enough}
use Rattle.paint.proofs.Slices.{passed-alone}
use Rattle.sheets.specs.Sheet.{SameSheet, fresh_after, join_after, apply_after, gather_after, gather_reply}
use Rattle.sheets.specs.Calls.{paint_all, gather_all, paint_replies, gather_replies, of_strip, replies_for, SameForStrips}
use Rattle.sheets.proofs.Effects.{own_number, own_is, calls_effect, calls-words, calls-cut, paint-all}
use Rattle.sheets.proofs.Exchange.{exchanged}
use Rattle.sheets.proofs.Holding.{Lent, Holds, holds-itself, held-words, both-pass}
use Rattle.sheets.proofs.Holding.{fresh_holds, gather-holds, gather-all-holds, join-holds, apply-holds}

-- a list gathered into a fresh sheet: the sheet holds the list's effect
gathered : (s : Shape) (calls : List Call) (sheet : Sheet) → Lent s sheet
    → Holds s (gather_all s calls (fresh_after s sheet)) (calls_effect s calls)
gathered s calls sheet lent =
    let all = gather-all-holds s calls (fresh_after s sheet) (λ i. identity) (λ i. (omega arith, omega arith)) (fresh_holds s sheet lent) in
    record { lent = all.lent; effects = λ i less. all.effects i less ∙ identity-join (calls_effect s calls i) (calls-words s calls i) }

-- 1. "a gathered sheet, applied, is painting in turn"
pub gather-apply : (s : Shape) (calls : List Call) (sheet : Sheet) (panel : List ℕ) → Lent s sheet
    → bad_panel s (length panel ∷ []) ≡ false → AllWords panel
    → apply_after s (gather_all s calls (fresh_after s sheet)) panel ≡ paint_all s calls panel
gather-apply s calls sheet panel lent room words =
    apply-holds s (gather_all s calls (fresh_after s sheet)) (calls_effect s calls) panel (gathered s calls sheet lent) room
    ∙ sym (paint-all s calls panel room words)

-- sheets that hold equal effects are equal
same_first : (n : ℕ) (p q : List ℕ) → n ≤ length p → n ≤ length q → ((i : ℕ) → i < n → word p i ≡ word q i) → take n p ≡ take n q
same_first n p q hp hq same =
    let lp = length-take-le n p hp in
    let lq = length-take-le n q hq in
    ext_get_or 0 (take n p) (take n q) (lp ∙ sym lq)
    (λ i less. let small : i < n = omega arith in get_or-take n p i 0 small ∙ same i small ∙ sym (get_or-take n q i 0 small))

holds_same : (s : Shape) (a b : Sheet) (e f : ℕ → Effect) → Holds s a e → Holds s b f → ((i : ℕ) → i < panel_words s → e i ≡ f i)
    → SameSheet s a b
unfolding SameSheet
holds_same s a b e f h k same = (
  first_alike a.keep b.keep h.lent.keep-room k.lent.keep-room (λ i less. ap (λ (t : Effect). t.keep) (alike i less)),
  first_alike a.flip b.flip h.lent.flip-room k.lent.flip-room (λ i less. ap (λ (t : Effect). t.flip) (alike i less)),
)
  where
    first_alike : (p q : List ℕ) → bad_panel s (length p ∷ []) ≡ false → bad_panel s (length q ∷ []) ≡ false
        → ((i : ℕ) → i < panel_words s → word p i ≡ word q i) → take (panel_words s) p ≡ take (panel_words s) q
    first_alike p q hp hq = same_first (panel_words s) p q (good-panel s (length p) hp).long (good-panel s (length q) hq).long

    alike : (i : ℕ) → i < panel_words s → effect_at a i ≡ effect_at b i
    alike i less = h.effects i less ∙ same i less ∙ sym (k.effects i less)

-- 2. "a cut list's sheets join": for every cut
pub cut-join : (s : Shape) (xs ys : List Call) (whole first second : Sheet) → Lent s whole → Lent s first → Lent s second
    → SameSheet s (gather_all s (xs ++ ys) (fresh_after s whole))
    (join_after s (gather_all s xs (fresh_after s first)) (gather_all s ys (fresh_after s second)))
cut-join s xs ys whole first second lw lf ls =
    holds_same s _ _ (calls_effect s (xs ++ ys)) (λ i. join_of (calls_effect s xs i) (calls_effect s ys i))
    (gathered s (xs ++ ys) whole lw)
    (join-holds s _ _ (calls_effect s xs) (calls_effect s ys) (gathered s xs first lf) (gathered s ys second ls))
    (λ i less. calls-cut s xs ys i)

-- 3. "calls for different strips may change places": the same panel and the same sheet; the replies are below
module _ (s : Shape) (xs ys : List Call) (same : SameForStrips xs ys) where
  pub exchange-panel : (panel : List ℕ) → bad_panel s (length panel ∷ []) ≡ false → AllWords panel
      → paint_all s xs panel ≡ paint_all s ys panel
  exchange-panel panel room words =
      paint-all s xs panel room words
      ∙ altered-same 0 (panel_words s) (calls_effect s xs) (calls_effect s ys) panel (λ j less. exchanged s xs ys same (0 + j))
      ∙ sym (paint-all s ys panel room words)

  pub exchange-sheet : (a b : Sheet) → Lent s a → Lent s b
      → SameSheet s (gather_all s xs (fresh_after s a)) (gather_all s ys (fresh_after s b))
  exchange-sheet a b la lb =
      holds_same s _ _ (calls_effect s xs) (calls_effect s ys) (gathered s xs a la) (gathered s ys b lb)
      (λ i less. exchanged s xs ys same i)

-- ---- replies: each is the call's own, in painting and in gathering, whatever was called before

abbrev pub reply_alone : Call → Reply
reply_alone call = reply_for (own_number call) (last_pen (face_of call.font) call.label.x call.text)

reply-alone : (s : Shape) (lent : List ℕ) (call : Call) → 0 ≡ panel_number s lent → reply_of s lent call ≡ reply_alone call
unfolding reply_of
reply-alone s lent call good =
    ap (λ (n : ℕ). reply_for n (last_pen (face_of call.font) call.label.x call.text)) (own_is s lent call good)

still-room : (s : Shape) (call : Call) (panel : List ℕ) → length (paint_after s call panel) ≡ length panel
unfolding paint_after
still-room s call panel = by_number (eqb (call_number s (length panel ∷ []) call) 0)
  where
    by_number : (t : Bool) → length (cond t (altered 0 (panel_words s) (call_effect s call) panel) panel) ≡ length panel
    by_number true = altered-length 0 (call_effect s call) panel (panel_words s)
    by_number false = refl

pub paint-replies : (s : Shape) (calls : List Call) (panel : List ℕ) → bad_panel s (length panel ∷ []) ≡ false
    → paint_replies s calls panel ≡ map reply_alone calls
unfolding paint_replies
paint-replies s [] panel room = refl
paint-replies s (call ∷ calls) panel room =
    ap₂ ◌∷◌ (reply-alone s (length panel ∷ []) call (passed-alone s (length panel) room))
    (paint-replies s calls (paint_after s call panel) (ap (λ (n : ℕ). bad_panel s (n ∷ [])) (still-room s call panel) ∙ room))

pub gather-replies : (s : Shape) (calls : List Call) (sheet : Sheet) → Lent s sheet → gather_replies s calls sheet ≡ map reply_alone calls
unfolding gather_replies gather_reply
gather-replies s [] sheet lent = refl
gather-replies s (call ∷ calls) sheet lent =
    ap₂ ◌∷◌ (reply-alone s (lengths sheet) call (both-pass s sheet lent))
    (gather-replies s calls (gather_after s call sheet) (gather-holds s call sheet (effect_at sheet) (holds-itself s sheet lent)).lent)

-- so in lists whose calls for different strips have changed places each call has the same reply: call by call for each strip, and wherever
-- a call stands in the one list and in the other, also one that names no strip
own-replies : (k : ℕ) (calls : List Call) → replies_for k calls (map reply_alone calls) ≡ map reply_alone (of_strip k calls)
unfolding replies_for of_strip
own-replies k [] = refl
own-replies k (call ∷ calls) = by-strip (eqb call.label.strip k) (own-replies k calls)
  where
    by-strip : (t : Bool) → replies_for k calls (map reply_alone calls) ≡ map reply_alone (of_strip k calls)
        → cond t (reply_alone call ∷ replies_for k calls (map reply_alone calls)) (replies_for k calls (map reply_alone calls))
        ≡ map reply_alone (cond t (call ∷ of_strip k calls) (of_strip k calls))
    by-strip true rest = ap (λ (rs : List Reply). reply_alone call ∷ rs) rest
    by-strip false rest = rest

module _ (s : Shape) (xs ys : List Call) (same : SameForStrips xs ys) where
  same-replies : (k : ℕ) → k ≤ 31 → replies_for k xs (map reply_alone xs) ≡ replies_for k ys (map reply_alone ys)
  same-replies k small = own-replies k xs ∙ ap (map reply_alone) (same k small) ∙ sym (own-replies k ys)

  pub exchange-paint-replies : (k : ℕ) → k ≤ 31 → (panel : List ℕ) → bad_panel s (length panel ∷ []) ≡ false
      → replies_for k xs (paint_replies s xs panel) ≡ replies_for k ys (paint_replies s ys panel)
  exchange-paint-replies k small panel room =
      ap (replies_for k xs) (paint-replies s xs panel room)
      ∙ same-replies k small
      ∙ sym (ap (replies_for k ys) (paint-replies s ys panel room))

  pub exchange-gather-replies : (k : ℕ) → k ≤ 31 → (a b : Sheet) → Lent s a → Lent s b
      → replies_for k xs (gather_replies s xs a) ≡ replies_for k ys (gather_replies s ys b)
  exchange-gather-replies k small a b la lb =
      ap (replies_for k xs) (gather-replies s xs a la)
      ∙ same-replies k small
      ∙ sym (ap (replies_for k ys) (gather-replies s ys b lb))

-- the n-th of some replies to some calls is the n-th call's own
nth-reply : (calls : List Call) (n : ℕ) (call : Call) (other : Call) (none : Reply) → n < length calls → get_or calls n other ≡ call
    → get_or (map reply_alone calls) n none ≡ reply_alone call
nth-reply [] n call other none less at = absurd (omega arith)
nth-reply (first ∷ calls) zero call other none less at = ap reply_alone at
nth-reply (first ∷ calls) (suc n) call other none less at = nth-reply calls n call other none (omega arith) at

module _ (s : Shape) (xs ys : List Call) (n m : ℕ) (call other : Call) (none : Reply) where
  pub same-call-painted : n < length xs → m < length ys → get_or xs n other ≡ call → get_or ys m other ≡ call
      → (panel : List ℕ) → bad_panel s (length panel ∷ []) ≡ false
      → get_or (paint_replies s xs panel) n none ≡ get_or (paint_replies s ys panel) m none
  same-call-painted hx hy ex ey panel room =
      ap (λ (rs : List Reply). get_or rs n none) (paint-replies s xs panel room)
      ∙ nth-reply xs n call other none hx ex
      ∙ sym (ap (λ (rs : List Reply). get_or rs m none) (paint-replies s ys panel room) ∙ nth-reply ys m call other none hy ey)

  pub same-call-gathered : n < length xs → m < length ys → get_or xs n other ≡ call → get_or ys m other ≡ call
      → (a b : Sheet) → Lent s a → Lent s b → get_or (gather_replies s xs a) n none ≡ get_or (gather_replies s ys b) m none
  same-call-gathered hx hy ex ey a b la lb =
      ap (λ (rs : List Reply). get_or rs n none) (gather-replies s xs a la)
      ∙ nth-reply xs n call other none hx ex
      ∙ sym (ap (λ (rs : List Reply). get_or rs m none) (gather-replies s ys b lb) ∙ nth-reply ys m call other none hy ey)

-- ---- 4. "two sheets are equal exactly when they treat every panel alike"

first-words : (n : ℕ) (p q : List ℕ) (i : ℕ) → take n p ≡ take n q → i < n → word p i ≡ word q i
first-words n p q i same less = sym (get_or-take n p i 0 less) ∙ ap (λ (l : List ℕ). get_or l i 0) same ∙ get_or-take n q i 0 less

pub equal-treat-alike : (s : Shape) (a b : Sheet) → Lent s a → Lent s b → SameSheet s a b
    → (panel : List ℕ) → bad_panel s (length panel ∷ []) ≡ false → apply_after s a panel ≡ apply_after s b panel
unfolding SameSheet
equal-treat-alike s a b la lb same panel room =
    let n = panel_words s in
    apply-holds s a (effect_at a) panel (holds-itself s a la) room
    ∙ altered-same 0 n (effect_at a) (effect_at b) panel
    (λ j less. ap (effect_at a) (zero-add j)
    ∙ ap₂ effect (first-words n a.keep b.keep j same.0 less) (first-words n a.flip b.flip j same.1 less)
    ∙ ap (effect_at b) (sym (zero-add j)))
    ∙ sym (apply-holds s b (effect_at b) panel (holds-itself s b lb) room)

-- a panel of one word, over and over
all-equal : (n d : ℕ) → d < 65536 → AllWords (replicate n d)
all-equal zero d h i = omega arith
all-equal (suc n) d h zero = h
all-equal (suc n) d h (suc i) = all-equal n d h i

pub alike-are-equal : (s : Shape) (a b : Sheet) → Lent s a → Lent s b
    → ((panel : List ℕ) → bad_panel s (length panel ∷ []) ≡ false → AllWords panel → apply_after s a panel ≡ apply_after s b panel)
    → SameSheet s a b
alike-are-equal s a b la lb alike =
    holds_same s a b (effect_at a) (effect_at b) (holds-itself s a la) (holds-itself s b lb)
    (λ i less. same_effect (effect_at a i) (effect_at b i) (held-words s a la i) (held-words s b lb i) (λ d small. at i d less small))
  where
    n : ℕ
    n = panel_words s

    room : (d : ℕ) → bad_panel s (length (replicate n d) ∷ []) ≡ false
    room d = ap (λ (m : ℕ). bad_panel s (m ∷ [])) (length-replicate n d) ∙ just_enough s (length a.keep) la.keep-room

    applied : (sheet : Sheet) → Lent s sheet → (i d : ℕ) → i < n
        → word (apply_after s sheet (replicate n d)) i ≡ apply_to (effect_at sheet i) d
    applied sheet lent i d less =
        let long : n ≤ length (replicate n d) = rw (length-replicate n d) (omega arith) in
        ap (λ (p : List ℕ). word p i) (apply-holds s sheet (effect_at sheet) (replicate n d) (holds-itself s sheet lent) (room d))
        ∙ from_zero (effect_at sheet) (replicate n d) n i less long
        ∙ ap (apply_to (effect_at sheet i)) (get_or-replicate n i d 0 less)

    at : (i d : ℕ) → i < n → d < 65536 → apply_to (effect_at a i) d ≡ apply_to (effect_at b i) d
    at i d less small =
        sym (applied a la i d less)
        ∙ ap (λ (p : List ℕ). word p i) (alike (replicate n d) (room d) (all-equal n d small))
        ∙ applied b lb i d less
