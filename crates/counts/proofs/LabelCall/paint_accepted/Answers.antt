-- `counts::LabelCall::paint_accepted` meets its contract: its own strip alone decides (`proofs/Painting`), by its lit dots in the rows that
-- the label may reach, before and after.
-- Assumes nothing.
use Prim.Native.Nat.{ℕ, ◌+◌, ◌-◌, ◌*◌}
use mathlib.Core.Path.{◌≡◌, sym, ap, ap₂, ◌∙◌}
use mathlib.Core.Bool.{false}
use mathlib.Core.List.{[], ◌∷◌}
use native.Mathlib.Omega.{arith}
use lib.ListN.{length, set}
use Rattle.words.specs.Word.{word}
use Rattle.words.proofs.Altering.{AllWords}
use Rattle.words.proofs.Refusals.{number-not-0}
use Rattle.fonts.specs.Face.{face_from}
use Rattle.paint.specs.Panel.{bad_panel}
use Rattle.paint.proofs.Replies.{reply-read, paint-read}
use Rattle.counts.specs.Lit.{leaves}
use Rattle.counts.specs.Band.{left_by}
use Rattle.counts.proofs.Moves.{not-below, not-above}
use Rattle.counts.proofs.Settling.{small-area}
use Rattle.counts.proofs.Calling.{good, own, below, lit_for, rows_lit}
use Rattle.counts.proofs.Painting.{painted-length, refused-by-30, done-by}
use Rattle.counts.proofs.LabelCall.paint_accepted.Goals as goal
use Rattle.counts.proofs.LabelCall.paint_accepted.Goals.{After-lit_in-left, After-rows-rows, After-refuses}

words : (r : After-rows-rows) → AllWords r.args.panel.now
words r i = (r.type_inv.panel i).fits

-- what decides
held-is : (d : After-refuses) → d.count_of.result ≡ word d.args.counts d.args.self.now.label.strip
held-is d = d.count_of.ensures

were-is : (d : After-refuses) → d.lit_in.result ≡ lit_for d.args.self.now d.args.panel.now
were-is d = d.lit_in.ensures.value ∙ rows_lit d.args.self.now _ d.rows-rows.ensures d.args.panel.now

told : (d : After-refuses)
    → let l = d.args.self.now in
    d.refuses.result
    ≡ leaves (l.shape.width * l.shape.rows) (word d.args.counts l.label.strip) (left_by l d.args.panel.now) (lit_for l d.args.panel.now)
told d =
    let l = d.args.self.now in
    d.refuses.ensures
    ∙ ap₂ (λ (held were : ℕ). leaves (l.shape.width * l.shape.rows) held (left_by l d.args.panel.now) were) (held-is d) (were-is d)

pub count_of-requires : goal.count_of-requires
count_of-requires c = own c.args.self.now c.args.panel.now c.requires.text_value.0

pub lit_in-requires : goal.lit_in-requires
lit_in-requires c =
    let l = c.args.self.now in
    let panel = c.args.panel.now in
    let pre = c.requires.text_value.0 in
    (good l panel pre, own l panel pre, below l _ c.rows-rows.ensures)

pub refuses-requires : goal.refuses-requires
refuses-requires c = (c.requires.text_value.0, c.rows-rows.ensures)

pub returns-then-refuses : goal.returns-then-refuses
returns-then-refuses c =
    let a = c.args in
    let l = a.self.now in
    let at = goal.at.returns-then-refuses c in
    let pre = c.requires.text_value in
    let refused = refused-by-30 l.view l.font.now l.shape l.label l.text.now a.panel.now a.counts c.requires.read pre.0
    (words at.After-rows-rows) pre.1 (sym (told at.After-refuses) ∙ c.if-refuses.true) in
    record { value = refused.0; number = refused.1; panel = refused.2 }

-- the label, accepted, is painted
pub returns-in_err-finish : goal.returns-in_err-finish
returns-in_err-finish c =
    absurd (number-not-0 _ (c.in_err-finish.ensures.numbers.0 ∙ c.requires.text_value.0))

-- the panel is as long as it was
pub lit_in-left-requires : goal.lit_in-left-requires
lit_in-left-requires c =
    let l = c.args.self.now in
    let panel = c.args.panel.now in
    let pre = c.requires.text_value.0 in
    let same = ap length c.in_ok-finish.ensures.panel
    ∙ painted-length (face_from l.view l.font.now) l.shape l.label l.text.now panel in
    (ap (λ (n : ℕ). bad_panel l.shape (n ∷ [])) same ∙ good l panel pre, own l panel pre, below l _ c.rows-rows.ensures)

-- and its strip counted again
left_is : (q : After-lit_in-left) → q.lit_in-left.result ≡ left_by q.args.self.now q.args.panel.now
left_is q =
    let l = q.args.self.now in
    q.lit_in-left.ensures.value ∙ rows_lit l _ q.rows-rows.ensures _ ∙ ap (lit_for l) q.in_ok-finish.ensures.panel

-- so it moves within what it may be
stays : (q : After-lit_in-left)
    → leaves (q.args.self.now.shape.width * q.args.self.now.shape.rows) q.count_of.result q.lit_in-left.result q.lit_in.result ≡ false
stays q =
    let held = q.count_of.result in
    ap (λ (left : ℕ). leaves (q.args.self.now.shape.width * q.args.self.now.shape.rows) held left q.lit_in.result)
    (left_is q)
    ∙ sym q.refuses.ensures ∙ q.if-refuses.false

pub moved-requires : goal.moved-requires
moved-requires c =
    let at = goal.at.moved-requires c in
    let l = c.args.self.now in
    let panel = c.args.panel.now in
    let small = small-area l.shape (length panel) (good l panel c.requires.text_value.0) in
    let low = not-below _ _ _ _ (stays at.After-lit_in-left) in
    let high = not-above _ _ _ _ (stays at.After-lit_in-left) in
    (low, omega (arith, small, high))

pub with_count-requires : goal.with_count-requires
with_count-requires c = own c.args.self.now c.args.panel.now c.requires.text_value.0

pub returns : goal.returns
returns c =
    let a = c.args in
    let l = a.self.now in
    let font = l.font.now in
    let text = l.text.now in
    let panel = a.panel.now in
    let at = goal.at.returns c in
    let d = at.After-refuses in
    let q = at.After-lit_in-left in
    let read = c.requires.read in
    let pre = c.requires.text_value in
    let reply = c.in_ok-finish.ensures.value ∙ reply-read font l.view read.1 read.0 l.shape l.label text (length panel ∷ []) in
    let count : c.moved.result ≡ _ = c.moved.ensures ∙ (λ i. held-is d i + left_is q i - were-is d i) in
    let counts-are = c.with_count.ensures ∙ ap (set a.counts l.label.strip) count in
    let done = done-by l.view font l.shape l.label text panel a.counts read pre.0 (words at.After-rows-rows) pre.1
    (sym (told d) ∙ c.if-refuses.false) _ reply _ counts-are in
    let marks = c.in_ok-finish.ensures.panel ∙ paint-read font l.view read.1 read.0 l.shape l.label text panel in
    record { value = done.0; number = done.1; panel = marks ∙ done.2 }
