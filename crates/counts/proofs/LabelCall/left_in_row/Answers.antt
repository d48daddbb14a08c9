-- `counts::LabelCall::left_in_row` meets its contract: the label on a copy of the strip's words leaves the words that it would leave on
-- the panel.
-- Assumes nothing.
use Prim.Native.Nat.{ℕ, ◌+◌}
use mathlib.Core.Path.{◌≡◌, refl, sym, ap, ap₂, ◌∙◌}
use mathlib.Core.List.{List}
use native.Mathlib.Omega.{arith}
use lib.ListN.{length, replicate}
use Rattle.words.specs.Word.{word}
use Rattle.fonts.specs.Face.{face_from}
use Rattle.paint.specs.declared.Shape.{Shape}
use Rattle.paint.specs.declared.Label.{Label}
use Rattle.paint.specs.Label.{row_with}
use Rattle.paint.proofs.Accepted.{good-panel}
use Rattle.counts.specs.declared.Band.{Band}
use Rattle.counts.specs.Band.{band_of, lit_in_words, copied_to}
use Rattle.counts.proofs.Copying.{copied-length}
use Rattle.counts.proofs.Counting.{inside-same}
use Rattle.counts.proofs.Settling.{good-width, inside-rows}
use Rattle.counts.proofs.Calling.{good, few, own}
use Rattle.counts.proofs.Trying.{alone-inside, in-one-row, in-panel, row-long, left_alone}
use Rattle.counts.proofs.LabelCall.left_in_row.Goals as goal
use Rattle.counts.proofs.LabelCall.left_in_row.Goals.{After-copy_row, After-paint_row}

-- the strip's words of the row, copied to a row of their own
abbrev copiedIn : Shape → Label → List ℕ → ℕ → List ℕ
copiedIn s l panel row =
    let from = band_of s l.strip row 1 in copied_to panel from.at (band_of s l.strip 0 1).at (from.last + 1) (replicate 128 0)

pub of-alone-requires : goal.of-alone-requires
of-alone-requires c =
    let l = c.args.self.now in
    let panel = c.args.panel.now in
    (omega arith, (good-width l.shape (length panel) (good l panel c.requires.0)).0)

pub of-requires : goal.of-requires
of-requires c =
    let l = c.args.self.now in
    let panel = c.args.panel.now in
    (omega (arith, few l panel c.requires.0, c.requires.1), (good-width l.shape (length panel) (good l panel c.requires.0)).0)

pub copy_row-requires : goal.copy_row-requires
copy_row-requires c =
    let a = c.args in
    let panel = a.panel.now in
    let from = c.of.ensures in
    let to = c.of-alone.ensures in
    let from_at = ap (λ (t : Band). t.at) from in
    let from_last = ap (λ (t : Band). t.last) from in
    let to_at = ap (λ (t : Band). t.at) to in
    let l = a.self.now in
    let fits = good l panel c.requires.0 in
    let p = good-panel l.shape (length panel) fits in
    let long = p.long in
    let narrow = p.narrow in
    let face = face_from l.view l.font.now in
    let line = in-one-row face l.shape l.label l.text.now panel a.row c.requires.0 c.requires.1 in
    let lent = in-panel face l.shape l.label l.text.now panel a.row c.requires.0 c.requires.1 in
    let inside = inside-rows l.shape l.label.strip (length panel) fits (own l panel c.requires.0) a.row 1 (omega (arith, c.requires.1)) in
    (omega (arith, from_at, from_last, lent, long), omega (arith, to_at, from_last, line, narrow), omega (arith, from_at, inside.3))

-- the copy
copied_is : (c : After-copy_row)
    → let a = c.args in c.copy_row.new.space ≡ copiedIn a.self.now.shape a.self.now.label a.panel.now a.row
copied_is c =
    c.copy_row.ensures
    ∙ ap₂ (λ (from to : Band). copied_to c.args.panel.now from.at to.at (from.last + 1) (replicate 128 0))
    c.of.ensures c.of-alone.ensures

long : (c : After-copy_row)
    → let a = c.args in length (copiedIn a.self.now.shape a.self.now.label a.panel.now a.row) ≡ 128
long c = copied-length c.args.panel.now _ _ _ (replicate 128 0)

pub slice_bounds-paint_row-end : goal.slice_bounds-paint_row-end
slice_bounds-paint_row-end c =
    let copy = (goal.at.slice_bounds-paint_row-end c).After-copy_row in sym (ap length (copied_is copy) ∙ long copy)

-- the row that is painted on it
row_is : (c : After-paint_row)
    → let a = c.args in
    let l = a.self.now in
    let copied = copiedIn l.shape l.label a.panel.now a.row in c.copy_row.new.space ≡ copied
    → c.paint_row.new.words ≡ row_with (face_from l.view l.font.now) l.shape l.label l.text.now a.row copied
row_is c copy =
    let l = c.args.self.now in
    c.paint_row.ensures ∙ ap (row_with (face_from l.view l.font.now) l.shape l.label l.text.now c.args.row) copy

pub lit-requires : goal.lit-requires
lit-requires c =
    let l = c.args.self.now in
    let panel = c.args.panel.now in
    let face = face_from l.view l.font.now in
    let at = goal.at.lit-requires c in
    let row = row_is at.After-paint_row (copied_is at.After-copy_row) in
    let size = row-long face l.shape l.label l.text.now panel c.args.row c.requires.0 c.requires.1 (replicate 128 0) refl in
    let inside = alone-inside l.shape (length panel) l.label.strip (good l panel c.requires.0) (own l panel c.requires.0) in
    inside-same _ _ _ _ c.of-alone.ensures (ap length row ∙ size) inside

pub returns : goal.returns
returns c =
    let l = c.args.self.now in
    let face = face_from l.view l.font.now in
    let at = goal.at.returns c in
    let row = row_is at.After-paint_row (copied_is at.After-copy_row) in
    let left = left_alone face l.shape l.label l.text.now c.args.panel.now c.args.row c.requires.0 c.requires.1 (replicate 128 0) refl in
    record {
      value = c.lit.ensures.value
          ∙ ap₂ (λ (band : Band) (words : List ℕ). lit_in_words band (word words) (band.last + 1)) c.of-alone.ensures row ∙ left;
      near = c.lit.ensures.near;
    }
