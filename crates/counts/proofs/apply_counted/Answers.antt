-- `counts::apply_counted` meets its contract: the shortest slice decides for all three, and by the dots that were lit and those that the
-- sheet leaves lit the counts are settled before it is applied.
-- Assumes nothing.
use Prim.Native.Nat.{ℕ, min}
use mathlib.Core.Path.{◌≡◌, sym, ap, ◌∙◌}
use mathlib.Core.Bool.{false}
use mathlib.Core.List.{[], ◌∷◌}
use native.Mathlib.Omega.{arith}
use lib.ListN.{length}
use Rattle.std.proofs.lemmas.Result.{err_from_is_err_and}
use Rattle.words.specs.Word.{word}
use Rattle.words.proofs.Refusals.{number-not-0}
use Rattle.fonts.proofs.Readings.{read-accepted}
use Rattle.paint.specs.Panel.{bad_panel, panel_number}
use Rattle.paint.specs.Sheet.{Sheet, sheet_of}
use Rattle.paint.proofs.Slices.{good-number}
use Rattle.sheets.specs.Sheet.{apply_number, apply_after}
use Rattle.counts.specs.Lit.{new_counts}
use Rattle.counts.specs.Band.{settled_number, settled_counts}
use Rattle.counts.specs.Calls.{apply_counted}
use Rattle.counts.proofs.Settling.{small-area, shortest-number, sheet-good, all-lit, all_left, own-number, counts-are}
use Rattle.counts.proofs.Settling.{settled-number, panel-stays, settled-refused, panel-done, settled-done}
use Rattle.counts.proofs.apply_counted.Goals as goal
use Rattle.counts.proofs.apply_counted.Goals.{After-check_panel, After-lit_of-left}

number_is : (c : After-check_panel)
    → let a = c.args in panel_number a.s (c.min-room.result ∷ []) ≡ apply_number a.s (sheet_of a.keep.now a.flip.now) a.panel.now
unfolding apply_number
number_is c =
    let a = c.args in
    ap (λ (n : ℕ). panel_number a.s (n ∷ [])) (omega arith)
    ∙ shortest-number a.s (length a.keep.now) (length a.flip.now) (length a.panel.now)

-- where they pass
accepted : (c : After-check_panel) → 0 ≡ panel_number c.args.s (c.min-room.result ∷ [])
    → let a = c.args in 0 ≡ apply_number a.s (sheet_of a.keep.now a.flip.now) a.panel.now
accepted c passed = passed ∙ number_is c

good : (c : After-check_panel) → 0 ≡ panel_number c.args.s (c.min-room.result ∷ [])
    → bad_panel c.args.s (length c.args.panel.now ∷ []) ≡ false
good c passed =
    let a = c.args in (sheet-good a.s (sheet_of a.keep.now a.flip.now) a.panel.now (sym (accepted c passed))).2

-- and when the dots are counted
module _ (c : After-lit_of-left)
    (passed : let a = c.args in 0 ≡ apply_number a.s (sheet_of a.keep.now a.flip.now) a.panel.now) where
  abbrev sheet : Sheet
  sheet = sheet_of c.args.keep.now c.args.flip.now

  number_told : settled_number c.args.s c.args.counts (word c.lit_of-left.result) (word c.lit_of-lit.result)
      ≡ (apply_counted c.args.s sheet c.args.panel.now c.args.counts).number
  number_told =
      let a = c.args in
      settled-number a.s (apply_number a.s sheet a.panel.now) a.panel.now (apply_after a.s sheet a.panel.now) a.counts
      c.lit_of-left.result c.lit_of-lit.result
      (c.lit_of-left.ensures ∙ all_left a.s sheet a.panel.now (sym passed))
      (c.lit_of-lit.ensures ∙ all-lit a.s a.panel.now (sheet-good a.s sheet a.panel.now (sym passed)).2)
      passed

  counts_told : settled_counts c.args.counts (word c.lit_of-left.result) (word c.lit_of-lit.result)
      ≡ new_counts c.args.s c.args.panel.now (apply_after c.args.s sheet c.args.panel.now) c.args.counts
  counts_told =
      let a = c.args in
      counts-are a.s (apply_number a.s sheet a.panel.now) a.panel.now (apply_after a.s sheet a.panel.now) a.counts
      c.lit_of-left.result c.lit_of-lit.result
      (c.lit_of-left.ensures ∙ all_left a.s sheet a.panel.now (sym passed))
      (c.lit_of-lit.ensures ∙ all-lit a.s a.panel.now (sheet-good a.s sheet a.panel.now (sym passed)).2)

pub returns-in_err-check_panel : goal.returns-in_err-check_panel
returns-in_err-check_panel c =
    let a = c.args in
    let sheet = sheet_of a.keep.now a.flip.now in
    let own = apply_number a.s sheet a.panel.now in
    let after = apply_after a.s sheet a.panel.now in
    let stopped = err_from_is_err_and c.from_residual.result c.from_residual.ensures.1 in
    let tested = c.in_err-check_panel.ensures ∙ number_is (goal.at.returns-in_err-check_panel c).After-check_panel in
    let number = own-number a.s own a.panel.now after a.counts _ tested in
    rw (stopped.1, stopped.2)
    (record {
      value = settled-refused a.s own a.panel.now after a.counts _ number;
      number = number;
      panel = panel-stays a.s own a.panel.now after a.counts _ number;
    })

pub lit_of-lit-requires : goal.lit_of-lit-requires
lit_of-lit-requires c = good (goal.at.lit_of-lit-requires c).After-check_panel c.in_ok-check_panel.ensures

pub lit_of-left-requires : goal.lit_of-left-requires
lit_of-left-requires c =
    let a = c.args in
    let room : min (min (length a.keep.now) (length a.flip.now)) (length a.panel.now) ≡ c.min-room.result = omega arith in
    ap (λ (n : ℕ). bad_panel a.s (n ∷ [])) room ∙ good-number a.s _ c.in_ok-check_panel.ensures

pub settle-requires : goal.settle-requires
settle-requires c =
    small-area c.args.s (length c.args.panel.now) (good (goal.at.settle-requires c).After-check_panel c.in_ok-check_panel.ensures)

-- refused for the counts
pub returns-in_err-new : goal.returns-in_err-new
returns-in_err-new c =
    let a = c.args in
    let sheet = sheet_of a.keep.now a.flip.now in
    let own = apply_number a.s sheet a.panel.now in
    let after = apply_after a.s sheet a.panel.now in
    let at = goal.at.returns-in_err-new c in
    let stopped = err_from_is_err_and c.from_residual-in_err-new.result c.from_residual-in_err-new.ensures.1 in
    let passed = accepted at.After-check_panel c.in_ok-check_panel.ensures in
    let number = c.in_err-new.ensures.number ∙ number_told at.After-lit_of-left passed in
    rw (stopped.1, stopped.2)
    (record {
      value = settled-refused a.s own a.panel.now after a.counts _ number;
      number = number;
      panel = panel-stays a.s own a.panel.now after a.counts _ number;
    })

-- what has passed is applied
pub returns-in_err-apply : goal.returns-in_err-apply
returns-in_err-apply c =
    let passed = accepted (goal.at.returns-in_err-apply c).After-check_panel c.in_ok-check_panel.ensures in
    absurd (number-not-0 _ (c.in_err-apply.ensures.value ∙ sym passed))

pub returns : goal.returns
returns c =
    let a = c.args in
    let sheet = sheet_of a.keep.now a.flip.now in
    let own = apply_number a.s sheet a.panel.now in
    let after = apply_after a.s sheet a.panel.now in
    let at = goal.at.returns c in
    let left = at.After-lit_of-left in
    let passed = accepted at.After-check_panel c.in_ok-check_panel.ensures in
    let new = read-accepted (settled_number a.s a.counts (word c.lit_of-left.result) (word c.lit_of-lit.result))
    (settled_counts a.counts (word c.lit_of-left.result) (word c.lit_of-lit.result)) _ (sym c.in_ok-new.ensures.value) in
    let number = c.in_ok-new.ensures.number ∙ number_told left passed in
    record {
      value = settled-done a.s own a.panel.now after a.counts number _ (new.1 ∙ counts_told left passed);
      number = number;
      panel = c.apply.ensures.panel ∙ panel-done a.s own a.panel.now after a.counts number;
    }
