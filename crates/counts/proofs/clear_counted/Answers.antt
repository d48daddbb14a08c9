-- `counts::clear_counted` meets its contract: no dot is left lit, and by the dots that were lit the counts are settled before the panel is
-- cleared.
-- Assumes nothing.
use Prim.Native.Nat.{ℕ}
use mathlib.Core.Path.{◌≡◌, sym, ◌∙◌}
use mathlib.Core.List.{List}
use lib.ListN.{length}
use Rattle.std.proofs.lemmas.Result.{err_from_is_err_and}
use Rattle.words.specs.Word.{word, table}
use Rattle.words.proofs.Refusals.{number-not-0}
use Rattle.fonts.proofs.Readings.{read-accepted}
use Rattle.paint.proofs.Slices.{good-number}
use Rattle.sheets.specs.Sheet.{clear_number, clear_after}
use Rattle.counts.specs.Lit.{new_counts}
use Rattle.counts.specs.Band.{settled_number, settled_counts}
use Rattle.counts.specs.Calls.{clear_counted}
use Rattle.counts.proofs.Settling.{small-area, all-lit, cleared-dark, own-number, counts-are, settled-number}
use Rattle.counts.proofs.Settling.{panel-stays, settled-refused, panel-done, settled-done}
use Rattle.counts.proofs.clear_counted.Goals as goal
use Rattle.counts.proofs.clear_counted.Goals.{After-lit_of-lit}

accepted : (c : After-lit_of-lit) → 0 ≡ clear_number c.args.s c.args.panel.now
unfolding clear_number
accepted c = c.in_ok-check_panel.ensures

-- no dot is left
abbrev dark : List ℕ
dark = table 32 (λ k. 0)

-- when the dots are counted
module _ (c : After-lit_of-lit) where
  number_told : settled_number c.args.s c.args.counts (word dark) (word c.lit_of-lit.result)
      ≡ (clear_counted c.args.s c.args.panel.now c.args.counts).number
  number_told =
      let a = c.args in
      let passed = accepted c in
      let good = good-number a.s _ c.in_ok-check_panel.ensures in
      settled-number a.s (clear_number a.s a.panel.now) a.panel.now (clear_after a.s a.panel.now) a.counts dark c.lit_of-lit.result
      (cleared-dark a.s a.panel.now good passed) (c.lit_of-lit.ensures ∙ all-lit a.s a.panel.now good) passed

  counts_told : settled_counts c.args.counts (word dark) (word c.lit_of-lit.result)
      ≡ new_counts c.args.s c.args.panel.now (clear_after c.args.s c.args.panel.now) c.args.counts
  counts_told =
      let a = c.args in
      let good = good-number a.s _ c.in_ok-check_panel.ensures in
      counts-are a.s (clear_number a.s a.panel.now) a.panel.now (clear_after a.s a.panel.now) a.counts dark c.lit_of-lit.result
      (cleared-dark a.s a.panel.now good (accepted c)) (c.lit_of-lit.ensures ∙ all-lit a.s a.panel.now good)

pub returns-in_err-check_panel : goal.returns-in_err-check_panel
unfolding clear_number
returns-in_err-check_panel c =
    let a = c.args in
    let own = clear_number a.s a.panel.now in
    let after = clear_after a.s a.panel.now in
    let stopped = err_from_is_err_and c.from_residual.result c.from_residual.ensures.1 in
    let number = own-number a.s own a.panel.now after a.counts _ c.in_err-check_panel.ensures in
    rw (stopped.1, stopped.2)
    (record {
      value = settled-refused a.s own a.panel.now after a.counts _ number;
      number = number;
      panel = panel-stays a.s own a.panel.now after a.counts _ number;
    })

pub lit_of-lit-requires : goal.lit_of-lit-requires
lit_of-lit-requires c = good-number c.args.s _ c.in_ok-check_panel.ensures

pub settle-requires : goal.settle-requires
settle-requires c = small-area c.args.s (length c.args.panel.now) (good-number c.args.s _ c.in_ok-check_panel.ensures)

-- refused for the counts
pub returns-in_err-new : goal.returns-in_err-new
unfolding table
returns-in_err-new c =
    let a = c.args in
    let own = clear_number a.s a.panel.now in
    let after = clear_after a.s a.panel.now in
    let stopped = err_from_is_err_and c.from_residual-in_err-new.result c.from_residual-in_err-new.ensures.1 in
    let number = c.in_err-new.ensures.number ∙ number_told (goal.at.returns-in_err-new c).After-lit_of-lit in
    rw (stopped.1, stopped.2)
    (record {
      value = settled-refused a.s own a.panel.now after a.counts _ number;
      number = number;
      panel = panel-stays a.s own a.panel.now after a.counts _ number;
    })

-- what has passed is cleared
pub returns-in_err-clear : goal.returns-in_err-clear
returns-in_err-clear c =
    absurd (number-not-0 _ (c.in_err-clear.ensures.value ∙ sym (accepted (goal.at.returns-in_err-clear c).After-lit_of-lit)))

pub returns : goal.returns
unfolding table
returns c =
    let a = c.args in
    let own = clear_number a.s a.panel.now in
    let after = clear_after a.s a.panel.now in
    let lit = (goal.at.returns c).After-lit_of-lit in
    let new = read-accepted (settled_number a.s a.counts (word dark) (word c.lit_of-lit.result))
    (settled_counts a.counts (word dark) (word c.lit_of-lit.result)) _ (sym c.in_ok-new.ensures.value) in
    let number = c.in_ok-new.ensures.number ∙ number_told lit in
    record {
      value = settled-done a.s own a.panel.now after a.counts number _ (new.1 ∙ counts_told lit);
      number = number;
      panel = c.clear.ensures.panel ∙ panel-done a.s own a.panel.now after a.counts number;
    }
