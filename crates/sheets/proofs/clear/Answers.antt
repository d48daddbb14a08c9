-- `sheets::clear` meets its contract: the shape and the panel are tested, and then its words are filled with 0.
-- Assumes nothing.
use Prim.Native.Nat.{ℕ}
use mathlib.Core.Path.{ap, ◌∙◌}
use native.Mathlib.Omega.{arith}
use Rattle.words.specs.Word.{over}
use Rattle.std.proofs.lemmas.Result.{err_from_is_err_and}
use Rattle.paint.proofs.Accepted.{good-panel}
use Rattle.paint.proofs.Slices.{good-number}
use Rattle.sheets.specs.Sheet.{clear_number, clear_after}
use Rattle.sheets.proofs.Done.{refused-as, done}
use Rattle.sheets.proofs.clear.Goals as goal

pub returns-in_err-check_panel : goal.returns-in_err-check_panel
unfolding clear_number clear_after
returns-in_err-check_panel c =
    let stopped = err_from_is_err_and c.from_residual.result c.from_residual.ensures.1 in
    let number = c.in_err-check_panel.ensures in
    rw (stopped.1, stopped.2)
    (record { value = number; panel = refused-as (clear_number c.args.s c.args.panel.now) _ c.args.panel.now _ number })

pub fill-requires : goal.fill-requires
fill-requires c =
    let words = c.panel_words.ensures in
    let long = (good-panel c.args.s _ (good-number c.args.s _ c.in_ok-check_panel.ensures)).long in
    omega (arith, words, long)

pub returns : goal.returns
unfolding clear_number clear_after
returns c =
    let words = c.panel_words.ensures in
    let n = c.in_ok-check_panel.ensures in
    let cleared = c.fill.ensures ∙ ap (λ (m : ℕ). over m (λ i. 0) c.args.panel.now) words in
    record { value = n; panel = cleared ∙ done (clear_number c.args.s c.args.panel.now) _ c.args.panel.now n }
