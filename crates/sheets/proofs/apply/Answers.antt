-- `sheets::apply` meets its contract: the shortest slice decides for all three, and then the effects are applied.
-- Assumes nothing.
use Prim.Native.Nat.{ℕ, ◌≤◌}
use mathlib.Core.Path.{◌≡◌, ap, ◌∙◌}
use mathlib.Core.List.{[], ◌∷◌}
use native.Mathlib.Omega.{arith}
use lib.ListN.{length}
use Rattle.std.proofs.lemmas.Result.{err_from_is_err_and}
use Rattle.paint.specs.Panel.{panel_words, panel_number}
use Rattle.paint.proofs.Accepted.{good-panel}
use Rattle.paint.proofs.Slices.{good-number, shorter-number}
use Rattle.words.specs.Effect.{altered}
use Rattle.paint.specs.Sheet.{sheet_of, effect_at}
use Rattle.sheets.specs.Sheet.{apply_number, apply_after}
use Rattle.sheets.proofs.Done.{refused-as, done}
use Rattle.sheets.proofs.apply.Goals as goal
use Rattle.sheets.proofs.apply.Goals.{After-check_panel, After-panel_words}

for-all : (c : After-check_panel) → panel_number c.args.s (c.min-shortest.result ∷ [])
    ≡ panel_number c.args.s (length c.args.keep.now ∷ length c.args.flip.now ∷ length c.args.panel.now ∷ [])
for-all c =
    ap (λ (n : ℕ). panel_number c.args.s (n ∷ [])) c.min-shortest.ensures
    ∙ shorter-number c.args.s _ (length c.args.panel.now) []
    ∙ ap (λ (n : ℕ). panel_number c.args.s (n ∷ length c.args.panel.now ∷ [])) c.min-shorter.ensures
    ∙ shorter-number c.args.s (length c.args.keep.now) (length c.args.flip.now) (length c.args.panel.now ∷ [])

room : (c : After-panel_words) → ((panel_words c.args.s) ≤ length c.args.keep.now) × ((panel_words c.args.s) ≤ length c.args.flip.now)
    × ((panel_words c.args.s) ≤ length c.args.panel.now)
room c =
    let long = (good-panel c.args.s _ (good-number c.args.s _ c.in_ok-check_panel.ensures)).long in
    let shortest = c.min-shortest.ensures in
    let shorter = c.min-shorter.ensures in
    (omega (arith, long, shortest, shorter), omega (arith, long, shortest, shorter), omega (arith, long, shortest))

pub returns-in_err-check_panel : goal.returns-in_err-check_panel
unfolding apply_number apply_after
returns-in_err-check_panel c =
    let stopped = err_from_is_err_and c.from_residual.result c.from_residual.ensures.1 in
    let number = c.in_err-check_panel.ensures ∙ for-all (goal.at.returns-in_err-check_panel c).After-check_panel in
    rw (stopped.1, stopped.2)
    (record {
      value = number;
      panel = refused-as (apply_number c.args.s (sheet_of c.args.keep.now c.args.flip.now) c.args.panel.now) _ c.args.panel.now _ number;
    })

pub apply_words-requires : goal.apply_words-requires
apply_words-requires c =
    let words = c.panel_words.ensures in
    let enough = room (goal.at.apply_words-requires c).After-panel_words in
    (omega (arith, words, enough.0), (omega (arith, words, enough.1), omega (arith, words, enough.2)))

pub returns : goal.returns
unfolding apply_number apply_after
returns c =
    let words = c.panel_words.ensures in
    let n = c.in_ok-check_panel.ensures ∙ for-all (goal.at.returns c).After-check_panel in
    let marks = c.apply_words.ensures ∙ ap (λ (m : ℕ). altered 0 m (effect_at (sheet_of c.args.keep.now c.args.flip.now)) c.args.panel.now)
    words in
    record {
      value = n;
      panel = marks ∙ done (apply_number c.args.s (sheet_of c.args.keep.now c.args.flip.now) c.args.panel.now) _
          c.args.panel.now n;
    }
