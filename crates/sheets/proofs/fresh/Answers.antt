-- `sheets::fresh` meets its contract: the shorter slice decides for both, and then they are filled with the effect that alters nothing.
-- Assumes nothing.
use Prim.Native.Nat.{ℕ, ◌≤◌}
use mathlib.Core.Path.{◌≡◌, ap, ap₂, ◌∙◌}
use mathlib.Core.List.{[], ◌∷◌}
use native.Mathlib.Omega.{arith}
use lib.ListN.{length}
use Rattle.std.proofs.lemmas.Result.{err_from_is_err_and}
use Rattle.paint.specs.Panel.{panel_words, panel_number}
use Rattle.paint.proofs.Accepted.{good-panel}
use Rattle.paint.proofs.Slices.{good-number, shorter-number}
use Rattle.words.specs.declared.Effect.{Effect}
use Rattle.words.specs.Word.{over}
use Rattle.paint.specs.Sheet.{sheet_of, lengths, written}
use Rattle.sheets.specs.Sheet.{fresh_number, fresh_after}
use Rattle.sheets.proofs.Done.{refused-as, done, slices}
use Rattle.sheets.proofs.fresh.Goals as goal
use Rattle.sheets.proofs.fresh.Goals.{After-check_panel, After-panel_words-n}

for-both : (c : After-check_panel) → panel_number c.args.s (c.min-shorter.result ∷ [])
    ≡ panel_number c.args.s (lengths (sheet_of c.args.keep.now c.args.flip.now))
unfolding lengths
for-both c = ap (λ (n : ℕ). panel_number c.args.s (n ∷ [])) c.min-shorter.ensures
    ∙ shorter-number c.args.s (length c.args.keep.now) (length c.args.flip.now) []

-- where it passes there is room in both
room : (c : After-panel_words-n) → (panel_words c.args.s ≤ length c.args.keep.now) × (panel_words c.args.s ≤ length c.args.flip.now)
room c =
    let long = (good-panel c.args.s _ (good-number c.args.s _ c.in_ok-check_panel.ensures)).long in
    let shorter = c.min-shorter.ensures in
    (omega (arith, long, shorter), omega (arith, long, shorter))

pub returns-in_err-check_panel : goal.returns-in_err-check_panel
unfolding fresh_number fresh_after
returns-in_err-check_panel c =
    let stopped = err_from_is_err_and c.from_residual.result c.from_residual.ensures.1 in
    let number = c.in_err-check_panel.ensures ∙ for-both (goal.at.returns-in_err-check_panel c).After-check_panel in
    let stays = refused-as (fresh_number c.args.s (sheet_of c.args.keep.now c.args.flip.now)) _ (sheet_of c.args.keep.now c.args.flip.now) _
    number in
    rw (stopped.1, stopped.2) (record { value = number; keep = (slices _ _ stays).0; flip = (slices _ _ stays).1 })

pub fill-requires : goal.fill-requires
fill-requires c =
    let words = c.panel_words-n.ensures in
    omega (arith, words, (room (goal.at.fill-requires c).After-panel_words-n).0)

pub fill-requires-2 : goal.fill-requires-2
fill-requires-2 c =
    let words = c.panel_words-n.ensures in
    omega (arith, words, (room (goal.at.fill-requires-2 c).After-panel_words-n).1)

pub returns : goal.returns
unfolding fresh_number fresh_after written
returns c =
    let words = c.panel_words-n.ensures in
    let n = c.in_ok-check_panel.ensures ∙ for-both (goal.at.returns c).After-check_panel in
    let made = slices _ _ (done (fresh_number c.args.s (sheet_of c.args.keep.now c.args.flip.now)) _
    (sheet_of c.args.keep.now c.args.flip.now) n) in
    let kept = ap (λ (e : Effect). e.keep) c.identity-idle.ensures in
    let flipped = ap (λ (e : Effect). e.flip) c.identity-idle.ensures in
    record {
      value = n;
      keep = c.fill.ensures ∙ ap₂ (λ (m w : ℕ). over m (λ i. w) c.args.keep.now) words kept ∙ made.0;
      flip =
          c.fill-2.ensures ∙ ap₂ (λ (m w : ℕ). over m (λ i. w) c.args.flip.now) words flipped ∙ made.1;
    }
