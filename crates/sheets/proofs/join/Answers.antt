-- `sheets::join` meets its contract: the shortest slice decides for all four, and then the effects are joined.
-- Assumes nothing.
use Prim.Native.Nat.{ℕ, ◌≤◌}
use mathlib.Core.Path.{◌≡◌, ap, ◌∙◌}
use mathlib.Core.List.{List, [], ◌∷◌}
use native.Mathlib.Omega.{arith}
use lib.ListN.{length}
use Rattle.std.proofs.lemmas.Result.{err_from_is_err_and}
use Rattle.paint.specs.Panel.{panel_words, panel_number}
use Rattle.paint.proofs.Accepted.{good-panel}
use Rattle.paint.proofs.Slices.{good-number, shorter-number}
use Rattle.paint.specs.Sheet.{sheet_of}
use Rattle.sheets.specs.Sheet.{join_number, join_after}
use Rattle.sheets.proofs.Done.{refused-as, done, slices}
use Rattle.sheets.proofs.join.Goals as goal
use Rattle.sheets.proofs.join.Goals.{After-check_panel, In_ok-check_panel}

for-all : (c : After-check_panel) → panel_number c.args.s (c.min-shortest.result ∷ [])
    ≡ panel_number c.args.s (length c.args.keep.now ∷ length c.args.flip.now ∷ length c.args.keep2.now ∷ length c.args.flip2.now ∷ [])
for-all c =
    ap (λ (n : ℕ). panel_number c.args.s (n ∷ [])) c.min-shortest.ensures
    ∙ shorter-number c.args.s _ (length c.args.flip2.now) []
    ∙ ap (λ (n : ℕ). panel_number c.args.s (n ∷ length c.args.flip2.now ∷ [])) c.min-shorter.ensures
    ∙ shorter-number c.args.s _ (length c.args.keep2.now) (length c.args.flip2.now ∷ [])
    ∙ ap (λ (n : ℕ). panel_number c.args.s (n ∷ length c.args.keep2.now ∷ length c.args.flip2.now ∷ [])) c.min-first.ensures
    ∙ shorter-number c.args.s (length c.args.keep.now) (length c.args.flip.now) (length c.args.keep2.now ∷ length c.args.flip2.now ∷ [])

room : (c : In_ok-check_panel) → (λ (slice : List ℕ). panel_words c.args.s ≤ length slice) c.args.keep.now
    × (λ (slice : List ℕ). panel_words c.args.s ≤ length slice) c.args.flip.now
    × (λ (slice : List ℕ). panel_words c.args.s ≤ length slice) c.args.keep2.now
    × (λ (slice : List ℕ). panel_words c.args.s ≤ length slice) c.args.flip2.now
room c =
    let long = (good-panel c.args.s _ (good-number c.args.s _ c.in_ok-check_panel.ensures)).long in
    let third = c.min-shortest.ensures in
    let two = c.min-shorter.ensures in
    let one = c.min-first.ensures in (
      omega (arith, long, third, two, one),
      omega (arith, long, third, two, one),
      omega (arith, long, third, two),
      omega (arith, long, third),
    )

pub returns-in_err-check_panel : goal.returns-in_err-check_panel
unfolding join_number join_after
returns-in_err-check_panel c =
    let stopped = err_from_is_err_and c.from_residual.result c.from_residual.ensures.1 in
    let number = c.in_err-check_panel.ensures ∙ for-all (goal.at.returns-in_err-check_panel c).After-check_panel in
    let stays =
    refused-as (join_number c.args.s (sheet_of c.args.keep.now c.args.flip.now) (sheet_of c.args.keep2.now c.args.flip2.now)) _
    (sheet_of c.args.keep.now c.args.flip.now) _ number in
    rw (stopped.1, stopped.2) (record { value = number; keep = (slices _ _ stays).0; flip = (slices _ _ stays).1 })

pub join_words-requires : goal.join_words-requires
join_words-requires c =
    let enough = room (goal.at.join_words-requires c).In_ok-check_panel in
    record { first = (enough.0, enough.1); second = (enough.2, enough.3) }

pub returns : goal.returns
unfolding join_number join_after
returns c =
    let n = c.in_ok-check_panel.ensures ∙ for-all (goal.at.returns c).After-check_panel in
    let made = slices _ _ (done (join_number c.args.s (sheet_of c.args.keep.now c.args.flip.now)
    (sheet_of c.args.keep2.now c.args.flip2.now)) _ (sheet_of c.args.keep.now c.args.flip.now) n) in
    record { value = n; keep = c.join_words.ensures.keep ∙ made.0; flip = c.join_words.ensures.flip ∙ made.1 }
