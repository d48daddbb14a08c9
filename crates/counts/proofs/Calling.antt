-- What is known of a label call that a panel accepts, and of the rows that it may reach.
use Prim.Native.Nat.{ℕ, ◌+◌, ◌≤◌}
use mathlib.Core.Path.{◌≡◌, sym, ap}
use mathlib.Core.Bool.{false}
use mathlib.Core.List.{List, [], ◌∷◌}
use lib.ListN.{length}
use Rattle.paint.specs.Panel.{bad_panel}
use Rattle.paint.proofs.Accepted.{good-panel, accepted-label}
use Rattle.paint.proofs.Replies.{panel-good}
use Rattle.counts.specs.declared.Rows.{Rows}
use Rattle.counts.specs.declared.LabelCall.{LabelCall}
use Rattle.counts.specs.Band.{Accepted, rows_of, lit_in, lit_reached}
use Rattle.counts.proofs.Reached.{reached-below}

module _ (l : LabelCall) (panel : List ℕ) (accepted : Accepted l panel) where
  pub good : bad_panel l.shape (length panel ∷ []) ≡ false
  good = panel-good l.shape (length panel ∷ []) l.label (length l.text.now) (sym accepted)

  pub few : l.shape.rows ≤ 256
  few = (good-panel l.shape (length panel) good).low

  pub own : l.label.strip ≤ 31
  own = (accepted-label l.shape (length panel) l.label (length l.text.now) (sym accepted)).strip

-- the lit dots of its strip in the rows that it may reach
abbrev pub lit_for : LabelCall → List ℕ → ℕ
lit_for l panel = lit_reached l.view l.font.now l.shape l.label panel

module _ (l : LabelCall) (rows : Rows) (same : rows ≡ rows_of l) where
  pub below : rows.first + rows.count ≤ l.shape.rows
  below = rw same (reached-below l.view l.font.now l.shape l.label)

  pub rows_lit : (panel : List ℕ) → lit_in l.shape l.label.strip rows.first rows.count panel ≡ lit_for l panel
  unfolding lit_reached
  rows_lit panel = ap (λ (t : Rows). lit_in l.shape l.label.strip t.first t.count panel) same
