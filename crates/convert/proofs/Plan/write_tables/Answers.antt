-- `convert::Plan::write_tables` meets its contract: the pointers come first, and the width entries behind them.
use Prim.Native.Nat.{ℕ, ◌+◌, ◌-◌}
use mathlib.Core.Path.{◌≡◌, sym, ap, ap₂, ◌∙◌}
use mathlib.Core.List.{List, ◌++◌}
use native.Mathlib.Nat.{add-sub_cancel_left}
use native.Mathlib.Omega.{arith}
use lib.ListN.{length, drop, length-drop}
use lib.Seq.{length-take-le}
use Rattle.words.specs.Word.{table}
use Rattle.words.proofs.Lists.{behind-front}
use Rattle.words.proofs.Tables.{table-length, joined_length}
use Rattle.convert.specs.Writing.{width_entry}
use Rattle.convert.specs.Planned.{planned}
use Rattle.convert.proofs.Plan.write_tables.Goals as goal
use Rattle.convert.proofs.Plan.write_tables.Goals.{After-write_pointers}

pub slice_bounds-write_pointers-end : goal.slice_bounds-write_pointers-end
slice_bounds-write_pointers-end c = let enough = c.requires in omega arith

pub slice_bounds-write_pointers-end-2 : goal.slice_bounds-write_pointers-end-2
slice_bounds-write_pointers-end-2 c =
    let enough = c.requires in
    sym (length-take-le (c.args.self.now.layout.codes + 2) c.args.tables.now (omega arith))

pub write_pointers-requires : goal.write_pointers-requires
write_pointers-requires c = let enough = c.requires in length-take-le _ c.args.tables.now (omega arith)

front_length : (c : After-write_pointers) → length c.write_pointers.new.pointers ≡ c.args.self.now.layout.codes + 2
front_length c = ap length c.write_pointers.ensures ∙ table-length _ _

whole_length : (c : After-write_pointers)
    → length (c.write_pointers.new.pointers ++ drop (c.args.self.now.layout.codes + 2) c.args.tables.now)
    ≡ length c.args.tables.now
whole_length c =
    let enough = c.requires in
    joined_length c.write_pointers.new.pointers _ _ (front_length c) _ (length-drop (c.args.self.now.layout.codes + 2) c.args.tables.now)
    ∙ omega arith

pub slice_bounds-write_widths-end : goal.slice_bounds-write_widths-end
slice_bounds-write_widths-end c =
    let enough = c.requires in
    let whole = whole_length (goal.at.slice_bounds-write_widths-end c).After-write_pointers in
    omega arith

pub write_widths-requires : goal.write_widths-requires
write_widths-requires c =
    let n = c.args.self.now.layout.codes in
    let whole = c.write_pointers.new.pointers ++ drop (n + 2) c.args.tables.now in
    let enough = c.requires in
    let all = whole_length (goal.at.write_widths-requires c).After-write_pointers in
    let left = length-drop (n + 2) whole in
    length-take-le _ (drop (n + 2) whole) (omega arith) ∙ add-sub_cancel_left (n + 2) (n + 1)

pub returns : goal.returns
returns c =
    let n = c.args.self.now.layout.codes in
    let d = planned c.args.self.now in
    let lent = c.args.tables.now in
    behind-front c.write_pointers.new.pointers (drop (n + 2) lent) c.write_widths.new.widths (n + 2) (n + 2 + (n + 1) - (n + 2))
    (front_length (goal.at.returns c).After-write_pointers)
    ∙ ap₂ (λ (k : ℕ) (ys : List ℕ). c.write_pointers.new.pointers ++ (ys ++ drop k (drop (n + 2) lent)))
    (add-sub_cancel_left (n + 2) (n + 1)) c.write_widths.ensures
    ∙ ap (λ (xs : List ℕ). xs ++ (table (n + 1) (width_entry d) ++ drop (n + 1) (drop (n + 2) lent))) c.write_pointers.ensures
