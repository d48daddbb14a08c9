-- `convert::Plan::write` meets its contract: the header comes first, and the body behind it.
use Prim.Native.Nat.{ℕ, ◌+◌, ◌-◌, ◌*◌}
use mathlib.Core.Path.{◌≡◌, sym, ap, ap₂, ◌∙◌}
use mathlib.Core.List.{List, ◌++◌}
use native.Mathlib.Omega.{arith}
use lib.ListN.{length, take, drop, length-drop}
use lib.Seq.{length-take-le}
use Rattle.words.specs.Word.{table}
use Rattle.words.proofs.Lists.{behind-front, rest-lent, nothing-behind}
use Rattle.words.proofs.Tables.{joined_length}
use Rattle.convert.specs.Writing.{header_words, bitmap_word, pointer_word, width_entry}
use Rattle.convert.specs.Planned.{planned}
use Rattle.convert.proofs.Laid.{file-by}
use Rattle.convert.proofs.Plan.write.Goals as goal
use Rattle.convert.proofs.Plan.write.Goals.{After-write_header}

pub slice_bounds-write_header-end : goal.slice_bounds-write_header-end
slice_bounds-write_header-end c = let enough = c.requires in omega arith

pub slice_bounds-write_header-end-2 : goal.slice_bounds-write_header-end-2
slice_bounds-write_header-end-2 c = let enough = c.requires in sym (length-take-le 13 c.args.out.now (omega arith))

pub write_header-requires : goal.write_header-requires
write_header-requires c = let enough = c.requires in length-take-le 13 c.args.out.now (omega arith)

front_length : (c : After-write_header) → length c.write_header.new.header ≡ 13
unfolding header_words
front_length c = ap length c.write_header.ensures

rest-length : (c : After-write_header) → length (drop 13 c.args.out.now) ≡ length c.args.out.now - 13
rest-length c = length-drop 13 c.args.out.now

whole_length : (c : After-write_header) → length (c.write_header.new.header ++ (drop 13 c.args.out.now)) ≡ length c.args.out.now
whole_length c = let enough = c.requires in
    joined_length c.write_header.new.header (drop 13 c.args.out.now) 13 (front_length c) _ (rest-length c) ∙ omega arith

body-lent : (c : After-write_header) → take (length (c.write_header.new.header ++ (drop 13 c.args.out.now)) - 13)
    (drop 13 (c.write_header.new.header ++ (drop 13 c.args.out.now))) ≡ (drop 13 c.args.out.now)
body-lent c = rest-lent c.write_header.new.header (drop 13 c.args.out.now) 13
    (length (c.write_header.new.header ++ (drop 13 c.args.out.now)) - 13) (front_length c)
    (let all = (whole_length c) in let left = (rest-length c) in omega arith)

pub slice_bounds-write_body-count : goal.slice_bounds-write_body-count
slice_bounds-write_body-count c = let enough = c.requires in
    let all = whole_length (goal.at.slice_bounds-write_body-count c).After-write_header in omega arith

pub slice_bounds-write_body-start : goal.slice_bounds-write_body-start
slice_bounds-write_body-start c = let enough = c.requires in
    let all = whole_length (goal.at.slice_bounds-write_body-start c).After-write_header in omega arith

pub write_body-requires : goal.write_body-requires
write_body-requires c =
    let enough = c.requires in
    let left = ap length (body-lent (goal.at.write_body-requires c).After-write_header)
    ∙ rest-length (goal.at.write_body-requires c).After-write_header in
    omega arith

pub returns : goal.returns
returns c =
    let d = planned c.args.self.now in
    let l = c.args.self.now.layout in
    let ys = c.write_body.new.body in
    let k = length (c.write_header.new.header ++ (drop 13 c.args.out.now)) - 13 in
    let body : List ℕ → List ℕ = λ q.
    table (l.raster * l.rows) (bitmap_word d)
    ++ (table (l.codes + 2) (pointer_word d) ++
    (table (l.codes + 1) (width_entry d) ++ drop (l.codes + 1) (drop (l.codes + 2) (drop (l.raster * l.rows) q)))) in
    behind-front c.write_header.new.header (drop 13 c.args.out.now) ys 13 k (front_length (goal.at.returns c).After-write_header)
    ∙ ap (λ (q : List ℕ). c.write_header.new.header ++ q)
    (nothing-behind (drop 13 c.args.out.now) ys k
    (let all = whole_length (goal.at.returns c).After-write_header in let left = rest-length (goal.at.returns c).After-write_header in
    omega arith))
    ∙ ap₂ (λ (p q : List ℕ). p ++ q) c.write_header.ensures c.write_body.ensures
    ∙ ap (λ (q : List ℕ). header_words d ++ body q) (body-lent (goal.at.returns c).After-write_header)
    ∙ file-by d l c.args.self.now.laid c.args.out.now
