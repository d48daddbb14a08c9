-- `convert::Plan::write_body` meets its contract: the bitmap comes first, and the tables behind it.
use Prim.Native.Nat.{ℕ, ◌+◌, ◌-◌}
use mathlib.Core.Path.{◌≡◌, sym, ap, ap₂, ◌∙◌}
use mathlib.Core.List.{List, ◌++◌}
use native.Mathlib.Omega.{arith}
use lib.ListN.{length, take, drop, length-drop}
use lib.Seq.{length-take-le}
use Rattle.words.specs.Word.{table}
use Rattle.words.proofs.Lists.{behind-front, rest-lent, nothing-behind}
use Rattle.words.proofs.Tables.{table-length, joined_length}
use Rattle.convert.specs.Writing.{bitmap_word, pointer_word, width_entry}
use Rattle.convert.specs.Planned.{planned, planned_words}
use Rattle.convert.proofs.Plan.write_body.Goals as goal
use Rattle.convert.proofs.Plan.write_body.Goals.{After-write_bitmap}

pub slice_bounds-write_bitmap-end : goal.slice_bounds-write_bitmap-end
slice_bounds-write_bitmap-end c = let words = c.bitmap_words-bitmap.ensures.value in
    let enough = c.requires in omega arith

pub slice_bounds-write_bitmap-end-2 : goal.slice_bounds-write_bitmap-end-2
slice_bounds-write_bitmap-end-2 c =
    let words = c.bitmap_words-bitmap.ensures.value in
    let enough = c.requires in
    sym (length-take-le _ _ (omega arith))

pub write_bitmap-requires : goal.write_bitmap-requires
write_bitmap-requires c =
    let words = c.bitmap_words-bitmap.ensures.value in
    let enough = c.requires in
    length-take-le _ _ (omega arith) ∙ words

words : (c : After-write_bitmap) → c.bitmap_words-bitmap.result ≡ planned_words c.args.self.now
words c = c.bitmap_words-bitmap.ensures.value

front_length : (c : After-write_bitmap) → length c.write_bitmap.new.bitmap ≡ c.bitmap_words-bitmap.result
front_length c = ap length c.write_bitmap.ensures ∙ table-length _ _ ∙ sym (words c)

rest-length : (c : After-write_bitmap) → length (drop c.bitmap_words-bitmap.result c.args.body.now)
    ≡ length c.args.body.now - c.bitmap_words-bitmap.result
rest-length c = length-drop c.bitmap_words-bitmap.result c.args.body.now

whole_length : (c : After-write_bitmap) → length (c.write_bitmap.new.bitmap ++ (drop c.bitmap_words-bitmap.result c.args.body.now))
    ≡ length c.args.body.now
whole_length c =
    let enough = c.requires in
    let size = (words c) in
    joined_length c.write_bitmap.new.bitmap (drop c.bitmap_words-bitmap.result c.args.body.now) c.bitmap_words-bitmap.result
    (front_length c) _ (rest-length c) ∙ omega arith

tables-lent : (c : After-write_bitmap) → take (length (c.write_bitmap.new.bitmap ++ (drop c.bitmap_words-bitmap.result c.args.body.now)) -
    c.bitmap_words-bitmap.result) (drop c.bitmap_words-bitmap.result
    (c.write_bitmap.new.bitmap ++ (drop c.bitmap_words-bitmap.result c.args.body.now)))
    ≡ (drop c.bitmap_words-bitmap.result c.args.body.now)
tables-lent c = rest-lent c.write_bitmap.new.bitmap (drop c.bitmap_words-bitmap.result c.args.body.now) c.bitmap_words-bitmap.result
    (length (c.write_bitmap.new.bitmap ++ (drop c.bitmap_words-bitmap.result c.args.body.now)) - c.bitmap_words-bitmap.result)
    (front_length c) (let all = (whole_length c) in let left = (rest-length c) in omega arith)

pub offset_bounds-body-bitmap : goal.offset_bounds-body-bitmap
offset_bounds-body-bitmap c = let size = words (goal.at.offset_bounds-body-bitmap c).After-write_bitmap in
    let enough = c.requires in omega arith

pub slice_bounds-write_tables-count : goal.slice_bounds-write_tables-count
slice_bounds-write_tables-count c =
    let size = words (goal.at.slice_bounds-write_tables-count c).After-write_bitmap in
    let enough = c.requires in
    let all = whole_length (goal.at.slice_bounds-write_tables-count c).After-write_bitmap in
    omega arith

pub slice_bounds-write_tables-start : goal.slice_bounds-write_tables-start
slice_bounds-write_tables-start c =
    let size = words (goal.at.slice_bounds-write_tables-start c).After-write_bitmap in
    let enough = c.requires in
    let all = whole_length (goal.at.slice_bounds-write_tables-start c).After-write_bitmap in
    omega arith

pub write_tables-requires : goal.write_tables-requires
write_tables-requires c =
    let size = words (goal.at.write_tables-requires c).After-write_bitmap in
    let enough = c.requires in
    let left = ap length (tables-lent (goal.at.write_tables-requires c).After-write_bitmap)
    ∙ rest-length (goal.at.write_tables-requires c).After-write_bitmap in
    omega arith

pub returns : goal.returns
returns c =
    let d = planned c.args.self.now in
    let codes = c.args.self.now.layout.codes in
    let ys = c.write_tables.new.tables in
    let k = length (c.write_bitmap.new.bitmap ++ (drop c.bitmap_words-bitmap.result c.args.body.now)) - c.bitmap_words-bitmap.result in
    let tables : List ℕ → List ℕ = λ q. table (codes + 2) (pointer_word d) ++
    (table (codes + 1) (width_entry d) ++ drop (codes + 1) (drop (codes + 2) q)) in
    behind-front c.write_bitmap.new.bitmap (drop c.bitmap_words-bitmap.result c.args.body.now) ys c.bitmap_words-bitmap.result k
    (front_length (goal.at.returns c).After-write_bitmap)
    ∙ ap (λ (q : List ℕ). c.write_bitmap.new.bitmap ++ q)
    (nothing-behind (drop c.bitmap_words-bitmap.result c.args.body.now) ys k
    (let all = whole_length (goal.at.returns c).After-write_bitmap in let left = rest-length (goal.at.returns c).After-write_bitmap in
    omega arith))
    ∙ ap₂ (λ (p q : List ℕ). p ++ q) c.write_bitmap.ensures c.write_tables.ensures
    ∙ ap (λ (q : List ℕ). table (planned_words c.args.self.now) (bitmap_word d) ++ tables q)
    (tables-lent (goal.at.returns c).After-write_bitmap
    ∙ ap (λ (m : ℕ). drop m c.args.body.now) (words (goal.at.returns c).After-write_bitmap))
