use Prim.Native.Nat.{ℕ, ◌+◌, ◌≤◌}
use mathlib.Core.Path.{◌≡◌, refl, sym, ap, ap₂, ◌∙◌}
use native.Mathlib.Omega.{arith}
use lib.ListN.{set, length-set}
use Rattle.words.specs.Word.{over}
use Rattle.words.specs.Search.{sum_below}
use Rattle.words.proofs.Over.{over-step, over-all}
use Rattle.convert.specs.Writing.{min_code, code_count, columns_of, pointer_at, pointer_word, all_columns}
use Rattle.convert.specs.Cu.{columns_at, drawing_from}
use Rattle.convert.specs.Planned.{planned, planned_place}
use Rattle.convert.proofs.Columns.{pointer-next}
use Rattle.convert.proofs.Laid.{Laid, laid, pointer-inside, pointer-word, pointer-last, dummy-inside, own-columns, fits_by}
use Rattle.convert.proofs.Plan.write_pointers.Goals as goal
use Rattle.convert.proofs.Plan.write_pointers.Goals.{After-loop-k, At-loop-k}

pub loop-k-init : goal.loop-k-init
unfolding pointer_at sum_below over
loop-k-init c = (refl, refl, refl)

known : (b : At-loop-k) → Laid (planned b.args.self.now) b.args.self.now.layout
known b = laid (planned b.args.self.now) _ b.args.self.now.laid

counted : (b : At-loop-k) → b.loop-k.k ≤ code_count (planned b.args.self.now)
counted b = let le = b.loop-k.auto.k-end in omega (arith, (known b).count)

pointer-small : (b : At-loop-k) → b.loop-k.at ≤ all_columns (planned b.args.self.now)
pointer-small b = let here = b.loop-k.invariant.0 in
    omega (arith, pointer-inside (planned b.args.self.now) b.loop-k.k (counted b))

columns-small : (b : At-loop-k) → all_columns (planned b.args.self.now) ≤ 65535
columns-small b = let narrow = (fits_by _ b.args.self.now.layout b.args.self.now.laid b.args.self.now.fits).0 in omega (
  arith,
  (known b).across,
)

written-here : (b : At-loop-k) → b.loop-k.at ≡ pointer_word (planned b.args.self.now) b.loop-k.k
written-here b = b.loop-k.invariant.0 ∙ sym (pointer-word (planned b.args.self.now) b.loop-k.k
    (counted b))

pub overflow_cast-pointers : goal.overflow_cast-pointers
overflow_cast-pointers c = omega (
  arith,
  pointer-small (goal.at.overflow_cast-pointers c).At-loop-k,
  columns-small (goal.at.overflow_cast-pointers c).At-loop-k,
)

pub overflow_add-at : goal.overflow_add-at
overflow_add-at c = let small = c.columns_in-at.ensures.small in
    omega (arith, pointer-small (goal.at.overflow_add-at c).At-loop-k, columns-small (goal.at.overflow_add-at c).At-loop-k)

pub loop-k-preserved : goal.loop-k-preserved
loop-k-preserved c =
    let d = planned c.args.self.now in
    let k = c.loop-k.k in
    let columns : c.columns_in-at.result ≡ columns_of d (min_code d + k) =
    c.columns_in-at.ensures.value
    ∙ ap (λ (m : ℕ). columns_at c.args.self.now.cu.now (planned_place c.args.self.now (m + k))) (known (goal.at.loop-k-preserved
    c).At-loop-k).least
    ∙ own-columns c.args.self.now.cu.now c.args.self.now.source.now.frame c.args.self.now.source.now.places.table (min_code d + k) in (
      ap₂ (λ (x y : ℕ). x + y) c.loop-k.invariant.0 columns ∙ sym (pointer-next d k),
      length-set c.loop-k.pointers k c.loop-k.at ∙ c.loop-k.invariant.1,
      over-step k c.loop-k.at (pointer_word d) c.loop-k.pointers c.args.pointers.now c.loop-k.invariant.2
          (written-here (goal.at.loop-k-preserved c).At-loop-k),
    )

pub overflow_cast-pointers-2 : goal.overflow_cast-pointers-2
overflow_cast-pointers-2 c = omega (
  arith,
  pointer-small (goal.at.overflow_cast-pointers-2 c).At-loop-k,
  columns-small (goal.at.overflow_cast-pointers-2 c).At-loop-k,
)

known-after-loop : (b : After-loop-k) → Laid (planned b.args.self.now) b.args.self.now.layout
known-after-loop b = laid (planned b.args.self.now) _ b.args.self.now.laid

all-counted : (c : After-loop-k) → c.loop-k.k ≡ code_count (planned c.args.self.now)
all-counted c = let past = c.loop-k-test.false in let le = c.loop-k.auto.k-end in omega (arith, (known-after-loop c).count)

right-edge : (c : After-loop-k) → c.loop-k.at + c.args.self.now.source.now.frame.fbbdx ≡ all_columns (planned c.args.self.now)
unfolding drawing_from
right-edge c =
    ap (λ (n : ℕ). n + c.args.self.now.source.now.frame.fbbdx) (c.loop-k.invariant.0
    ∙ ap (pointer_at (planned c.args.self.now)) (all-counted c))
    ∙ (dummy-inside (planned c.args.self.now)).0

pub overflow_add-pointers : goal.overflow_add-pointers
overflow_add-pointers c = omega (
  arith,
  right-edge (goal.at.overflow_add-pointers c).After-loop-k,
  columns-small (goal.at.overflow_add-pointers c).At-loop-k,
)

pub overflow_cast-pointers-4 : goal.overflow_cast-pointers-4
overflow_cast-pointers-4 c = omega (
  arith,
  right-edge (goal.at.overflow_cast-pointers-4 c).After-loop-k,
  columns-small (goal.at.overflow_cast-pointers-4 c).At-loop-k,
)

pub bounds-pointers-codes-2 : goal.bounds-pointers-codes-2
bounds-pointers-codes-2 c =
    let long = length-set c.loop-k.pointers c.args.self.now.layout.codes c.loop-k.at in
    let kept = c.loop-k.invariant.1 in
    let lent = c.requires in
    omega arith

pub returns : goal.returns
returns c =
    let d = planned c.args.self.now in
    let codes = c.args.self.now.layout.codes in
    let lent = c.args.pointers.now in
    let count = (known (goal.at.returns c).At-loop-k).count in
    let all : c.loop-k.k ≡ codes = all-counted (goal.at.returns c).After-loop-k ∙ sym count in
    let first = over-step codes c.loop-k.at (pointer_word d) c.loop-k.pointers lent (rw all at c.loop-k.invariant.2)
    (written-here (goal.at.returns c).At-loop-k ∙ ap (pointer_word d) all) in
    let second =
    over-step (codes + 1) (c.loop-k.at + c.args.self.now.source.now.frame.fbbdx) (pointer_word d) (set c.loop-k.pointers codes
    c.loop-k.at) lent first
    (right-edge (goal.at.returns c).After-loop-k ∙ sym (pointer-last d) ∙ ap (λ (n : ℕ). pointer_word d (n + 1)) (sym count)) in
    let long = c.requires in
    second
    ∙ ap (λ (n : ℕ). over n (pointer_word d) lent) (omega arith)
    ∙ over-all (codes + 2) (pointer_word d) lent long
