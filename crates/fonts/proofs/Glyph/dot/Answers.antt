-- `fonts::Glyph::dot` meets its contract. A row within the height times a word fits.
-- Assumes nothing.
use native.Mathlib.Omega.{arith}
use Prim.Native.Nat.{ℕ, ◌+◌, ◌*◌, ◌%◌, ◌≤◌}
use mathlib.Core.Path.{ap, ◌∙◌}
use Rattle.words.specs.Word.{bit_of}
use Rattle.fonts.specs.Face.{dot_of}
use Rattle.fonts.proofs.Dots.{row-start}
use Rattle.words.proofs.Chain.{chain}
use Rattle.fonts.proofs.Glyph.dot.Goals as goal
use Rattle.fonts.proofs.Glyph.dot.Goals.{After-struct_known-5-1}

start_fits : (c : After-struct_known-5-1) → c.args.row * c.args.self.raster ≤ 281470681677825
start_fits c = row-start c.args.row c.args.self.raster (omega arith) (omega arith)

pub returns-then-self-row : goal.returns-then-self-row
unfolding dot_of
returns-then-self-row c = search chain depth 20

pub returns-then-self-column : goal.returns-then-self-column
unfolding dot_of
returns-then-self-column c = search chain depth 20

pub overflow_mul-i : goal.overflow_mul-i
overflow_mul-i c = omega (arith, start_fits (goal.at.overflow_mul-i c).After-struct_known-5-1)

pub overflow_add-i : goal.overflow_add-i
overflow_add-i c = omega (arith, start_fits (goal.at.overflow_add-i c).After-struct_known-5-1)

pub overflow_add-i-2 : goal.overflow_add-i-2
overflow_add-i-2 c = omega (arith, start_fits (goal.at.overflow_add-i-2 c).After-struct_known-5-1)

pub returns : goal.returns
unfolding dot_of
returns c =
    let a = c.args in
    let found = c.bit.ensures ∙ ap (λ (w : ℕ). bit_of w ((a.self.first + a.column) % 16)) c.word_at.ensures in
    search chain depth 20
