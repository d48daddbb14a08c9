-- `paint::window` meets its contract: both words are in the file, or the second is not, and counts as 0.
-- Assumes nothing.
use Prim.Native.Nat.{ℕ, ◌+◌}
use mathlib.Core.Path.{◌≡◌, sym, ap₂, ◌∙◌}
use native.Mathlib.Omega.{arith}
use lib.ListN.{get_or-eq_default}
use Rattle.words.specs.Word.{word}
use Rattle.paint.specs.Reach.{two_words}
use Rattle.paint.proofs.window.Goals as goal

pub returns : goal.returns
returns c =
    let past : word c.args.font.now (c.args.i + 1) ≡ 0 = get_or-eq_default c.args.font.now 0 (omega arith) in
    c.two_words.ensures
    ∙ ap₂ (λ (high low : ℕ). two_words high low c.args.shift) c.word_at.ensures (sym past)
