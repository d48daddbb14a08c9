-- `words::word_in` meets its contract: a word below the last is spelt by two bytes, and past it both sides are 0.
-- Assumes nothing.
use mathlib.Core.Path.{sym, ◌∙◌}
use native.Mathlib.Omega.{arith}
use Rattle.words.proofs.Bytes.{words-at, words-past}
use Rattle.words.proofs.word_in.Goals as goal

pub returns-then-i-bytes : goal.returns-then-i-bytes
returns-then-i-bytes c =
    let a = c.args in
    c.pair.ensures ∙ sym (words-at a.bytes.now a.i (omega arith))

pub returns : goal.returns
returns c =
    let a = c.args in
    sym (words-past a.bytes.now a.i (omega arith))
