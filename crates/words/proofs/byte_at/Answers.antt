-- `words::byte_at` gives the byte of the bytes that a list spells.
use Prim.Native.Nat.{ℕ, ◌+◌, ◌*◌, ◌/◌, ◌%◌}
use mathlib.Core.Path.{◌≡◌, sym, ap, ◌∙◌}
use native.Mathlib.Omega.{arith}
use Rattle.words.specs.Word.{word, bytes_of}
use Rattle.words.proofs.Bytes.{bytes_high, bytes_low}
use Rattle.words.proofs.byte_at.Goals as goal

pub returns-then-i-eq0 : goal.returns-then-i-eq0
returns-then-i-eq0 c =
    let a = c.args in
    let half : a.i ≡ 2 * (a.i / 2) = omega arith in
    ap (λ (w : ℕ). w / 256) c.word_at-w.ensures ∙ sym (bytes_high a.list.now (a.i / 2)) ∙ ap (word (bytes_of a.list.now)) (sym half)

pub returns : goal.returns
returns c =
    let a = c.args in
    let half : a.i ≡ 2 * (a.i / 2) + 1 = omega arith in
    ap (λ (w : ℕ). w % 256) c.word_at-w.ensures ∙ sym (bytes_low a.list.now (a.i / 2)) ∙ ap (word (bytes_of a.list.now)) (sym half)
