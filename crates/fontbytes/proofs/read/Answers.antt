-- `fontbytes::read` meets its contract: 14, or what reading the words answers.
-- Assumes nothing.
use Prim.Native.Nat.{ℕ}
use mathlib.Core.Path.{◌≡◌, sym, ap, ◌∙◌}
use mathlib.Core.Bool.{true, false}
use mathlib.Core.List.{List}
use Rattle.words.specs.Word.{words_of, odd_bytes}
use Rattle.words.specs.Refusal.{answered}
use Rattle.words.specs.declared.refusal.Refusal.TheVariants.{OddBytes}
use Rattle.words.proofs.Refusals.{answered-refusal}
use Rattle.fonts.specs.Strike.{view_of}
use Rattle.fonts.specs.Reading.{font_number}
use Rattle.fontbytes.specs.File.{file_number}
use Rattle.fontbytes.proofs.read.Goals as goal

odd_refused : (bytes : List ℕ) → odd_bytes bytes ≡ true → 14 ≡ file_number bytes
unfolding file_number
odd_refused bytes odd = rw odd

even-read : (bytes : List ℕ) → odd_bytes bytes ≡ false → font_number (words_of bytes) ≡ file_number bytes
unfolding file_number
even-read bytes even = rw even

pub returns-then-odd_bytes : goal.returns-then-odd_bytes
returns-then-odd_bytes c =
    let number = odd_refused c.args.font.now (sym c.odd_bytes.ensures ∙ c.if-odd_bytes.true) in
    record { value = answered-refusal OddBytes _ _ number; number = number }

pub returns : goal.returns
returns c =
    let bytes = c.args.font.now in
    let even = even-read bytes (sym c.odd_bytes.ensures ∙ c.if-odd_bytes.false) in
    record {
      value = c.read.ensures.value ∙ ap (λ (n : ℕ). answered n (view_of (words_of bytes))) even;
      number = c.read.ensures.number ∙ even;
    }
