-- `convert::Layout::of` meets its contract, number by number.
use Prim.Native.Nat.{ℕ, ◌+◌, ◌-◌, ◌/◌}
use mathlib.Core.Path.{ap, ap₂, ◌∙◌}
use Rattle.words.specs.Word.{word}
use Rattle.words.specs.Search.{sum_below}
use Rattle.convert.specs.Cu.{columns_at, drawing_from}
use Rattle.convert.specs.Writing.{min_code, max_code, code_count, fbbdy, columns_of, pointer_at, all_columns, raster_of, layout_of}
use Rattle.convert.proofs.Layout.of.Goals as goal

pub returns : goal.returns
unfolding layout_of min_code max_code code_count fbbdy columns_of pointer_at all_columns raster_of drawing_from columns_at
returns c =
    let source = c.args.source.now in
    let first = c.min_code-min.ensures.value in
    let last = c.max_code-max.ensures.value in
    let codes = ap (λ (n : ℕ). n + 1) (c.saturating_sub-codes.ensures ∙ ap₂ (λ (m n : ℕ). m - n) last first) in
    let before : ℕ → ℕ → ℕ = λ m n. sum_below n (λ i. columns_at c.args.cu.now (word source.places.table (m + i))) in
    let columns = ap (λ (n : ℕ). n + source.frame.fbbdx) (c.columns_before.ensures.value ∙ ap₂ before first codes) in
    let raster = ap (λ (n : ℕ). (n + 15) / 16) columns in
    λ i. record {
      min = first i;
      max = last i;
      codes = codes i;
      columns = columns i;
      raster = raster i;
      rows = source.frame.ascent + source.frame.descent;
    }
