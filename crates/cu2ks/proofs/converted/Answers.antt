-- `cu2ks::converted` converts the words that the bytes spell.
use Prim.Native.Nat.{ℕ, ◌/◌, ◌≤◌}
use mathlib.Core.Path.{sym, ap, subst, ◌∙◌}
use mathlib.Core.List.{List}
use native.Mathlib.Omega.{arith}
use lib.ListN.{length, replicate}
use lib.Seq.{length-take-le}
use Rattle.convert.specs.Conversion.{conversion_of, output_after, Tells}
use Rattle.cu2ks.proofs.Answering.{spelt}
use Rattle.cu2ks.proofs.converted.Goals as goal

pub slice_bounds-convert-end : goal.slice_bounds-convert-end
slice_bounds-convert-end c = let few : c.from_bytes-n.result ≤ length c.from_bytes-n.new.list = omega arith in sym (length-take-le _ _ few)

pub returns : goal.returns
returns c =
    let read = c.from_bytes-n in
    let few = c.requires in
    let fits : length c.args.bytes.now / 2 ≤ length read.new.list = omega arith in
    let words = spelt read.result c.args.bytes.now (replicate 32768 0) read.new.list fits read.ensures.value read.ensures.list in
    record {
      value = c.convert.ensures.value ∙ ap (λ (ws : List ℕ). conversion_of ws (length c.args.out.now)) words;
      out =
          c.convert.ensures.out ∙ ap (λ (ws : List ℕ). output_after ws c.args.out.now) words;
      numbers = subst (λ (ws : List ℕ). Tells c.convert.result ws (length c.args.out.now)) words c.convert.ensures.numbers;
    }
