use mathlib.Core.Path.{◌≡◌, sym, ◌∙◌}
use native.Mathlib.Omega.{arith}
use Prim.Native.Nat.{◌<◌}
use Rattle.words.specs.Word.{table}
use Rattle.convert.specs.Cu.{chars}
use Rattle.convert.proofs.Placing.{placed-none, placed-next, placed-bad, placed-all}
use Rattle.convert.proofs.cu.Places.read.Goals as goal

pub loop-k-init : goal.loop-k-init
unfolding table
loop-k-init c = placed-none c.args.cu.now

pub returns-in_err-places : goal.returns-in_err-places
returns-in_err-places c =
    let less : c.loop-k.k < chars c.args.cu.now = rw c.chars-k-end.ensures at c.loop-k-test.true in
    c.from_residual.ensures
    ∙ placed-bad
    c.args.cu.now
    c.loop-k.k
    c.char_at-place.result
    c.word_at.result
    c.loop-k.places
    c.char_at-place.ensures
    c.word_at.ensures
    c.loop-k.invariant
    less
    (sym (c.in_err-places.was) ∙ c.with.ensures)

pub loop-k-preserved : goal.loop-k-preserved
loop-k-preserved c =
    placed-next
    c.args.cu.now
    c.loop-k.k
    c.char_at-place.result
    c.word_at.result
    c.loop-k.places
    c.char_at-place.ensures
    c.word_at.ensures
    c.loop-k.invariant
    c.in_ok-places.places
    (sym (c.in_ok-places.was) ∙ c.with.ensures)

pub returns : goal.returns
returns c =
    let end : c.loop-k.k ≡ chars c.args.cu.now = omega arith in
    placed-all c.args.cu.now c.loop-k.places (rw end at c.loop-k.invariant)
