-- What one read has taken of the input comes to stand behind what the reads before it have.
use Rattle.std.proofs.Common.{◌≡◌, ◌∙◌, ◌+◌, ◌≤◌, ℕ, List, ◌++◌, length, take, sym, ap, subst, arith, length-append}
use Rattle.std.proofs.lemmas.List.{length-take-le, take-append-le}
use Rattle.std.proofs.Math.Seq.{take-append-add}
use Rattle.std.proofs.KnownBytes.{Consumes-trans}
use Rattle.std.specs.Io.KnownBytes.{Consumes}
use borrow.Rule.Slice.PartMut.{put_mid, post_of}
use Rattle.reading.proofs.Counting.{prefix_len_of_le}
use Rattle.reading.proofs.read.Goals as goal

one_more : (a k n : ℕ) (xs ys : List ℕ) → a ≤ length xs → n ≤ length ys → take a xs ++ take n ys ≡ take (a + n) (put_mid a k xs ys)
one_more a k n xs ys within some =
    let front = take a xs in
    let rest = ys ++ post_of a k xs in
    sym
    (ap (λ m. take (m + n) (front ++ rest)) (sym (length-take-le a xs within))
    ∙ (take-append-add front rest n
    ∙ ap (λ l. front ++ l) (take-append-le n ys (post_of a k xs) some)))

pub loop-at-preserved : goal.loop-at-preserved
loop-at-preserved g c =
    let so_far = c.loop-at.invariant in
    let read = c.in-Ok.ensures in
    let taken = one_more _ _ _ _ _ so_far.there.0 read.bound.0 in
    record {
      small = omega arith;
      there = prefix_len_of_le _ _ (omega (arith, ap length taken, length-append {A = ℕ}, length-take-le {A = ℕ}));
      taken = subst (Consumes _ _) taken (Consumes-trans _ _ _ _ _ so_far.taken read.bytes.0);
    }
