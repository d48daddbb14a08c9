-- `replay::list::unsigned` is the number where it fits.
use mathlib.Core.Path.{◌≡◌, refl, ◌∙◌}
use mathlib.Core.Bool.{Bool, true, false}
use Prim.Native.Nat.{ℕ, ◌<◌}
use borrow.Author.Tests.{lt-ltb, ltb-true}
use lib.Dec.{ltb}
use lib.IntN.{ℤ, pos, negsuc, nat_abs}
use mir.Facts.{to_z-of_z}
use Rattle.std.specs.Result.{OkIff, result_unwrap_or}
use Rattle.std.specs.Int.{FitsUnsignedBits}
use Rattle.std.specs.declared.result.Result.{Result}
use Rattle.std.specs.declared.result.Result.TheVariants.{Ok, Err}
use Rattle.replay.specs.Lines.{unsigned_in}
use Rattle.replay.proofs.list.unsigned.Goals as goal

past : (n : ℕ) (t : Bool) → ltb n 4294967296 ≡ t → (n < 4294967296 → ⊥) → ltb n 4294967296 ≡ false
past n true e not = absurd (not (ltb-true n 4294967296 e))
past n false e not = e

fits-or : {E : Type 0} (r : Result ℕ E) (z : ℤ) → OkIff r (FitsUnsignedBits 32 z) (nat_abs z) → result_unwrap_or r 0 ≡ unsigned_in z
unfolding unsigned_in
fits-or (Ok x) (pos n) h = rw (lt-ltb n 4294967296 h.0) h.1
fits-or (Ok x) (negsuc n) h = absurd h.0
fits-or (Err e) (pos n) h = rw (past n (ltb n 4294967296) refl h)
fits-or (Err e) (negsuc n) h = refl

pub returns : goal.returns
returns c = c.unwrap_or.ensures ∙ fits-or c.try_from.result c.args.n (rw (to_z-of_z c.ranges.n) at c.try_from.ensures)
