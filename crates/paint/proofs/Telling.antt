-- What a reply tells in the paper's numbers: the number of its refusal, and beside it zeros; or 0, the last pen and the substitutes.
use Prim.Native.Nat.{ℕ}
use mathlib.Core.Path.{◌≡◌, refl}
use mathlib.Core.Bool.{Bool, true, false, cond}
use lib.Dec.{eqb}
use lib.IntN.{pos}
use Rattle.words.specs.Place.{number_at}
use Rattle.paint.specs.declared.Pen.{Pen}
use Rattle.std.specs.declared.result.Result.TheVariants.{Ok, Err}
use Rattle.words.specs.Refusal.{refusal_of, returned, answered}
use Rattle.paint.specs.Label.{Reply, finish_of, reply_for, reply_pen, reply_substitutes, Tells}

pub tells : (reply : Reply) (number : ℕ) (pen : Pen) → reply ≡ reply_for number pen → returned reply ≡ number → Tells reply number pen
unfolding answered
tells reply number pen e told = let both = by_number (eqb number 0) in (told, rw e both.0, rw e both.1)
  where
    by_number : (t : Bool)
        → (reply_pen (cond t (Ok (finish_of pen)) (Err (refusal_of number))) ≡ cond t (number_at pen.place) (pos 0))
        × (reply_substitutes (cond t (Ok (finish_of pen)) (Err (refusal_of number))) ≡ cond t pen.substitutes 0)
    by_number true = (refl, refl)
    by_number false = (refl, refl)
