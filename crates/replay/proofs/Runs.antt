-- A list of words as runs of equal ones.
use Prim.Native.Nat.{ℕ, ◌+◌, ◌<◌, ◌≤◌}
use mathlib.Core.Path.{◌≡◌, refl, sym, ap, ◌∙◌}
use mathlib.Core.List.{List, [], ◌∷◌, ◌++◌}
use native.Mathlib.Numerals.{add-one}
use native.Mathlib.Omega.{arith}
use borrow.Author.Tests.{eq-eqb, ne_eqb}
use lib.ListN.{length, get_or, drop, drop_of_length-le}
use lib.Seq.{drop-cons}
use Rattle.replay.specs.declared.text.Digits.{Digits}
use Rattle.replay.specs.Text.{Waiting, with_bytes, run_bytes, runs_from, list_bytes}
use Rattle.replay.proofs.Putting.{part-put}

-- a run has come to `count` words, and the words from a place on stand behind it
module _ (start now : Waiting) (digits : Digits) (all rest : List ℕ) (run count i : ℕ)
    (left : with_bytes start all ≡ with_bytes now (runs_from digits run count (drop i rest))) where
  pub run-goes-on : i < length rest → get_or rest i 0 ≡ run
      → with_bytes start all ≡ with_bytes now (runs_from digits run (count + 1) (drop (i + 1) rest))
  unfolding runs_from
  run-goes-on here same = left ∙ ap (with_bytes now) (rw (add-one i, drop-cons rest i 0 here, eq-eqb (get_or rest i 0) run same))

  pub run_ends : {next : Waiting} → i < length rest → (get_or rest i 0 ≡ run → ⊥)
      → next ≡ with_bytes now (run_bytes digits run count)
      → with_bytes start all ≡ with_bytes next (runs_from digits (get_or rest i 0) 1 (drop (i + 1) rest))
  unfolding runs_from
  run_ends here other put =
      let split : runs_from digits run count (drop i rest)
      ≡ run_bytes digits run count ++ runs_from digits (get_or rest i 0) 1 (drop (i + 1) rest)
      = rw (add-one i, drop-cons rest i 0 here, ne_eqb (get_or rest i 0) run other) in
      part-put start now _ all _ _ _ left split put

  pub run-is-last : {next : Waiting} → length rest ≤ i → next ≡ with_bytes now (run_bytes digits run count) → next ≡ with_bytes start all
  unfolding runs_from
  run-is-last past put = put ∙ sym (left ∙ ap (with_bytes now) (rw (drop_of_length-le rest past)))

pub no_words : (digits : Digits) (list : List ℕ) → length list ≡ 0 → list_bytes digits list ≡ []
unfolding list_bytes
no_words digits [] none = refl
no_words digits (w ∷ ws) none = absurd (omega arith)
