-- What reading a CU file answers, by the number of its refusal.
use Prim.Native.Nat.{ℕ}
use mathlib.Core.Path.{◌≡◌, refl, ap, ◌∙◌}
use mathlib.Core.Bool.{Bool, true, false, cond, not}
use mathlib.Core.List.{List}
use native.Mathlib.Omega.{arith}
use lib.Dec.{ltb}
use Rattle.std.specs.Prelude.{Ok, Err, Some, None}
use Rattle.words.specs.Word.{word}
use Rattle.words.specs.declared.refusal.Refusal.{Refusal}
use Rattle.words.specs.Refusal.{number_of}
use Rattle.words.proofs.Tables.{table_at}
use Rattle.words.proofs.Refusals.{answered-value, answered-refusal}
use Rattle.convert.specs.declared.cu.Frame.{Frame}
use Rattle.convert.specs.declared.cu.Places.{Places}
use Rattle.convert.specs.Cu.{bad_code, no_origin, no_origin_at, has_dot, code_place, places_of}
use Rattle.convert.specs.Cu.{placed_of, place_in, frame_from, frame_of, cu_file_number, source_of}
use Rattle.convert.proofs.Placing.{none-bad, some-good}

-- a place that a table gives is that of the code, and past the first words
pub place-found : (places : List ℕ) (c place : ℕ) → Some place ≡ place_in places c → (ltb 0 place ≡ true) × (place ≡ word places c)
place-found places c place e = by_test (ltb 0 (word places c)) refl e
  where
    by_test : (t : Bool) → ltb 0 (word places c) ≡ t → Some place ≡ cond t (Some (word places c)) None
        → (ltb 0 place ≡ true) × (place ≡ word places c)
    by_test true q e = let same : place ≡ word places c = cc in (ap (ltb 0) same ∙ q, same)
    by_test false q e = cc

pub place-missing : (places : List ℕ) (c : ℕ) → None ≡ place_in places c → ltb 0 (word places c) ≡ false
place-missing places c e = by_test (ltb 0 (word places c)) e
  where
    by_test : (t : Bool) → None ≡ cond t (Some (word places c)) None → t ≡ false
    by_test true e = cc
    by_test false e = refl

module _ (ws : List ℕ) where
  pub refused-source : (refusal : Refusal) → number_of refusal ≡ cu_file_number ws → Err refusal ≡ source_of ws
  unfolding source_of
  refused-source refusal e = answered-refusal refusal (cu_file_number ws) _ e

  pub placed-refused : None ≡ placed_of ws → bad_code ws ≡ true
  unfolding placed_of
  placed-refused e = none-bad _ _ e

  pub placed-accepted : (places : Places) → Some places ≡ placed_of ws → (bad_code ws ≡ false) × (places.table ≡ places_of ws)
  unfolding placed_of
  placed-accepted places e = let both = some-good _ _ places e in (both.0, ap (λ (p : Places). p.table) both.1)

  -- the place of code 65, as the table has it
  pub origin-place : (places : Places) → places.table ≡ places_of ws → word places.table 65 ≡ code_place ws 65
  unfolding places_of
  origin-place places same = ap (λ (p : List ℕ). word p 65) same ∙ table_at 256 (code_place ws) 65 (omega arith)

  module _ (places : Places) (same : places.table ≡ places_of ws) where
    -- code 65 has the place that the table gives, if it gives one
    pub origin-found : (place : ℕ) → Some place ≡ place_in places.table 65 → no_origin ws ≡ not (has_dot ws place)
    unfolding no_origin no_origin_at
    origin-found place e =
        let found = place-found places.table 65 place e in
        let there : place ≡ code_place ws 65 = found.1 ∙ origin-place places same in
        rw (← there, found.0)

    pub origin-missing : None ≡ place_in places.table 65 → no_origin ws ≡ true
    unfolding no_origin no_origin_at
    origin-missing e = rw (← (origin-place places same), place-missing places.table 65 e)

  pub read-source : (places : Places) (frame : Frame) → 0 ≡ cu_file_number ws → places.table ≡ places_of ws
      → frame ≡ frame_from ws (word places.table 65)
      → Ok (record { places = places; frame = frame }) ≡ source_of ws
  unfolding source_of frame_of
  read-source places frame e same framed =
      let placed_at : frame ≡ frame_of ws = framed ∙ ap (frame_from ws) (origin-place places same) in
      (λ i. Ok (record { places = record { table = same i }; frame = placed_at i })) ∙ answered-value (cu_file_number ws) _ e
