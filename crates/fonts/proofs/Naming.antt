-- The quick test of a map: by the greatest body and the greatest code that it names, and by the fewest pointers that a body has.
use Prim.Native.Nat.{ℕ, ◌+◌, ◌/◌, ◌%◌, ◌<◌, ◌≤◌, min, max}
use mathlib.Core.Path.{◌≡◌, refl, ap, ◌∙◌}
use mathlib.Core.Bool.{Bool, true, false, and-false}
use mathlib.Core.List.{List}
use native.Mathlib.Omega.{arith}
use lib.Dec.{ltb}
use lib.ListN.{length, drop, length-take, length-drop}
use borrow.Author.Tests.{ltb-true, ltb-false, lt-ltb, lt-leb}
use Rattle.words.specs.Word.{word}
use Rattle.words.specs.Search.{some_below}
use Rattle.words.proofs.Search.{none_passes}
use Rattle.fonts.specs.declared.Header.{Header}
use Rattle.fonts.specs.Strike.{index, codes, map_at, map_of, first_at, body_of, body_start, pointer_count}
use Rattle.fonts.specs.Entry.{name_of, name_in}
use Rattle.fonts.specs.Reading.{EachHas, NamesWithin, pairs_in, lost, lost_at}

-- what holds of each number below k, and of k, holds below k + 1
up_to : (k : ℕ) (P : ℕ → Type 0) → ((i : ℕ) → i < k → P i) → P k → (i : ℕ) → i < k + 1 → P i
up_to k P before here i less = by_last (ltb i k) refl
  where
    by_last : (t : Bool) → ltb i k ≡ t → P i
    by_last true lower = before i (ltb-true i k lower)
    by_last false last =
        let same : k ≡ i = omega (arith, ltb-false i k last) in
        rw same at here

module _ (map : List ℕ) where
  -- the first k entries name no greater body and no greater code
  abbrev pub Under : ℕ → ℕ → ℕ → Type 0
  Under k body code = (i : ℕ) → i < k → ((name_of (word map i)).body ≤ body) × ((name_of (word map i)).code ≤ code)

  pub under_none : Under 0 0 0
  under_none i less = absurd (omega arith)

  module _ (k body code body' code' : ℕ) (so_far : Under k body code) where
    pub under_more : body' ≡ max body (word map k / 256 % 128) → code' ≡ max code (word map k % 256) → Under (k + 1) body' code'
    unfolding name_of
    under_more greatest-body greatest-code =
        up_to k _ (λ i less. let before = so_far i less in (omega (arith, before.0), omega (arith, before.1))) (omega arith, omega arith)

  pub under-within : (k body code bodies fewest : ℕ) → Under k body code → length map ≤ k → body < bodies → code + 1 < fewest
      → NamesWithin map bodies fewest
  under-within k body code bodies fewest under all few short i less =
      let here = under i (omega arith) in
      (omega (arith, here.0), omega (arith, here.1))

module _ (h : Header) (ws : List ℕ) where
  pub each_none : (fewest : ℕ) → EachHas h ws 0 fewest
  each_none fewest i less = absurd (omega arith)

  pub each_more : (k fewest next at pointers : ℕ) → EachHas h ws k fewest → at ≡ body_start h ws k
      → pointers ≡ pointer_count (body_of ws at) → next ≡ min fewest pointers → EachHas h ws (k + 1) next
  each_more k fewest next at pointers so_far here has least =
      let own : pointers ≡ pointer_count (body_of ws (body_start h ws k)) = has ∙ ap (λ (n : ℕ). pointer_count (body_of ws n)) here in
      up_to k _ (λ i less. let before = so_far i less in omega (arith, before)) (omega (arith, own))

  -- the words before the bodies are there: so is the whole map
  pub whole-map : index h ≡ true → first_at h ≤ length ws → length (map_of h ws) ≡ codes h + 1
  unfolding first_at map_of
  whole-map indexed there =
      let enough : map_at h + codes h + 1 ≤ length ws = rw indexed at there in
      length-take (codes h + 1) (drop (map_at h) ws)
      ∙ ap (min (codes h + 1)) (length-drop (map_at h) ws)
      ∙ omega arith

  -- so no entry names a body or a picture that is not there
  module _ (fewest : ℕ) (indexed : index h ≡ true) (there : first_at h ≤ length ws) where
    pub none-lost : NamesWithin (map_of h ws) h.bodies fewest → EachHas h ws h.bodies fewest
        → some_below (codes h + 1) (lost_at h ws) ≡ false
    unfolding lost_at lost name_in pairs_in
    none-lost within each = none_passes (lost_at h ws) (codes h + 1) named
      where
        named : (k : ℕ) → k < codes h + 1 → lost_at h ws k ≡ false
        named k less =
            let name = name_of (word (map_of h ws) k) in
            let whole = whole-map indexed there in
            let here = within k (omega (arith, whole)) in
            let has = each name.body here.0 in
            rw (
              indexed,
              lt-ltb name.body h.bodies here.0,
              lt-leb (pointer_count (body_of ws (body_start h ws name.body))) (name.code + 1) (omega (arith, here.1, has)),
              and-false _,
            )
