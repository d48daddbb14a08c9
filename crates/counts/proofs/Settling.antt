-- Applying and clearing with counts: the strips of an accepted panel are within it, and what `settle` answers by the dots that are left lit
-- and those that were lit is what the definition says by the dots gained and lost.
use Prim.Native.Nat.{ℕ, ◌+◌, ◌-◌, ◌*◌, ◌/◌, ◌%◌, ◌<◌, ◌≤◌, min}
use mathlib.Core.Path.{◌≡◌, refl, sym, ap, ap₂, ◌∙◌}
use mathlib.Core.Bool.{Bool, true, false, ◌||◌}
use mathlib.Core.List.{List, [], ◌∷◌}
use native.Mathlib.Nat.{add-mul, mul_comm, mul-le-mul, mul-le-mul_right}
use native.Mathlib.Omega.{arith}
use lib.Dec.{ltb}
use lib.ListN.{length}
use borrow.Author.Tests.{ltb-true, ltb-false, lt-ltb, le-ltb}
use Rattle.words.specs.Word.{word, over, table, bit_of}
use Rattle.std.specs.declared.result.Result.TheVariants.{Ok, Err}
use Rattle.words.specs.declared.refusal.Refusal.{Refusal}
use Rattle.words.specs.Refusal.{number_of, first_of, not_within}
use Rattle.words.proofs.Chain.{stage-stops, stage-goes-on}
use Rattle.words.proofs.Refusals.{number-not-0, answered-value, answered-refusal}
use Rattle.words.proofs.Altering.{from_zero}
use Rattle.words.proofs.Digits.{bit-zero}
use Rattle.words.proofs.Over.{over-at, over-same}
use Rattle.words.proofs.Passed.{neither, passed, within}
use Rattle.words.proofs.Search.{some_same}
use Rattle.words.proofs.Tables.{table_at, table_same}
use Rattle.paint.specs.declared.Shape.{Shape}
use Rattle.paint.specs.Panel.{strip_of, panel_words, bad_sides, bad_shape, some_short, bad_panel, panel_number}
use Rattle.paint.specs.Rule.{panel_dot}
use Rattle.paint.specs.Sheet.{Sheet, effect_at}
use Rattle.paint.proofs.Accepted.{good-panel, strip-fits}
use Rattle.paint.proofs.Slices.{shorter-number}
use Rattle.sheets.specs.Sheet.{apply_number, apply_after, clear_number, clear_after}
use Rattle.sheets.proofs.Done.{done, refused-as}
use Rattle.counts.specs.declared.Band.{Band}
use Rattle.counts.specs.Lit.{lit, area, gained, lost, leaves, some_over, some_leaves, count_number, new_counts, Counted, counted_of}
use Rattle.counts.specs.Band.{band_of, lit_in_words, lit_by, applied_word, settled_number, settled_counts, Inside}
use Rattle.counts.specs.Calls.{settled_of, settled_by}
use Rattle.counts.proofs.Sums.{dots-none}
use Rattle.counts.proofs.Balance.{balance, area-is}
use Rattle.counts.proofs.Bands.{band-dots, band-known}

-- ---- an accepted panel

-- "W not 1..64"
pub good-width : (s : Shape) (room : ℕ) → bad_panel s (room ∷ []) ≡ false → (1 ≤ s.width) × (s.width ≤ 64)
unfolding bad_panel bad_shape bad_sides
good-width s room e =
    let shape = (neither (bad_shape s) (some_short s (room ∷ [])) e).0 in
    let sides = (neither (bad_sides s) (ltb (16 * s.rowwords) (32 * s.width)) shape).0 in
    within 1 64 s.width (neither (not_within 1 128 s.rowwords || not_within 1 256 s.rows) (not_within 1 64 s.width) sides).1

-- so W × H is a number of 32 bits
pub small-area : (s : Shape) (room : ℕ) → bad_panel s (room ∷ []) ≡ false → s.width * s.rows ≤ 4294967295
small-area s room e =
    let most : s.width * s.rows ≤ 64 * 256 = mul-le-mul (good-width s room e).1 (good-panel s room e).low in
    omega (arith, most)

module _ (s : Shape) (k room : ℕ) (good : bad_panel s (room ∷ []) ≡ false) (one : k ≤ 31) where
  pub strip-within : (strip_of s k).upto ≤ 16 * s.rowwords
  strip-within = strip-fits k s.width s.rowwords one (good-panel s room good).strips

  pub inside-rows : (row n : ℕ) → row + n ≤ s.rows → Inside (band_of s k row n) room
  unfolding band_of
  inside-rows row n ends =
      let p = good-panel s room good in
      let low = p.low in
      let narrow = p.narrow in
      let long = p.long in
      let wide = (good-width s room good).0 in
      let fits = strip-within in
      let before : row * s.rowwords ≤ 256 * 128 = mul-le-mul {n₂ = 256} (omega (arith, ends, low)) narrow in
      let across = add-mul row n s.rowwords in
      let below : (row + n) * s.rowwords ≤ s.rows * s.rowwords = mul-le-mul_right s.rowwords ends in
      let turned = mul_comm s.rows s.rowwords in (
        omega (arith, ends, low),
        omega (arith, fits, narrow),
        narrow,
        omega (arith, before, fits, narrow, wide),
        omega (arith, across, below, turned, long, fits, wide),
      )

  pub inside-strip : Inside (band_of s k 0 s.rows) room
  inside-strip = inside-rows 0 s.rows (omega arith)

-- ---- the lit dots of a strip, by its band in all rows

module _ (s : Shape) (k room : ℕ) (good : bad_panel s (room ∷ []) ≡ false) (b : Band) (of : b ≡ band_of s k 0 s.rows) where
  pub inside-band : k ≤ 31 → Inside b room
  inside-band one = rw of (inside-strip s k room good one)

  pub strip-lit : (panel : List ℕ) → lit_in_words b (word panel) (b.last + 1) ≡ lit s k panel
  unfolding lit
  strip-lit panel = rw of (band-dots s k 0 s.rows (good-width s room good).0 panel)

  pub strip-known : (f : ℕ → ℕ) (panel : List ℕ) → k ≤ 31 → ((i : ℕ) → i < panel_words s → f i ≡ word panel i)
      → lit_in_words b f (b.last + 1) ≡ lit s k panel
  unfolding lit
  strip-known f panel one known =
      rw of (band-known s k 0 s.rows (good-width s room good).0 f panel (strip-within s k room good one) (omega arith) known)

-- ---- a sheet, applied

-- of three slices that are accepted each is
pub each-good : (s : Shape) (a b c : ℕ) → panel_number s (a ∷ b ∷ c ∷ []) ≡ 0
    → (bad_panel s (a ∷ []) ≡ false) × (bad_panel s (b ∷ []) ≡ false) × (bad_panel s (c ∷ []) ≡ false)
unfolding panel_number first_of bad_panel some_short
each-good s a b c e =
    let n = panel_words s in
    let all = neither (bad_shape s) _ (passed (bad_panel s (a ∷ b ∷ c ∷ [])) 8 0 (omega arith) e).0 in
    let first = neither (ltb a n) _ all.1 in
    let second = neither (ltb b n) _ first.1 in
    let third = neither (ltb c n) false second.1 in
    (rw (all.0, first.0), rw (all.0, second.0), rw (all.0, third.0))

module _ (s : Shape) (sheet : Sheet) (panel : List ℕ) (accepted : apply_number s sheet panel ≡ 0) where
  pub sheet-good : (bad_panel s (length sheet.keep ∷ []) ≡ false) × (bad_panel s (length sheet.flip ∷ []) ≡ false)
      × (bad_panel s (length panel ∷ []) ≡ false)
  unfolding apply_number
  sheet-good = each-good s (length sheet.keep) (length sheet.flip) (length panel) accepted

  pub applied-word : (i : ℕ) → i < panel_words s → applied_word sheet panel i ≡ word (apply_after s sheet panel) i
  unfolding apply_after
  applied-word i less =
      rw accepted (sym (from_zero (effect_at sheet) panel (panel_words s) i less (good-panel s (length panel) sheet-good.2).long))

-- the shortest of three slices decides for all
pub shortest-number : (s : Shape) (a b c : ℕ) → panel_number s (min (min a b) c ∷ []) ≡ panel_number s (a ∷ b ∷ c ∷ [])
shortest-number s a b c = shorter-number s (min a b) c [] ∙ shorter-number s a b (c ∷ [])

-- ---- the lit dots of all strips

-- of a panel
pub all-lit : (s : Shape) (panel : List ℕ) → bad_panel s (length panel ∷ []) ≡ false
    → table 32 (λ k. lit_by s k (word panel)) ≡ table 32 (λ k. lit s k panel)
all-lit s panel good = table_same 32 _ _ (λ k less. strip-lit s k (length panel) good (band_of s k 0 s.rows) refl panel)

-- and of one as a sheet, applied, leaves it
pub all_left : (s : Shape) (sheet : Sheet) (panel : List ℕ) → apply_number s sheet panel ≡ 0
    → table 32 (λ k. lit_by s k (applied_word sheet panel)) ≡ table 32 (λ k. lit s k (apply_after s sheet panel))
all_left s sheet panel accepted =
    table_same 32 _ _ (λ k less.
    strip-known s k (length panel) (sheet-good s sheet panel accepted).2 (band_of s k 0 s.rows) refl (applied_word sheet panel)
    (apply_after s sheet panel) (omega (arith, less)) (applied-word s sheet panel accepted))

-- ---- a cleared panel

module _ (s : Shape) (panel : List ℕ) (good : bad_panel s (length panel ∷ []) ≡ false) where
  strip-dark : (k : ℕ) → k ≤ 31 → lit s k (over (panel_words s) (λ i. 0) panel) ≡ 0
  unfolding lit panel_dot
  strip-dark k one =
      dots-none (strip_of s k) 0 s.rows _ (λ i j from below left right.
      let fits = strip-within s k (length panel) good one in
      let down : (i + 1) * s.rowwords ≤ s.rows * s.rowwords = mul-le-mul_right s.rowwords (omega (arith, below)) in
      let up = add-mul i 1 s.rowwords in
      let turned = mul_comm s.rows s.rowwords in
      let at : i * s.rowwords + j / 16 < panel_words s = omega (arith, down, up, turned, fits, right) in
      ap (λ (d : ℕ). bit_of d (j % 16)) (over-at (panel_words s) (λ i. 0) panel _ at (good-panel s (length panel) good).long)
      ∙ bit-zero (j % 16))

  pub cleared-dark : 0 ≡ clear_number s panel → table 32 (λ k. 0) ≡ table 32 (λ k. lit s k (clear_after s panel))
  unfolding clear_after
  cleared-dark accepted =
      rw (← accepted) (table_same 32 (λ k. 0) _ (λ k less. sym (strip-dark k (omega (arith, less)))))

-- ---- what is left lit and what was lit, for what was gained and what was lost

same_test : (a b c d : ℕ) → a + d ≡ c + b → ltb a b ≡ ltb c d
same_test a b c d e = by (ltb a b) refl
  where
    by : (t : Bool) → ltb a b ≡ t → t ≡ ltb c d
    by true q = let less = ltb-true a b q in sym (lt-ltb c d (omega (arith, e, less)))
    by false q = let more = ltb-false a b q in sym (le-ltb c d (omega (arith, e, more)))

pub leaves-same : (most held a b c d : ℕ) → a + d ≡ c + b → leaves most held a b ≡ leaves most held c d
unfolding leaves
leaves-same most held a b c d e =
    ap₂ ◌||◌ (same_test (held + a) b (held + c) d (omega (arith, e)))
    (same_test (most + b) (held + a) (most + d) (held + c) (omega (arith, e)))

module _ (s : Shape) (before after : List ℕ) (k held : ℕ) where
  pub moves-alike : held + lit s k after - lit s k before ≡ held + gained s k before after - lost s k before after
  moves-alike = let e = balance s k before after in omega (arith, e)

  pub leaves_alike : leaves (s.width * s.rows) held (lit s k after) (lit s k before)
      ≡ leaves (area s k) held (gained s k before after) (lost s k before after)
  leaves_alike =
      let e = balance s k before after in
      leaves-same (s.width * s.rows) held (lit s k after) (lit s k before) (gained s k before after) (lost s k before after)
      (omega (arith, e))
      ∙ ap (λ (most : ℕ). leaves most held (gained s k before after) (lost s k before after)) (sym (area-is s k))

-- ---- what the calls answer

module _ (s : Shape) (own : ℕ) (before after counts : List ℕ) where
  abbrev whole : Counted
  whole = counted_of s own before after counts

  -- "30, after 12"
  pub own-number : (refusal : Refusal) → number_of refusal ≡ own → number_of refusal ≡ whole.number
  unfolding counted_of
  own-number refusal e = stage-stops (number_of refusal) own _ e (number-not-0 refusal)

  pub counts-number : (n : ℕ) → 0 ≡ own → n ≡ count_number s before after counts → n ≡ whole.number
  unfolding counted_of
  counts-number n accepted e = stage-goes-on n 0 own _ accepted refl e

  -- a refusal hands back the counts given, and the panel stays
  module _ (refusal : Refusal) (e : number_of refusal ≡ whole.number) where
    pub panel-stays : before ≡ whole.panel
    unfolding counted_of
    panel-stays = refused-as whole.number after before refusal e

    pub counts-stay : counts ≡ whole.counts
    unfolding counted_of
    counts-stay = refused-as whole.number (new_counts s before after counts) counts refusal e

    pub settled-refused : settled_by (Err refusal) counts ≡ settled_of whole
    settled-refused = λ i. record { reply = answered-refusal refusal whole.number tt e i; counts = counts-stay i }

  -- a call that is done hands back the new ones
  module _ (e : 0 ≡ whole.number) where
    pub panel-done : after ≡ whole.panel
    unfolding counted_of
    panel-done = done whole.number after before e

    pub counts-done : new_counts s before after counts ≡ whole.counts
    unfolding counted_of
    counts-done = done whole.number (new_counts s before after counts) counts e

    pub settled-done : (new : List ℕ) → new ≡ new_counts s before after counts → settled_by (Ok new) counts ≡ settled_of whole
    settled-done new same = λ i. record { reply = answered-value whole.number tt e i; counts = (same ∙ counts-done) i }

  -- accepted without counts: by the dots that are left lit in each strip, and those that were
  module _ (left were : List ℕ) (ends : left ≡ table 32 (λ k. lit s k after)) (began : were ≡ table 32 (λ k. lit s k before)) where
    left_at : (k : ℕ) → k < 32 → word left k ≡ lit s k after
    left_at k less = rw ends (table_at 32 (λ k. lit s k after) k less)

    were-at : (k : ℕ) → k < 32 → word were k ≡ lit s k before
    were-at k less = rw began (table_at 32 (λ k. lit s k before) k less)

    pub settled-number : 0 ≡ own → settled_number s counts (word left) (word were) ≡ whole.number
    unfolding settled_number count_number some_leaves
    settled-number accepted =
        counts-number _ accepted
        (ap (λ (t : Bool). first_of ((some_over s counts || t, 30) ∷ []))
        (some_same 32 _ _ (λ k less.
        ap₂ (leaves (s.width * s.rows) (word counts k)) (left_at k less) (were-at k less)
        ∙ leaves_alike s before after k (word counts k))))

    pub counts-are : settled_counts counts (word left) (word were) ≡ new_counts s before after counts
    unfolding new_counts settled_counts
    counts-are =
        over-same 32 _ _ counts (λ k less.
        ap₂ (λ (m f : ℕ). word counts k + m - f) (left_at k less) (were-at k less) ∙ moves-alike s before after k (word counts k))
