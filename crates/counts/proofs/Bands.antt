-- The lit dots of a strip counted by words: each word's dots are its ones, the masks of the first word and the last let through the strip's
-- columns alone, and words upon words are the columns.
use Prim.Native.Nat.{ℕ, zero, suc, ◌+◌, ◌-◌, ◌*◌, ◌/◌, ◌%◌, ◌^◌, ◌<◌, ◌≤◌, min}
use mathlib.Core.Path.{◌≡◌, refl, sym, ap, ap₂, ◌∙◌}
use mathlib.Core.Bool.{Bool, true, false, cond, ◌&&◌}
use mathlib.Core.List.{List}
use native.Mathlib.Nat.{mul-zero, mul-one, add-mul, mul_comm, mul-le-mul_right, div-le_self, sub-le}
use native.Mathlib.Nat.{le_antisymm, lt_of_not-le, lt_of_le_of_lt}
use native.Mathlib.Omega.{arith}
use lib.Bits.{bit_and, and_le_r, and_lt}
use lib.Count.{ones, ones_step}
use lib.Pow.{shr-shr}
use lib.Dec.{eqb, leb, ltb}
use borrow.Author.Tests.{eqb-true, eqb-false, leb-true, leb-false, ltb-true, ltb-false, lt-ltb}
use Rattle.words.specs.Word.{word, bit_of}
use Rattle.words.specs.Search.{sum_below}
use Rattle.words.proofs.BitLaws.{on-digit}
use Rattle.words.proofs.Digits.{bit-and, bit-ones, bit-digit}
use Rattle.words.proofs.Search.{sum_same}
use Rattle.paint.specs.declared.Shape.{Shape}
use Rattle.paint.specs.declared.Strip.{Strip}
use Rattle.paint.specs.Panel.{strip_of, panel_words}
use Rattle.paint.specs.Pen.{in_strip}
use Rattle.paint.specs.Reach.{from_column, upto_column}
use Rattle.paint.specs.Rule.{panel_dot}
use Rattle.paint.proofs.Edges.{head_in, head-out, tail-in, tail-out}
use Rattle.paint.proofs.Marks.{in-strip-bit, strip-right-of, strip-left-of, strip-holds}
use Rattle.counts.specs.declared.Band.{Band}
use Rattle.counts.specs.Lit.{over_dots}
use Rattle.counts.specs.Band.{band_of, mask_of, lit_in_word, lit_in_words, lit_in}
use Rattle.counts.proofs.Totals.{sum-swap, sum-words, sum-window}

-- ---- the ones of a word are its bits

ones-to : (w m : ℕ) → m ≤ 16 → w < 65536 → ones (w / 2 ^ (16 - m)) ≡ sum_below m (bit_of w)
unfolding sum_below bit_of ones
ones-to w zero low small = ap ones {x = w / 65536} {y = 0} (omega arith)
ones-to w (suc m) low small =
    let less = ones-to w m (omega arith) small in
    let half : w / 2 ^ (16 - suc m) / 2 ≡ w / 2 ^ (16 - m) =
    shr-shr w (16 - suc m) 1 ∙ ap (λ (n : ℕ). w / 2 ^ n) {x = 16 - suc m + 1} {y = 16 - m} (omega arith) in
    let bit : w / 2 ^ (16 - suc m) % 2 ≡ w / 2 ^ (15 - m) % 2 = ap (λ (n : ℕ). w / 2 ^ n % 2) {x = 16 - suc m} {y = 15 - m} (omega arith) in
    ones_step (w / 2 ^ (16 - suc m)) ∙ ap₂ ◌+◌ bit (ap ones half ∙ less) ∙ omega arith

pub ones-bits : (w : ℕ) → w < 65536 → ones w ≡ sum_below 16 (bit_of w)
ones-bits w small = ap ones {x = w} {y = w / 1} (omega arith) ∙ ones-to w 16 (omega arith) small

-- ---- the masks

head-lt : (place : ℕ) → from_column place < 65536
head-lt place = let small = div-le_self 0xFFFF (2 ^ (place % 16)) in omega (arith, small)

tail-lt : (place : ℕ) → upto_column place < 65536
tail-lt place = let small = sub-le 0xFFFF (0x7FFF / 2 ^ (place % 16)) in omega (arith, small)

pub mask_lt : (b : Band) (w : ℕ) → b.head < 65536 → b.tail < 65536 → mask_of b w < 65536
unfolding mask_of
mask_lt b w hh ht = and_lt 16 _ _ (one_of (eqb w 0) b.head hh) (one_of (eqb w b.last) b.tail ht)
  where
    one_of : (t : Bool) (m : ℕ) → m < 65536 → cond t m 0xFFFF < 65536
    one_of true m h = h
    one_of false m h = omega arith

-- a mask has the strip's columns of its word
module _ (strip : Strip) (some : strip.from < strip.upto) (w : ℕ) (within : w ≤ (strip.upto - 1) / 16 - strip.from / 16)
    (j : ℕ) (here : j < 16) where
  abbrev column : ℕ
  column = 16 * (strip.from / 16 + w) + j

  abbrev head : ℕ
  head = cond (eqb w 0) (from_column strip.from) 0xFFFF

  abbrev tail : ℕ
  tail = cond (eqb w ((strip.upto - 1) / 16 - strip.from / 16)) (upto_column (strip.upto - 1)) 0xFFFF

  tail-bit : bit_of tail j ≡ cond (ltb column strip.upto) 1 0
  tail-bit = by_word (eqb w ((strip.upto - 1) / 16 - strip.from / 16)) refl
    where
      by-column : strip.from / 16 + w ≡ (strip.upto - 1) / 16 → (t : Bool) → ltb column strip.upto ≡ t
          → bit_of (upto_column (strip.upto - 1)) j ≡ cond t 1 0
      by-column last true e =
          tail-in strip.from strip.upto j here w (omega (arith, some)) last (ltb-true column strip.upto e)
      by-column last false e =
          tail-out strip.from strip.upto j here w (omega (arith, some)) last (ltb-false column strip.upto e)

      by_word : (t : Bool) → eqb w ((strip.upto - 1) / 16 - strip.from / 16) ≡ t
          → bit_of (cond t (upto_column (strip.upto - 1)) 0xFFFF) j ≡ cond (ltb column strip.upto) 1 0
      by_word true e =
          let last = eqb-true w _ e in by-column (omega (arith, some, last)) (ltb column strip.upto) refl
      by_word false e =
          let other = eqb-false w _ e in
          let before : w < (strip.upto - 1) / 16 - strip.from / 16 = lt_of_not-le (λ h. other (le_antisymm within h)) in
          bit-ones j here ∙ sym (ap (λ (t : Bool). cond t 1 0) (lt-ltb column strip.upto (omega (arith, some, before))))

  pub mask-column : min (bit_of head j) (bit_of tail j) ≡ in_strip strip column
  unfolding in_strip
  mask-column = by-column (leb strip.from column) refl
    where
      by-column : (t : Bool) → leb strip.from column ≡ t
          → min (bit_of head j) (bit_of tail j) ≡ cond (t && ltb column strip.upto) 1 0
      by-column true e =
          ap₂ min (head_in strip.from strip.upto j here w (leb-true strip.from column e)) tail-bit
          ∙ one-and (ltb column strip.upto)
        where
          one-and : (t : Bool) → min 1 (cond t 1 0) ≡ cond t 1 0
          one-and true = refl
          one-and false = refl
      by-column false e =
          ap (λ (n : ℕ). min n (bit_of tail j)) (head-out strip.from strip.upto j here w (leb-false strip.from column e))
          ∙ omega arith

-- ---- one row by words is the row by columns

module _ (strip : Strip) (some : strip.from < strip.upto) (f : ℕ → ℕ) where
  abbrev first : ℕ
  first = strip.from / 16

  abbrev last : ℕ
  last = (strip.upto - 1) / 16 - first

  abbrev inside : ℕ → ℕ
  inside column = f column * in_strip strip column

  -- the columns before the strip's in its first word, its own, and those behind them in its last word
  abbrev before : ℕ
  before = strip.from - 16 * first

  abbrev columns : ℕ
  columns = strip.upto - strip.from

  abbrev behind : ℕ
  behind = 16 * first + 16 * (last + 1) - strip.upto

  parts : 16 * (last + 1) ≡ before + columns + behind
  parts = omega (arith, some)

  low : (i : ℕ) → i < before → inside (16 * first + i) ≡ 0
  low i less = ap (λ (n : ℕ). f (16 * first + i) * n) (strip-right-of strip (16 * first + i) (omega arith)) ∙ mul-zero _

  high : (i : ℕ) → before + columns ≤ i → inside (16 * first + i) ≡ 0
  high i more = ap (λ (n : ℕ). f (16 * first + i) * n) (strip-left-of strip (16 * first + i) (omega (arith, some))) ∙ mul-zero _

  let_through : (j : ℕ) → j < columns → inside (strip.from + j) ≡ f (strip.from + j)
  let_through j less =
      ap (λ (n : ℕ). f (strip.from + j) * n) (strip-holds strip (strip.from + j) (omega arith) (omega (arith, less))) ∙ mul-one _

  pub row-columns : sum_below (last + 1) (λ w. sum_below 16 (λ j. inside (16 * (first + w) + j)))
      ≡ sum_below columns (λ j. f (strip.from + j))
  row-columns =
      sum_same (last + 1) _ (λ w. sum_below 16 (λ j. inside (16 * first + (16 * w + j))))
      (λ w less. sum_same 16 _ _ (λ j small. ap inside {x = 16 * (first + w) + j} {y = 16 * first + (16 * w + j)} (omega arith)))
      ∙ sum-words (last + 1) (λ i. inside (16 * first + i))
      ∙ ap (λ (n : ℕ). sum_below n (λ i. inside (16 * first + i))) parts
      ∙ sum-window before columns behind (λ i. inside (16 * first + i)) low high
      ∙ sum_same columns _ _ (λ j less. ap inside {x = 16 * first + (before + j)} {y = strip.from + j} (omega arith) ∙ let_through j less)

-- ---- the band

min-product : (a b : ℕ) → a < 2 → b < 2 → min a b ≡ a * b
min-product a b ha hb =
    on-digit (λ (x : ℕ). min x b ≡ x * b) (on-digit (λ (y : ℕ). min 0 y ≡ 0 * y) refl refl b hb)
    (on-digit (λ (y : ℕ). min 1 y ≡ 1 * y) refl refl b hb) a ha

module _ (s : Shape) (k row n : ℕ) (wide : 1 ≤ s.width) where
  abbrev strip : Strip
  strip = strip_of s k

  abbrev band : Band
  band = band_of s k row n

  ready : strip.from < strip.upto
  ready = omega (arith, wide)

  -- the ones of a masked word are the dots of its columns
  word-dots : (panel : List ℕ) (i w : ℕ) → w ≤ band.last
      → ones (bit_and (word panel (band.at + w + i * band.rowwords)) (mask_of band w))
      ≡ sum_below 16 (λ j. panel_dot s panel (row + i) (16 * (strip.from / 16 + w) + j) * in_strip strip (16 * (strip.from / 16 + w) + j))
  unfolding band_of mask_of panel_dot
  word-dots panel i w within =
      let d = word panel (band.at + w + i * s.rowwords) in
      let small = lt_of_le_of_lt (and_le_r d (mask_of band w)) (mask_lt band w (head-lt strip.from) (tail-lt (strip.upto - 1))) in
      ones-bits (bit_and d (mask_of band w)) small
      ∙ sum_same 16 _ _ (λ j here.
      let c = strip.from / 16 + w in
      let across = add-mul row i s.rowwords in
      let at : band.at + w + i * s.rowwords ≡ (row + i) * s.rowwords + (16 * c + j) / 16 = omega (arith, across, here) in
      let same : j ≡ (16 * c + j) % 16 = omega (arith, here) in
      bit-and d (mask_of band w) j
      ∙ ap (min (bit_of d j)) (bit-and _ _ j ∙ mask-column strip ready w within j here)
      ∙ min-product _ _ (bit-digit _ j) (in-strip-bit strip (16 * c + j))
      ∙ ap₂ (λ (p q : ℕ). bit_of (word panel p) q * in_strip strip (16 * c + j)) at same)

  -- so one row of the band, and all its rows
  row-dots : (panel : List ℕ) (i : ℕ)
      → sum_below (band.last + 1) (λ w. ones (bit_and (word panel (band.at + w + i * band.rowwords)) (mask_of band w)))
      ≡ sum_below (strip.upto - strip.from) (λ j. panel_dot s panel (row + i) (strip.from + j))
  unfolding band_of
  row-dots panel i =
      sum_same (band.last + 1) _ _ (λ w less. word-dots panel i w (omega (arith, less)))
      ∙ row-columns strip ready (panel_dot s panel (row + i))

  pub band-dots : (panel : List ℕ) → lit_in_words band (word panel) (band.last + 1) ≡ lit_in s k row n panel
  unfolding lit_in_words lit_in_word over_dots band_of
  band-dots panel =
      sum-swap (band.last + 1) n (λ w i. ones (bit_and (word panel (band.at + w + i * band.rowwords)) (mask_of band w)))
      ∙ sum_same n _ _ (λ i less. row-dots panel i)

  -- also where the words are known in another way, as far as the panel goes
  pub band-known : (f : ℕ → ℕ) (panel : List ℕ) → strip.upto ≤ 16 * s.rowwords → row + n ≤ s.rows
      → ((i : ℕ) → i < panel_words s → f i ≡ word panel i) → lit_in_words band f (band.last + 1) ≡ lit_in s k row n panel
  unfolding lit_in_words lit_in_word band_of
  band-known f panel fits ends known =
      sum_same (band.last + 1) _ _ (λ w few. sum_same n _ _ (λ i less.
      ap (λ (d : ℕ). ones (bit_and d (mask_of band w))) (known (band.at + w + i * s.rowwords) (at_most w few i less))))
      ∙ band-dots panel
    where
      at_most : (w : ℕ) → w < band.last + 1 → (i : ℕ) → i < n → band.at + w + i * s.rowwords < panel_words s
      at_most w few i less =
          let across = add-mul row i s.rowwords in
          let below : (row + i + 1) * s.rowwords ≤ s.rows * s.rowwords = mul-le-mul_right s.rowwords (omega (arith, ends, less)) in
          let up = add-mul (row + i) 1 s.rowwords in
          let turned = mul_comm s.rows s.rowwords in
          omega (arith, across, below, up, turned, fits, ready, few)
