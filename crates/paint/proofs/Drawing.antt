-- A picture on a lent slice, word by word and row by row: what the loops do in a turn, and that they stay inside.
use Prim.Native.Nat.{ℕ, zero, suc, ◌+◌, ◌-◌, ◌*◌, ◌<◌, ◌≤◌}
use mathlib.Core.Path.{◌≡◌, refl, sym, ap, ap₂, ◌∙◌}
use mathlib.Core.Bool.{Bool, true, false, cond, ◌&&◌, true≢false}
use mathlib.Core.List.{List}
use native.Mathlib.Nat.{add-zero, zero-mul, add_assoc, suc-mul, mul-le-mul, mul-le-mul_right, mod-lt}
use native.Mathlib.Numerals.{add-one}
use native.Mathlib.Omega.{arith}
use lib.Bits.{bit_and}
use lib.Dec.{eqb}
use lib.ListN.{length, length-set}
use borrow.Author.Tests.{lt-ltb, le-ltb, eqb-true, eqb-false, ne_eqb, ltb-true}
use Rattle.words.specs.declared.Mode.{Mode}
use Rattle.words.proofs.BitLaws.{and-ones}
use Rattle.words.proofs.Passed.{both}
use Rattle.paint.specs.declared.Reach.{Reach}
use Rattle.paint.specs.Reach.{window, row_marks, marked, row_drawn, nth_row, rows_drawn, in_file, spans_in, Within}

-- ---- where a loop over the rows of a reach is, that carries along where a row begins

-- before a row: in the font, and in what is lent
abbrev pub AtRow : Reach → ℕ → ℕ → ℕ → Type 0
AtRow r row from at = (from ≡ r.source + row * r.raster) × (at ≡ r.at + row * r.rowwords)

pub at-first-row : (r : Reach) → AtRow r 0 r.source r.at
at-first-row r = (no_rows r.source r.raster, no_rows r.at r.rowwords)
  where
    no_rows : (first step : ℕ) → first ≡ first + 0 * step
    no_rows first step = sym (ap (◌+◌ first) (zero-mul step) ∙ add-zero first)

pub at-next-row : (r : Reach) (row from at : ℕ) → AtRow r row from at → AtRow r (row + 1) (from + r.raster) (at + r.rowwords)
at-next-row r row from at here = (one-row-on from r.source r.raster here.0, one-row-on at r.at r.rowwords here.1)
  where
    one-row-on : (place first step : ℕ) → place ≡ first + row * step → place + step ≡ first + (row + 1) * step
    one-row-on place first step e =
        ap (λ (n : ℕ). n + step) e ∙ add_assoc first (row * step) step
        ∙ ap (◌+◌ first) (sym (ap (λ (n : ℕ). n * step) (add-one row) ∙ suc-mul row step))

-- ---- a row that a loop over the rows of a reach still has is inside

module _ (r : Reach) (row : ℕ) (less : row < r.rows) where
  row_before : (step : ℕ) → row * step + step ≤ r.rows * step
  row_before step = rw (← suc-mul row step) (mul-le-mul_right step less)

  -- and the one behind it not far
  pub row-behind : (room : ℕ) → Within r room
      → (r.source + row * r.raster + r.raster ≤ 17196646400) × (r.at + row * r.rowwords + r.rowwords ≤ 98303)
  row-behind room within =
      let far : r.rows * r.raster ≤ 16776960 = mul-le-mul {n₂ = 256} {m₂ = 65535} within.1 within.6 in
      let low : r.rows * r.rowwords ≤ 32768 = mul-le-mul {n₂ = 256} {m₂ = 128} within.1 within.4 in
      (omega (arith, row_before r.raster, within.5), omega (arith, row_before r.rowwords, within.8))

  pub row_inside : (room : ℕ) → Within r room → r.at + row * r.rowwords + r.last < room
  row_inside room within = omega (arith, row_before r.rowwords, within.3)

  pub row-source : (room : ℕ) → Within r room → r.source + row * r.raster ≤ 17196646400
  row-source room within =
      let all : r.rows * r.raster ≤ 16776960 = mul-le-mul {n₂ = 256} {m₂ = 65535} within.1 within.6 in
      omega (arith, row_before r.raster, within.5)

  -- of a picture in the file, the words of a row and their neighbours are there
  pub row-in-file : (words : ℕ) → in_file r words ≡ true → r.source + row * r.raster + r.last + 1 < words
  unfolding in_file
  row-in-file words there =
      let all : r.source + (r.rows - 1) * r.raster + r.last + 1 < words = ltb-true _ _ there in
      let rows : row * r.raster ≤ (r.rows - 1) * r.raster = mul-le-mul_right r.raster (omega arith) in
      omega arith

pub nothing-drawn : (font : List ℕ) (r : Reach) (mode : Mode) (lent : List ℕ) → lent ≡ rows_drawn font r mode 0 lent
unfolding rows_drawn
nothing-drawn font r mode lent = refl

-- so many words behind the first, and in the file
pub span-tests : (r : Reach) (last words : ℕ) → spans_in r last words ≡ true → (r.last ≡ last) × (in_file r words ≡ true)
unfolding spans_in
span-tests r last words spans =
    let tests = both (eqb r.last last) (in_file r words) spans in
    (eqb-true r.last last tests.0, tests.1)

-- in the file, and not in one word a row
pub wide-last : (r : Reach) (words : ℕ) → spans_in r 0 words ≡ false → in_file r words ≡ true → 1 ≤ r.last
unfolding spans_in
wide-last r words other there = by_last (eqb r.last 0) refl other
  where
    by_last : (t : Bool) → eqb r.last 0 ≡ t → (t && in_file r words) ≡ false → 1 ≤ r.last
    by_last true e narrow = absurd (true≢false (sym there ∙ narrow))
    by_last false e narrow = let some : r.last ≡ 0 → ⊥ = eqb-false r.last 0 e in omega arith

-- behind the first word all columns are reached
pub whole-mask : (r : Reach) (w : ℕ) → 0xFFFF ≡ cond (eqb (w + 1) 0) r.head 0xFFFF
whole-mask r w = rw (ne_eqb (w + 1) 0 (λ e. absurd (omega arith)))

module _ (font : List ℕ) (r : Reach) (mode : Mode) where
  row-length : (from at n : ℕ) (lent : List ℕ) → length (row_drawn font r mode from at n lent) ≡ length lent
  unfolding row_drawn
  row-length from at zero lent = refl
  row-length from at (suc n) lent = simp length-set (row-length from at n lent)

  rows-length : (n : ℕ) (lent : List ℕ) → length (rows_drawn font r mode n lent) ≡ length lent
  unfolding rows_drawn
  rows-length zero lent = refl
  rows-length (suc n) lent = row-length _ _ (suc r.last) (rows_drawn font r mode n lent) ∙ rows-length n lent

  pub rows-room : (n : ℕ) (now lent : List ℕ) → now ≡ rows_drawn font r mode n lent → length now ≡ length lent
  rows-room n now lent same = ap length same ∙ rows-length n lent

  pub row_room : (from at n : ℕ) (now lent : List ℕ) → now ≡ row_drawn font r mode from at n lent → length now ≡ length lent
  row_room from at n now lent same = ap length same ∙ row-length from at n lent

  -- ---- the marks that the code makes

  module _ (from w mask dots : ℕ) (first : mask ≡ cond (eqb w 0) r.head 0xFFFF) (read : dots ≡ window font (from + w) r.shift) where
    pub marks-before : w < r.last → bit_and dots mask ≡ row_marks font r from w
    unfolding row_marks
    marks-before less = rw (lt-ltb w r.last less) (ap₂ bit_and read first)

    pub marks-last : w ≡ r.last → bit_and (bit_and dots mask) r.tail ≡ row_marks font r from w
    unfolding row_marks
    marks-last there = rw (le-ltb w r.last (omega arith)) (ap₂ (λ (d m : ℕ). bit_and (bit_and d m) r.tail) read first)

    -- where there are words before the last, none of its columns is before the first
    pub marks-wide : w ≡ r.last → 1 ≤ r.last → bit_and dots r.tail ≡ row_marks font r from w
    marks-wide there some =
        let all : mask ≡ 0xFFFF = first ∙ rw (ne_eqb w 0 (λ e. absurd (omega arith))) in
        let small : dots < 65536 = rw read (mod-lt _ (omega arith)) in
        ap (λ (n : ℕ). bit_and n r.tail) (sym (ap (bit_and dots) all ∙ and-ones dots small)) ∙ marks-last there

  pub marks-narrow : (from dots : ℕ) → dots ≡ window font from r.shift → r.last ≡ 0
      → bit_and (bit_and dots r.head) r.tail ≡ row_marks font r from 0
  marks-narrow from dots read alone =
      marks-last from 0 r.head dots refl (read ∙ ap (λ (i : ℕ). window font i r.shift) (sym (add-zero from))) (sym alone)

-- ---- a turn of a loop over the words, and over the rows: on what is marked where t is true, and else on what stays. So they serve flip
-- with true, and keep with whether it settles

pub stays : (t : Bool) (lent : List ℕ) → lent ≡ cond t lent lent
stays true lent = refl
stays false lent = refl

-- one thing done after another
then : (t : Bool) (one other : List ℕ → List ℕ) (lent now next : List ℕ) → now ≡ cond t (one lent) lent → next ≡ cond t (other now) now
    → next ≡ cond t (other (one lent)) lent
then true one other lent now next first second = second ∙ ap other first
then false one other lent now next first second = second ∙ first

module _ (t : Bool) (font : List ℕ) (r : Reach) (mode : Mode) where
  pub nothing-yet : (lent : List ℕ) → lent ≡ cond t (rows_drawn font r mode 0 lent) lent
  unfolding rows_drawn
  nothing-yet lent = stays t lent

  pub no-word-yet : (from at : ℕ) (lent : List ℕ) → lent ≡ cond t (row_drawn font r mode from at 0 lent) lent
  unfolding row_drawn
  no-word-yet from at lent = stays t lent

  pub word_more : (from at w marks : ℕ) (now next lent : List ℕ) → now ≡ cond t (row_drawn font r mode from at w lent) lent
      → marks ≡ row_marks font r from w
      → next ≡ cond t (marked mode marks (at + w) now) now
      → next ≡ cond t (row_drawn font r mode from at (w + 1) lent) lent
  unfolding row_drawn
  word_more from at w marks now next lent same these drew =
      then t (row_drawn font r mode from at w) (marked mode (row_marks font r from w) (at + w)) lent now next same
      (drew ∙ ap (λ (m : ℕ). cond t (marked mode m (at + w) now) now) these)
      ∙ ap (λ (n : ℕ). cond t (row_drawn font r mode from at n lent) lent) (sym (add-one w))

  pub row_more : (row : ℕ) (now next lent : List ℕ) → now ≡ cond t (rows_drawn font r mode row lent) lent
      → next ≡ cond t (nth_row font r mode row now) now
      → next ≡ cond t (rows_drawn font r mode (row + 1) lent) lent
  unfolding rows_drawn
  row_more row now next lent same drew =
      then t (rows_drawn font r mode row) (nth_row font r mode row) lent now next same drew
      ∙ ap (λ (n : ℕ). cond t (rows_drawn font r mode n lent) lent) (sym (add-one row))

  -- a whole row, by where it begins
  pub row-whole : (row from at n : ℕ) (next lent : List ℕ) → from ≡ r.source + row * r.raster → at ≡ r.at + row * r.rowwords
      → n ≡ r.last → next ≡ cond t (row_drawn font r mode from at (n + 1) lent) lent → next ≡ cond t (nth_row font r mode row lent) lent
  row-whole row from at n next lent source place there drew =
      drew
      ∙ (λ i. cond t (row_drawn font r mode (source i) (place i) (there i + 1) lent) lent)
      ∙ ap (λ (m : ℕ). cond t (row_drawn font r mode (r.source + row * r.raster) (r.at + row * r.rowwords) m lent) lent) (add-one r.last)

  -- a row of one word
  pub narrow-row : (row from at dots : ℕ) (next lent : List ℕ) → from ≡ r.source + row * r.raster → at ≡ r.at + row * r.rowwords
      → r.last ≡ 0 → dots ≡ window font from r.shift
      → next ≡ cond t (marked mode (bit_and (bit_and dots r.head) r.tail) at lent) lent
      → next ≡ cond t (nth_row font r mode row lent) lent
  narrow-row row from at dots next lent source place alone read drew =
      let marks = bit_and (bit_and dots r.head) r.tail in
      let first = drew ∙ ap (λ (i : ℕ). cond t (marked mode marks i lent) lent) (sym (add-zero at)) in
      row-whole row from at 0 next lent source place (sym alone)
      (word_more from at 0 marks lent next lent (no-word-yet from at lent) (marks-narrow font r mode from dots read alone) first)

  -- a row of two words
  pub row-of-two : (row from at one two : ℕ) (now next lent : List ℕ) → from ≡ r.source + row * r.raster → at ≡ r.at + row * r.rowwords
      → r.last ≡ 1 → one ≡ window font from r.shift → two ≡ window font (from + 1) r.shift
      → now ≡ cond t (marked mode (bit_and one r.head) at lent) lent
      → next ≡ cond t (marked mode (bit_and two r.tail) (at + 1) now) now
      → next ≡ cond t (nth_row font r mode row lent) lent
  row-of-two row from at one two now next lent source place pair read_one read-two drew-one drew-two =
      let read = read_one ∙ ap (λ (i : ℕ). window font i r.shift) (sym (add-zero from)) in
      let less : 0 < r.last = omega arith in
      let first = drew-one ∙ ap (λ (i : ℕ). cond t (marked mode (bit_and one r.head) i lent) lent) (sym (add-zero at)) in
      let begun = word_more from at 0 _ lent now lent (no-word-yet from at lent) (marks-before font r mode from 0 r.head one refl read less)
      first in
      let last = marks-wide font r mode from 1 0xFFFF two (whole-mask r 0) read-two (sym pair) (omega arith) in
      row-whole row from at 1 next lent source place (sym pair) (word_more from at 1 _ now next lent begun last drew-two)
