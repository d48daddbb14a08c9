-- What the loops over the rows of a band have in common: where they are, and what a turn adds, for one word of a row and for four.
use Prim.Native.Nat.{ℕ, ◌+◌, ◌*◌, ◌<◌, ◌≤◌}
use mathlib.Core.Path.{◌≡◌, refl, sym, ap, ap₂, ◌∙◌}
use native.Mathlib.Nat.{lt_of_le_of_lt}
use native.Mathlib.Omega.{arith}
use lib.Bits.{bit_and, and_block, and_le_l, and_le_r, and_lt}
use lib.Count.{ones, ones_cat, ones-le}
use Rattle.words.specs.Search.{sum_below}
use Rattle.words.proofs.Search.{sum_more}
use Rattle.counts.specs.declared.Band.{Band}
use Rattle.counts.specs.Band.{mask_of, lit_in_word, lit_in_words, four_of, four_at, AreWords, Inside}
use Rattle.counts.proofs.Bands.{mask_lt}

-- a band that is another, in as much room
pub inside-same : (b c : Band) (m n : ℕ) → b ≡ c → m ≡ n → Inside c n → Inside b m
inside-same b c m n same room inside = rw same (rw room inside)

-- word w of a row of the band
module _ (b : Band) (w : ℕ) where
  abbrev place : ℕ → ℕ
  place row = b.at + w + row * b.rowwords

  -- its lit dots in one row more
  module _ (f : ℕ → ℕ) where
    pub none-counted : 0 ≡ lit_in_word b f w 0
    unfolding lit_in_word sum_below
    none-counted = refl

    pub row-counted : (row sum d m : ℕ) → sum ≡ lit_in_word b f w row → d ≡ f (place row) → m ≡ mask_of b w
        → sum + ones (bit_and d m) ≡ lit_in_word b f w (row + 1)
    unfolding lit_in_word
    row-counted row sum d m so_far read masked =
        ap₂ ◌+◌ so_far (ap₂ (λ (x y : ℕ). ones (bit_and x y)) read masked)
        ∙ sym (sum_more (λ i. ones (bit_and (f (place i)) (mask_of b w))) row)

  -- a word has sixteen dots
  pub few-dots : (d m : ℕ) → b.head < 65536 → b.tail < 65536 → m ≡ mask_of b w → ones (bit_and d m) ≤ 16
  few-dots d m hh ht masked =
      ones-le 16 (bit_and d m) (lt_of_le_of_lt (and_le_r d m) (rw masked (mask_lt b w hh ht)))

-- word upon word
pub no_words : (b : Band) (f : ℕ → ℕ) → 0 ≡ lit_in_words b f 0
unfolding lit_in_words sum_below
no_words b f = refl

pub one_word_more : (b : Band) (f : ℕ → ℕ) (w sum one : ℕ) → sum ≡ lit_in_words b f w → one ≡ lit_in_word b f w b.rows
    → sum + one ≡ lit_in_words b f (w + 1)
unfolding lit_in_words
one_word_more b f w sum one so_far counted = ap₂ ◌+◌ so_far counted ∙ sym (sum_more (λ v. lit_in_word b f v b.rows) w)

-- four words at once
module _ (a b c d p q r t : ℕ) (ha : a < 65536) (hb : b < 65536) (hc : c < 65536) (hp : p < 65536) (hq : q < 65536) (hr : r < 65536) where
  pub four-dots : ones (bit_and (four_of a b c d) (four_of p q r t))
      ≡ ones (bit_and d t) + ones (bit_and c r) + ones (bit_and b q) + ones (bit_and a p)
  four-dots =
      ap ones (and_block 16 ((d * 65536 + c) * 65536 + b) ((t * 65536 + r) * 65536 + q) a p ha hp)
      ∙ ones_cat 16 (bit_and ((d * 65536 + c) * 65536 + b) ((t * 65536 + r) * 65536 + q)) (bit_and a p) (and_lt 16 a p ha hp)
      ∙ ap (λ (n : ℕ). n + ones (bit_and a p))
      (ap ones (and_block 16 (d * 65536 + c) (t * 65536 + r) b q hb hq)
      ∙ ones_cat 16 (bit_and (d * 65536 + c) (t * 65536 + r)) (bit_and b q) (and_lt 16 b q hb hq)
      ∙ ap (λ (n : ℕ). n + ones (bit_and b q))
      (ap ones (and_block 16 d t c r hc hr) ∙ ones_cat 16 (bit_and d t) (bit_and c r) (and_lt 16 c r hc hr)))

-- they have sixty-four dots
pub few-in-four : (x m : ℕ) → x < 18446744073709551616 → ones (bit_and x m) ≤ 64
few-in-four x m small = ones-le 64 (bit_and x m) (lt_of_le_of_lt (and_le_l x m) small)

-- the lit dots in four words of a row, counted so, for each row more
module _ (b : Band) (f : ℕ → ℕ) (w : ℕ) where
  abbrev pub in_four : ℕ → ℕ
  in_four row = lit_in_word b f (w + 3) row + lit_in_word b f (w + 2) row + lit_in_word b f (w + 1) row + lit_in_word b f w row

  pub none-in-four : 0 ≡ in_four 0
  unfolding lit_in_word sum_below
  none-in-four = refl

  module _ (hh : b.head < 65536) (ht : b.tail < 65536) where
    pub row-in-four : (row sum at x m : ℕ) → AreWords f at → sum ≡ in_four row → at ≡ b.at + w + row * b.rowwords
        → x ≡ four_at f at → m ≡ four_at (mask_of b) w → sum + ones (bit_and x m) ≡ in_four (row + 1)
    row-in-four row sum at x m words so_far here read masked =
        let all = ap₂ (λ (p q : ℕ). ones (bit_and p q)) read masked
        ∙ four-dots (f at) (f (at + 1)) (f (at + 2)) (f (at + 3)) (mask_of b w) (mask_of b (w + 1)) (mask_of b (w + 2)) (mask_of b (w + 3))
        words.0 words.1 words.2 (mask_lt b w hh ht) (mask_lt b (w + 1) hh ht) (mask_lt b (w + 2) hh ht) in
        let one = row-counted b w f row (lit_in_word b f w row) _ _ refl (ap f here) refl in
        let next_1 : at + 1 ≡ b.at + (w + 1) + row * b.rowwords = omega (arith, here) in
        let two = row-counted b (w + 1) f row (lit_in_word b f (w + 1) row) _ _ refl (ap f next_1) refl in
        let next_2 : at + 2 ≡ b.at + (w + 2) + row * b.rowwords = omega (arith, here) in
        let three = row-counted b (w + 2) f row (lit_in_word b f (w + 2) row) _ _ refl (ap f next_2) refl in
        let next_3 : at + 3 ≡ b.at + (w + 3) + row * b.rowwords = omega (arith, here) in
        let four = row-counted b (w + 3) f row (lit_in_word b f (w + 3) row) _ _ refl (ap f next_3) refl in
        omega (arith, so_far, all, one, two, three, four)

  pub words-in-four : in_four b.rows + lit_in_words b f w ≡ lit_in_words b f (w + 4)
  unfolding lit_in_words
  words-in-four =
      let g : ℕ → ℕ = λ v. lit_in_word b f v b.rows in
      let one = sum_more g w in
      let two = sum_more g (w + 1) in
      let three = sum_more g (w + 2) in
      let four = sum_more g (w + 3) in
      let second : sum_below (w + 1 + 1) g ≡ sum_below (w + 2) g = ap (λ (n : ℕ). sum_below n g) (omega arith) in
      let third : sum_below (w + 2 + 1) g ≡ sum_below (w + 3) g = ap (λ (n : ℕ). sum_below n g) (omega arith) in
      let fourth : sum_below (w + 3 + 1) g ≡ sum_below (w + 4) g = ap (λ (n : ℕ). sum_below n g) (omega arith) in
      omega (arith, one, two, three, four, second, third, fourth)
