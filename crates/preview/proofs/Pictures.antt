-- The picture: its digits, and the rows behind the header.
use Prim.Native.Nat.{ℕ, ◌+◌, ◌-◌, ◌*◌, ◌<◌, ◌≤◌, min}
use mathlib.Core.Path.{◌≡◌, refl, sym, ap, ap₂, ◌∙◌}
use mathlib.Core.Bool.{true, false}
use mathlib.Core.List.{List, [], ◌∷◌, ◌++◌, append_assoc}
use native.Mathlib.Nat.{zero-add, mul-le-mul}
use native.Mathlib.Omega.{arith}
use lib.ListN.{length, take, drop, length-drop}
use lib.Seq.{drop-drop}
use Rattle.std.specs.Prelude.{decimal}
use Rattle.std.proofs.lemmas.Fmt.{length-decimal-le}
use Rattle.words.specs.Word.{word, bytes_of, over}
use Rattle.words.proofs.Lists.{behind-front, rest-lent, nothing-behind}
use Rattle.words.proofs.Tables.{joined_length}
use Rattle.words.proofs.Over.{over-list}
use Rattle.words.proofs.Bytes.{bytes-length}
use Rattle.paint.specs.declared.Shape.{Shape}
use Rattle.paint.specs.Panel.{panel_words, bad_panel}
use Rattle.paint.proofs.Accepted.{good-panel}
use Rattle.preview.specs.Picture.{most_words, header_of, rows_of, picture_of, Put}
use Rattle.preview.proofs.Putting.{put_first}

-- a number below 10,000 has at most four digits
pub few_digits : {n : ℕ} {text bytes : List ℕ} → text ≡ decimal n → bytes ≡ text → n < 10000 → length bytes ≤ 4
few_digits {n = n} spelt same small =
    let few = length-decimal-le 4 n (omega arith) small (omega arith) in
    omega (arith, ap length (same ∙ spelt))

pub no-picture : (s : Shape) (panel : List ℕ) → bad_panel s (length panel ∷ []) ≡ true → picture_of s panel ≡ []
unfolding picture_of
no-picture s panel bad = rw bad

pub a-picture : (s : Shape) (panel : List ℕ) → bad_panel s (length panel ∷ []) ≡ false
    → picture_of s panel ≡ header_of s ++ rows_of s panel
unfolding picture_of
a-picture s panel good = rw good

-- a panel that 8 does not refuse has its words, and no more than 32,768 of them
pub few_words : (s : Shape) (room : ℕ) → bad_panel s (room ∷ []) ≡ false
    → (s.rowwords ≤ 128) × (s.rows ≤ 256) × (panel_words s ≤ room) × (panel_words s ≤ most_words)
few_words s room good =
    let kept = good-panel s room good in
    let product = mul-le-mul {n₁ = s.rowwords} {m₁ = s.rows} {n₂ = 128} {m₂ = 256} kept.narrow kept.low in
    (kept.narrow, kept.low, kept.long, product)

-- what is lent of a slice from its byte n on, and the slice when that comes back
abbrev lent_from : ℕ → List ℕ → List ℕ
lent_from n front = take (length front - n) (drop n front)

abbrev given_back : ℕ → List ℕ → List ℕ → List ℕ
given_back n front after = take n front ++ (after ++ drop (length front - n) (drop n front))

-- bytes written behind a header into what is left of a slice
module _ (header bytes out : List ℕ) (room : length header + length bytes ≤ length out) where
  abbrev rest : List ℕ
  rest = drop (length header) out

  left : length rest ≡ length out - length header
  left = length-drop (length header) out

  both : length (header ++ bytes) ≡ length header + length bytes
  both = joined_length header bytes (length header) refl (length bytes) refl

  -- `front` is the slice behind the header's writing, `after` what was lent of it behind the header, as it is left
  module _ (n m : ℕ) (front after : List ℕ) (begun : Put 0 header out n front) (count : m ≡ min (length bytes) (length (lent_from n front)))
      (written : after ≡ over (min (length bytes) (length (lent_from n front))) (word bytes) (lent_from n front)) where
    long : n ≡ length header
    long = begun.ends ∙ zero-add (length header)

    whole : front ≡ header ++ rest
    whole = begun.leaves ∙ put_first header out

    size : length front ≡ length header + length rest
    size = ap length whole ∙ joined_length header rest (length header) refl (length rest) refl

    lent : lent_from n front ≡ rest
    lent =
        let behind = left in
        let e = size in
        let n-is = long in
        ap (λ (f : List ℕ). take (length front - n) (drop n f)) whole
        ∙ rest-lent header rest n (length front - n) (sym long) (omega arith)

    all : min (length bytes) (length (lent_from n front)) ≡ length bytes
    all = let behind = left in ap (λ (l : List ℕ). min (length bytes) (length l)) lent ∙ omega arith

    ends_with : after ≡ bytes ++ drop (length bytes) rest
    ends_with =
        let behind = left in
        written
        ∙ ap₂ (λ (k : ℕ) (l : List ℕ). over k (word bytes) l) all lent
        ∙ over-list (length bytes) bytes rest refl (omega arith)

    behind-header : Put 0 (header ++ bytes) out (n + m) (given_back n front after)
    behind-header =
        let behind = left in
        let joined = both in
        let n-is = long in
        let e = size in
        let counted = all in record {
          ends = omega arith;
          leaves =
              ap (λ (f : List ℕ). take n f ++ (after ++ drop (length front - n) (drop n f))) whole
              ∙ behind-front header rest after n (length front - n) (sym long)
              ∙ ap (λ (l : List ℕ). header ++ l) (nothing-behind rest after (length front - n) (omega arith) ∙ ends_with)
              ∙ sym (append_assoc header bytes (drop (length bytes) rest))
              ∙ ap (λ (l : List ℕ). (header ++ bytes) ++ l) (drop-drop (length bytes) (length header) out)
              ∙ ap (λ (k : ℕ). (header ++ bytes) ++ drop k out) (sym both)
              ∙ sym (put_first (header ++ bytes) out);
        }

-- the same for the bytes that words spell
pub rows_behind : (header ws rows out : List ℕ) → rows ≡ ws → length header + 2 * length rows ≤ length out
    → (n m : ℕ) (front after : List ℕ) → Put 0 header out n front
    → m ≡ min (2 * length rows) (length (lent_from n front))
    → after ≡ over (min (2 * length rows) (length (lent_from n front))) (word (bytes_of rows)) (lent_from n front)
    → Put 0 (header ++ bytes_of ws) out (n + m) (given_back n front after)
rows_behind header ws rows out same room n m front after begun count written =
    let size = bytes-length rows in
    let lent = lent_from n front in
    rw (← same)
    (behind-header header (bytes_of rows) out (omega arith) n m front after begun
    (count ∙ ap (λ (k : ℕ). min k (length lent)) (sym size))
    (written ∙ ap (λ (k : ℕ). over (min k (length lent)) (word (bytes_of rows)) lent) (sym size)))
