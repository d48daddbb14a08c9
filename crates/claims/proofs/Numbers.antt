-- What an answer tells is the number of the table: every number that a call may be refused by is one of the table's, so `returned` gives it
-- back, and the replies tell it as the paper says.
use Prim.Native.Nat.{ℕ, zero, suc, ◌+◌}
use mathlib.Core.Path.{◌≡◌, refl, sym, ap, ◌∙◌}
use mathlib.Core.Bool.{Bool, true, false, cond, true≢false}
use mathlib.Core.List.{List, [], ◌∷◌}
use lib.Dec.{eqb, ltb}
use lib.IntN.{ℤ}
use lib.ListN.{length}
use borrow.Author.Tests.{eqb-true, ne_eqb}
use Rattle.std.specs.declared.result.Result.{Result}
use Rattle.std.specs.declared.result.Result.TheVariants.{Ok, Err}
use Rattle.words.specs.declared.refusal.Refusal.{Refusal}
use Rattle.words.specs.Refusal.{first_of, or_else, number_of, numbered, refusal_of, returned, answered}
use Rattle.words.specs.Word.{words_of, odd_bytes}
use Rattle.fonts.specs.declared.Header.{Header}
use Rattle.fonts.specs.declared.Body.{Body}
use Rattle.fonts.specs.Strike.{header_of, view_of, body_of, body_start, first_at}
use Rattle.fonts.specs.Reading.{front_number, head_number, body_number, bodies_number, table_number, number_by, font_number, reading_of}
use Rattle.fonts.specs.Reading.{too_short, bad_format, kerned_too_short, bad_codes, bad_count, bad_box, bad_sizes, wrong_length, wrong_end}
use Rattle.fonts.specs.Face.{face_of}
use Rattle.fonts.proofs.Readings.{read-refused}
use Rattle.fontbytes.specs.File.{file_number, file_reading}
use Rattle.convert.proofs.Answers.{Known}
use Rattle.paint.specs.declared.Shape.{Shape}
use Rattle.paint.specs.declared.Label.{Label}
use Rattle.paint.specs.Panel.{panel_number}
use Rattle.paint.specs.Label.{Call, Reply, label_number, number_with, call_number, measure_number, number_after, reply_of, measure_for}
use Rattle.paint.specs.Label.{last_pen, TellsCall, TellsMeasure}
use Rattle.paint.proofs.Telling.{tells}

-- an answer that is made by such a number tells it
pub returned-is : {A : Type 0} (n : ℕ) (value : A) → Known n → returned (answered n value) ≡ n
unfolding answered
returned-is n value known = by_number (eqb n 0) refl
  where
    by_number : (t : Bool) → eqb n 0 ≡ t → returned (cond t (Ok value) (Err (refusal_of n))) ≡ n
    by_number true q = sym (eqb-true n 0 q)
    by_number false q = known.known q

none : Known 0
none = record { known = λ q. absurd (true≢false q) }

module _ (n : ℕ) (is : number_of (refusal_of n) ≡ n) where
  test : (t : Bool) (others : ℕ) → Known others → Known (cond t n others)
  test true others rest = record { known = λ q. is }
  test false others rest = rest

else : (first second : ℕ) → Known first → Known second → Known (or_else first second)
unfolding or_else
else first second h k = by_number (eqb first 0) h k
  where
    by_number : (t : Bool) → Known first → Known second → Known (cond t second first)
    by_number true h k = k
    by_number false h k = h

-- ---- fonts

front-known : (h : Header) (count : ℕ) → Known (front_number h count)
unfolding front_number first_of refusal_of numbered
front-known h count =
    test 1 refl (too_short count) _
    (test 2 refl (bad_format h) _
    (test 1 refl (kerned_too_short h count) _
    (test 3 refl (bad_codes h) _
    (test 15 refl (bad_count h) _ (test 1 refl (ltb count (first_at h)) _ (test 4 refl (bad_box h) _ none))))))

head-known : (h : Header) (b : Body) (at : ℕ) (last : Bool) (count : ℕ) → Known (head_number h b at last count)
unfolding head_number first_of refusal_of numbered
head-known h b at last count =
    test 5 refl (ltb count (at + 5)) _
    (test 4 refl (bad_sizes b) _ (test 5 refl (wrong_length h b) _ (test 5 refl (wrong_end h (at + b.words) last count) _ none)))

body-known : (h : Header) (ws : List ℕ) (at : ℕ) (last : Bool) → Known (body_number h ws at last)
unfolding body_number first_of refusal_of numbered
body-known h ws at last = else _ _ (head-known h (body_of ws at) at last (length ws)) (test 6 refl _ _ none)

bodies-known : (h : Header) (ws : List ℕ) (n : ℕ) → Known (bodies_number h ws n)
unfolding bodies_number
bodies-known h ws zero = none
bodies-known h ws (suc k) = else _ _ (bodies-known h ws k) (body-known h ws (body_start h ws k) (eqb (suc k) h.bodies))

table-known : (h : Header) (ws : List ℕ) → Known (table_number h ws)
unfolding table_number first_of refusal_of numbered
table-known h ws = test 16 refl _ _ (test 7 refl _ _ none)

pub font-known : (ws : List ℕ) → Known (font_number ws)
unfolding font_number number_by
font-known ws =
    let h = header_of ws in
    else _ _ (front-known h (length ws)) (else _ _ (bodies-known h ws h.bodies) (table-known h ws))

pub file-known : (bytes : List ℕ) → Known (file_number bytes)
unfolding file_number refusal_of numbered
file-known bytes = test 14 refl (odd_bytes bytes) _ (font-known (words_of bytes))

-- reading tells the font's number
pub reading-number : (ws : List ℕ) → returned (reading_of ws) ≡ font_number ws
reading-number ws = returned-is (font_number ws) (view_of ws) (font-known ws)

pub file-reading-number : (bytes : List ℕ) → returned (file_reading bytes) ≡ file_number bytes
file-reading-number bytes = returned-is (file_number bytes) (view_of (words_of bytes)) (file-known bytes)

-- so a refusal that it answers has the font's number, and that is not 0
pub refused-font : (ws : List ℕ) (refusal : Refusal) → reading_of ws ≡ Err refusal
    → (number_of refusal ≡ font_number ws) × (number_of refusal ≡ 0 → ⊥)
refused-font ws refusal =
    read-refused (font_number ws) (view_of ws) refusal (λ some. (font-known ws).known (ne_eqb (font_number ws) 0 some))

pub refused-file : (bytes : List ℕ) (refusal : Refusal) → file_reading bytes ≡ Err refusal
    → (number_of refusal ≡ file_number bytes) × (number_of refusal ≡ 0 → ⊥)
refused-file bytes refusal =
    read-refused (file_number bytes) (view_of (words_of bytes)) refusal
    (λ some. (file-known bytes).known (ne_eqb (file_number bytes) 0 some))

-- ---- labels

panel-known : (s : Shape) (lent : List ℕ) → Known (panel_number s lent)
unfolding panel_number first_of refusal_of numbered
panel-known s lent = test 8 refl _ _ none

label-known : (l : Label) (bytes : ℕ) → Known (label_number l bytes)
unfolding label_number first_of refusal_of numbered
label-known l bytes = test 9 refl _ _ (test 10 refl _ _ (test 11 refl _ _ (test 12 refl _ _ none)))

pub call-known : (s : Shape) (lent : List ℕ) (call : Call) → Known (call_number s lent call)
unfolding call_number number_with
call-known s lent call =
    else _ _ (font-known call.font) (else _ _ (panel-known s lent) (label-known call.label (length call.text)))

measure-known : (x : ℤ) (bytes : ℕ) → Known (measure_number x bytes)
unfolding measure_number first_of refusal_of numbered
measure-known x bytes = test 10 refl _ _ (test 11 refl _ _ none)

pub after-known : (number : ℕ) → Known number → (x : ℤ) (bytes : ℕ) → Known (number_after number x bytes)
unfolding number_after
after-known number known x bytes = else _ _ known (measure-known x bytes)

-- the reply of a label call tells its number, and beside it the pen and the substitutes or zeros
pub call-tells : (s : Shape) (lent : List ℕ) (call : Call) (reply : Reply) → reply ≡ reply_of s lent call → TellsCall reply s lent call
unfolding reply_of
call-tells s lent call reply e =
    let pen = last_pen (face_of call.font) call.label.x call.text in
    let number = call_number s lent call in
    tells reply number pen e (ap returned e ∙ returned-is number _ (call-known s lent call))

-- so does that of measuring
pub measure-tells : (number : ℕ) → Known number → (font : List ℕ) (x : ℤ) (text : List ℕ) (reply : Reply)
    → reply ≡ measure_for number font x text → TellsMeasure reply number font x text
unfolding measure_for
measure-tells number known font x text reply e =
    let pen = last_pen (face_of font) x text in
    let after = number_after number x (length text) in
    tells reply after pen e (ap returned e ∙ returned-is after _ (after-known number known x (length text)))
