-- Where a picture's left column goes, in the paper's whole numbers: FBBox + offset from the pen in a kerned font, the pen in a plain one.
use Prim.Native.Nat.{ℕ, ◌+◌, ◌/◌, ◌<◌, ◌≤◌}
use mathlib.Core.Path.{◌≡◌, refl}
use mathlib.Core.Bool.{Bool, true, false, cond, ◌&&◌}
use mathlib.Core.List.{List}
use native.Mathlib.Omega.{arith}
use lib.Dec.{ltb}
use lib.IntN.{pos, sub_ℕ, ◌+ℤ◌}
use borrow.Author.Tests.{ltb-true, ltb-false}
use Rattle.words.specs.Word.{word}
use Rattle.words.specs.Refusal.{not_within}
use Rattle.words.specs.Place.{number_at, place_of_word, signed_word}
use Rattle.words.proofs.Altering.{AllWords}
use Rattle.words.proofs.Passed.{within}
use Rattle.words.proofs.Whole.{up, down, same_number, number-at, sum_is, sub_is, pos-is}
use Rattle.fonts.specs.declared.Header.{Header}
use Rattle.fonts.specs.declared.Entry.{Entry}
use Rattle.fonts.specs.Strike.{view_of, header_of, header_by, kerned_format, kerned}
use Rattle.fonts.specs.Entry.{left_of, left_from_pen}
use Rattle.fonts.specs.Reading.{bad_box, font_number}
use Rattle.fonts.specs.Strike.{strike_in}
use Rattle.fonts.specs.Face.{face_of, face_from, glyph_from, glyph_by, picture_of, entry_in, place_of_code}
use Rattle.fonts.proofs.Accepted.{accepted-sound}

-- a word whose place 4 does not refuse, in two's complement
pub word-is : (w : ℕ) → w < 65536 → not_within 1793 2303 (place_of_word w) ≡ false
    → up (signed_word w) + 2048 ≡ down (signed_word w) + place_of_word w
unfolding signed_word
word-is w small good = by-half (ltb w 32768) refl
  where
    by-half : (t : Bool) → ltb w 32768 ≡ t
        → up (cond t (pos w) (sub_ℕ w 65536)) + 2048 ≡ down (cond t (pos w) (sub_ℕ w 65536)) + place_of_word w
    by-half true e =
        let low : w < 32768 = ltb-true w 32768 e in
        let near = within 1793 2303 (place_of_word w) good in
        let plain = pos-is w in
        omega arith
    by-half false e =
        let high : 32768 ≤ w = ltb-false w 32768 e in
        let near = within 1793 2303 (place_of_word w) good in
        let less = sub_is w 65536 in
        omega arith

pub left_is : (h : Header) (e : Entry) → h.fbbox < 65536 → bad_box h ≡ false → number_at (left_of h e) ≡ left_from_pen h e
unfolding left_of left_from_pen bad_box
left_is h e small = by_kind (kerned h)
  where
    offset : ℕ
    offset = e.width / 256

    by_kind : (t : Bool) → (t && not_within 1793 2303 (place_of_word h.fbbox)) ≡ false
        → number_at (cond t (place_of_word h.fbbox + offset) 2048) ≡ cond t (signed_word h.fbbox +ℤ pos offset) (pos 0)
    by_kind true good =
        let box = word-is h.fbbox small good in
        let there = number-at (place_of_word h.fbbox + offset) in
        let sum = sum_is (signed_word h.fbbox) (pos offset) in
        let plain = pos-is offset in
        same_number _ _ (omega arith)
    by_kind false good = refl

fbbox-small : (ws : List ℕ) → AllWords ws → (header_of ws).fbbox < 65536
unfolding header_of header_by
fbbox-small ws words = by_kind (kerned_format (word ws 0))
  where
    by_kind : (t : Bool) → cond t (word ws 4) 0 < 65536
    by_kind true = words 4
    by_kind false = omega arith

-- what an accepted font shows for a code, by the entry that is shown
pub glyph-left : (ws : List ℕ) → AllWords ws → font_number ws ≡ 0 → (c : ℕ)
    → number_at ((face_of ws).glyph c).place
    ≡ left_from_pen (view_of ws).header
    (entry_in (view_of ws).header (strike_in (view_of ws) ws) ws (place_of_code (view_of ws).header (strike_in (view_of ws) ws) ws c))
unfolding face_of face_from glyph_from glyph_by picture_of view_of
glyph-left ws words good c =
    left_is (view_of ws).header _ (fbbox-small ws words) (accepted-sound ws good).box
