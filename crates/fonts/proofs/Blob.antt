-- P1: where the dummy of a plain file without an index has no columns an absent code draws nothing, moves the pen by 0 and counts as a
-- substitute; and no such file is refused by 7.
use Prim.Native.Nat.{ℕ}
use mathlib.Core.Path.{◌≡◌}
use mathlib.Core.Bool.{false, ◌&&◌, and-false}
use mathlib.Core.List.{List}
use mathlib.Core.Logic.{⊎_elim}
use native.Mathlib.Omega.{arith}
use lib.Dec.{leb}
use lib.ListN.{length}
use borrow.Author.Tests.{lt-leb, eq-eqb}
use Rattle.words.specs.Refusal.{first_of, or_else}
use Rattle.fonts.specs.declared.Entry.{Entry}
use Rattle.fonts.specs.Strike.{header_of, view_of, kerned, index, strike_in}
use Rattle.fonts.specs.Entry.{name_in, marked, struck, columns_of, advance_of}
use Rattle.fonts.specs.Reading.{nameless, no_dummy, table_number, front_number, bodies_number, number_by, font_number}
use Rattle.fonts.specs.Face.{in_range, picture_of, glyph_from, face_from, face_of}
use Rattle.fonts.specs.Kinds.{there, glyph_over, own_entry, dummy_entry}
use Rattle.fonts.specs.Blob.{NoBlob, Absent, Blank}
use Rattle.fonts.proofs.Struck.{struck-glyph}
use Rattle.fonts.proofs.Found.{first-in}
use Rattle.fonts.proofs.Dots.{dot-beside}

-- "7 stays for kerned files only"
pub plain-number : (ws : List ℕ) → index (header_of ws) ≡ false → kerned (header_of ws) ≡ false
    → font_number ws ≡ or_else (front_number (header_of ws) (length ws)) (or_else (bodies_number (header_of ws) ws (header_of ws).bodies) 0)
unfolding font_number number_by table_number first_of nameless no_dummy name_in marked
plain-number ws single plain = rw (single, plain)

module _ (ws : List ℕ) (font : NoBlob ws) (c : ℕ) where
  abbrev own : Entry
  own = own_entry (view_of ws) ws c

  abbrev dummy : Entry
  dummy = dummy_entry (view_of ws) ws

  absent : Absent ws c → there (view_of ws).header own c ≡ false
  unfolding there in_range struck
  absent =
      let h = (view_of ws).header in
      ⊎_elim (λ below. rw (lt-leb h.min c below))
      (⊎_elim
      (λ above. rw (lt-leb c h.max above, and-false (leb h.min c)))
      (λ equal. rw (font.plain, eq-eqb own.left own.right equal) (and-false (leb h.min c && leb c h.max))))

  bare-columns : columns_of dummy ≡ 0
  unfolding columns_of
  bare-columns = let edges = font.bare in omega arith

  shown : (face_of ws).glyph c ≡ glyph_over (view_of ws) own dummy c
  unfolding face_of face_from glyph_from
  shown = struck-glyph (view_of ws) (strike_in (view_of ws) ws) ws font.single (first-in (view_of ws) ws) c

  no-columns : Absent ws c → ((face_of ws).glyph c).columns ≡ 0
  unfolding glyph_over picture_of
  no-columns none = rw shown (rw (absent none, bare-columns))

  pub absent-blank : Absent ws c → Blank (face_of ws) c
  unfolding face_of face_from glyph_over picture_of advance_of
  absent-blank none =
      let narrow = no-columns none in
      record {
        nothing = λ r j. dot-beside ws ((face_of ws).glyph c) r j (omega arith);
        still = rw shown (rw (absent none, font.plain, bare-columns));
        counted = rw shown (rw (absent none));
      }
