-- A text on the panel, one character at a time: the first character's marks, and then those of the rest. And on a sheet, whose keep and
-- flip are altered each in its way.
use Prim.Native.Nat.{ℕ, suc, ◌+◌, ◌<◌, ◌≤◌}
use mathlib.Core.Path.{◌≡◌, sym, ap, ap₂, ◌∙◌}
use mathlib.Core.Bool.{true, false}
use mathlib.Core.List.{List, ◌∷◌}
use native.Mathlib.Numerals.{add-one}
use lib.ListN.{length, get_or, drop, drop_of_length-le}
use lib.Seq.{drop-cons}
use Rattle.words.specs.declared.Effect.{Effect}
use Rattle.words.specs.Effect.{cleared, altered}
use Rattle.words.proofs.Altering.{AllWords, altered-length, altered-idle, altered-twice}
use Rattle.words.proofs.Clearing.{Carried, altered-over, cleared-over}
use Rattle.fonts.specs.declared.Glyph.{Glyph}
use Rattle.fonts.specs.declared.Named.{Named}
use Rattle.fonts.specs.declared.View.{View}
use Rattle.fonts.specs.Strike.{index, first_strike, strike_in, strike_by, bitmaps_of, map_of, pointers_of, widths_of}
use Rattle.fonts.specs.Face.{Face, picture_of, strike_named, glyph_by, glyph_from, face_from, step_of}
use Rattle.fonts.specs.Kinds.{glyph_in, glyph_tabled, named_in, glyph_named}
use Rattle.fonts.proofs.Struck.{struck-glyph}
use Rattle.fonts.proofs.Mapped.{named-glyph as mapped-glyph}
use Rattle.fonts.proofs.Found.{first-in, found-same, bitmap-behind}
use Rattle.paint.specs.declared.Shape.{Shape}
use Rattle.paint.specs.declared.Stroke.{Stroke}
use Rattle.paint.specs.declared.Pen.{Pen}
use Rattle.paint.specs.Panel.{panel_words}
use Rattle.paint.specs.Sheet.{Sheet, sheet_of, written, joined}
use Rattle.paint.specs.Pen.{pen_after, stroke_words, on_panel, picture_effect, label_effect}

-- ---- what a font shows for a code, by the tables that were made once for the text

module _ (v : View) (font : List ℕ) where
  -- without an index by the pointers and the width entries
  pub found-glyph : (pointers widths : List ℕ) (code : ℕ) {c : ℕ} {g : Glyph} → index v.header ≡ false
      → g ≡ glyph_in v pointers widths code
      → pointers ≡ pointers_of (first_strike v) font → widths ≡ widths_of v.header font → code ≡ c → g ≡ (face_from v font).glyph c
  unfolding face_from glyph_from
  found-glyph pointers widths code {c} single shown p w is =
      shown ∙ (λ t. glyph_in v (p t) (w t) (is t)) ∙ sym (struck-glyph v (strike_in v font) font single (first-in v font) c)

  -- by the table of bitmaps
  pub tabled-glyph : (bitmaps : List ℕ) (code : ℕ) {c : ℕ} {g : Glyph} → g ≡ glyph_tabled v bitmaps font code
      → bitmaps ≡ bitmaps_of v.header font → code ≡ c → g ≡ (face_from v font).glyph c
  unfolding face_from
  tabled-glyph bitmaps code {c} shown table is = shown ∙ (λ t. glyph_tabled v (table t) font (is t)) ∙ found-same v font c

  -- with an index by the map, the width entries and the table of bitmaps
  pub named-glyph : (bitmaps map widths : List ℕ) (n : Named) (code : ℕ) {c : ℕ} {g : Glyph} → index v.header ≡ true
      → g ≡ glyph_named v bitmaps font n → n ≡ named_in v.header map widths code → bitmaps ≡ bitmaps_of v.header font
      → map ≡ map_of v.header font → widths ≡ widths_of v.header font → code ≡ c → g ≡ (face_from v font).glyph c
  unfolding face_from glyph_named
  named-glyph bitmaps map widths n code {c} indexed shown named table m w is =
      shown
      ∙ ap₂ (λ (bitmaps : List ℕ) (n : Named). glyph_named v bitmaps font n) table (named ∙ (λ t. named_in v.header (m t) (w t) (is t)))
      ∙ sym (mapped-glyph v.header (strike_by v (bitmaps_of v.header font) font) font indexed c)
      ∙ found-same v font c

  -- its bitmap begins behind a body's head
  pub glyph-behind : (c : ℕ) → 1 ≤ ((face_from v font).glyph c).bitmap
  unfolding face_from glyph_from glyph_by picture_of strike_named
  glyph-behind c = bitmap-behind v font _

module _ {f : Effect → Effect} (way : Carried f) (face : Face) (k : Stroke) where
  -- lent words with a text on them, and with one picture
  abbrev pub drawn : Pen → List ℕ → List ℕ → List ℕ
  drawn pen text lent = on_panel (λ i. f (label_effect face k pen text i)) k lent

  abbrev pub pictured : Pen → Glyph → List ℕ → List ℕ
  pictured pen g lent = on_panel (λ i. f (picture_effect face.dot k pen g i)) k lent

  first-then-rest : (pen : Pen) (c : ℕ) (rest lent : List ℕ) → stroke_words k ≤ length lent
      → drawn pen (c ∷ rest) lent ≡ drawn (pen_after pen (step_of (face.glyph c))) rest (pictured pen (face.glyph c) lent)
  unfolding label_effect
  first-then-rest pen c rest lent fits =
      let first = picture_effect face.dot k pen (face.glyph c) in
      let later = label_effect face k (pen_after pen (step_of (face.glyph c))) rest in
      ap (λ (e : ℕ → Effect). on_panel e k lent) (λ t i. way.joins (first i) (later i) t)
      ∙ sym (altered-twice (stroke_words k) (λ i. f (first i)) (λ i. f (later i)) lent fits)

  pub pictured-length : (pen : Pen) (g : Glyph) (lent now : List ℕ) → now ≡ pictured pen g lent → length now ≡ length lent
  pictured-length pen g lent now marks = ap length marks ∙ altered-length 0 _ lent (stroke_words k)

  -- what a loop does in a turn
  pub drawn-turn : (text : List ℕ) (i : ℕ) (pen next : Pen) (lent now : List ℕ) → i < length text → stroke_words k ≤ length lent
      → next ≡ pen_after pen (step_of (face.glyph (get_or text i 0)))
      → now ≡ pictured pen (face.glyph (get_or text i 0)) lent
      → drawn pen (drop i text) lent ≡ drawn next (drop (i + 1) text) now
  drawn-turn text i pen next lent now here fits moved marks =
      ap (λ (l : List ℕ). drawn pen l lent) (drop-cons text i 0 here)
      ∙ first-then-rest pen (get_or text i 0) (drop (suc i) text) lent fits
      ∙ (λ t. drawn (sym moved t) (drop (sym (add-one i) t) text) (sym marks t))

  pub drawn-done : (text : List ℕ) (i : ℕ) (pen : Pen) (lent : List ℕ) → length text ≤ i → AllWords lent
      → drawn pen (drop i text) lent ≡ lent
  unfolding label_effect
  drawn-done text i pen lent past words =
      rw (drop_of_length-le text past) (altered-idle 0 (stroke_words k) _ lent words (λ j less. way.still))

-- ---- a label on a sheet: what its effect does to keep and to flip, together

pub sheet-drawn : (s : Shape) (e : ℕ → Effect) (sheet : Sheet) (keep flip : List ℕ)
    → keep ≡ altered 0 (panel_words s) (cleared e) sheet.keep → flip ≡ altered 0 (panel_words s) e sheet.flip
    → sheet_of keep flip ≡ joined s e sheet
unfolding written
sheet-drawn s e sheet keep flip kept flipped =
    ap₂ sheet_of
    (kept ∙ cleared-over (panel_words s) e sheet.keep)
    (flipped ∙ altered-over (panel_words s) e sheet.flip)
