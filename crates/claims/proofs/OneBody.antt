-- P3: the font with an index of one body that is made of a strike is accepted, shows what the strike shows, and paints, gathers and
-- measures every label as the strike does.
use Prim.Native.Nat.{ℕ, zero, suc, ◌+◌, ◌-◌, ◌*◌, ◌/◌, ◌%◌, ◌<◌, ◌≤◌}
use mathlib.Core.Path.{◌≡◌, refl, sym, ap, ap₂, ◌∙◌}
use mathlib.Core.Bool.{Bool, true, false, cond, not, ◌&&◌, ◌||◌, true≢false}
use mathlib.Core.List.{List, []}
use native.Mathlib.Omega.{arith}
use lib.Dec.{eqb, ltb, leb}
use lib.IntN.{ℤ}
use lib.ListN.{length, take, drop}
use borrow.Author.Tests.{ltb-true, ltb-false, leb-true, le-ltb, le-leb, eq-eqb, ne_eqb}
use Rattle.words.specs.Word.{word, bit_of}
use Rattle.words.specs.Place.{place_of_word}
use Rattle.words.proofs.Passed.{neither, both, stages-passed}
use Rattle.words.proofs.Altering.{AllWords}
use Rattle.fonts.specs.declared.Header.{Header}
use Rattle.fonts.specs.declared.Body.{Body}
use Rattle.fonts.specs.declared.Strike.{Strike}
use Rattle.fonts.specs.declared.View.{View}
use Rattle.fonts.specs.declared.Entry.{Entry}
use Rattle.fonts.specs.declared.Glyph.{Glyph}
use Rattle.fonts.specs.Strike.{header_of, kerned, codes, height, first_at, body_of, view_of, first_strike, no_strike, strike_at, strike_in}
use Rattle.fonts.specs.Strike.{pointers_of, widths_of}
use Rattle.fonts.specs.Entry.{name_in, entry_with, marked, struck, present, columns_of, left_of, advance_of}
use Rattle.fonts.specs.Reading.{bad_codes, number_by, font_number, accepted}
use Rattle.fonts.specs.Face.{in_range, picture_of, strike_named, entry_in, exists, place_of_code, glyph_by, glyph_from, step_of, dot_of}
use Rattle.fonts.specs.Face.{face_from}
use Rattle.fonts.specs.Face.{face_of, row_of}
use Rattle.paint.specs.declared.Shape.{Shape}
use Rattle.paint.specs.declared.Label.{Label}
use Rattle.paint.specs.Sheet.{Sheet}
use Rattle.paint.specs.Label.{call_of, reply_of, paint_after, join_with, measure_of}
use Rattle.sheets.specs.Sheet.{gather_after}
use Rattle.counts.specs.Calls.{paint_counted}
use Rattle.claims.proofs.Made.{front-passed, only-name, and_none, made_header, made_strike, one-body, first'-is, kerned-is, index_is}
use Rattle.claims.proofs.Made.{word-is, rest-is, header_is, body_is, pointers-are, widths-are, name-is, made-accepted, made-refused}
use Rattle.claims.proofs.Made.{made-words}
use Rattle.claims.proofs.Faces.{Alike, join-alike, paint-alike, reply-alike, gather-alike, measure-alike, counted-alike}
use Rattle.claims.proofs.Compute.{computing}
use Rattle.claims.proofs.Tables.{Hold}
use Rattle.claims.specs.Cases.{small_font}
use Rattle.claims.specs.Index.{small_index}
use Rattle.claims.specs.OneBody.{indexed, later, Single, Few, NoneEqual, moved_by, plain_pair, plain_pair_index, bare_codes, made_files}
use Rattle.claims.specs.OneBody.{made_numbers, made_seen}

-- Codes that are not all from 0 to 255 leave a code byte for the dummy.
pub few-codes : (ws : List ℕ) → font_number ws ≡ 0 → ((header_of ws).min ≡ 0 → (header_of ws).max ≡ 255 → ⊥) → Few ws
unfolding font_number number_by bad_codes
few-codes ws good some_left =
    let h = header_of ws in
    let range = neither (ltb h.max h.min) (ltb 255 h.max) (front-passed h (length ws) (stages-passed _ _ good).0).range in
    let most = ltb-false 255 h.max range.1 in
    by_codes (ltb 255 (codes h)) refl most
  where
    by_codes : (t : Bool) → ltb 255 (codes (header_of ws)) ≡ t → (header_of ws).max ≤ 255 → codes (header_of ws) ≤ 255
    by_codes true e most = let many = ltb-true 255 (codes (header_of ws)) e in absurd (some_left (omega arith) (omega arith))
    by_codes false e most = ltb-false 255 (codes (header_of ws)) e

-- The file that is made of a strike of 16-bit words is one of 16-bit words.
pub one-body-words : (ws : List ℕ) → Single ws → Few ws → AllWords ws → AllWords (indexed ws)
one-body-words = made-words

-- It is accepted.
pub one-body-accepted : (ws : List ℕ) → Single ws → Few ws → font_number (indexed ws) ≡ 0
one-body-accepted = made-accepted

-- Of the codes 0 to 255 no code byte is left for the dummy: the file is refused 16.
pub one-body-refused : (ws : List ℕ) → Single ws → codes (header_of ws) ≡ 256 → font_number (indexed ws) ≡ 16
one-body-refused = made-refused

-- a row of a strike, where it is known whether the font is accepted
abbrev row_by : Bool → Strike → List ℕ → ℕ → List ℕ
row_by t s ws r = cond (t && ltb r (height s.body)) (take s.body.raster (drop (s.bitmap + r * s.body.raster) ws)) []

module _ (ws : List ℕ) (from : Single ws) (few : Few ws) where
  abbrev h : Header
  h = header_of ws

  abbrev b : Body
  b = body_of ws (first_at h)

  abbrev s : Strike
  s = strike_at ws (first_at h)

  abbrev ws' : List ℕ
  ws' = indexed ws

  abbrev h' : Header
  h' = made_header ws

  abbrev s' : Strike
  s' = made_strike ws

  abbrev v' : View
  v' = record { header = h'; body = b }

  view-is : view_of ws' ≡ v'
  unfolding view_of
  view-is =
      let body : body_of ws' (first_at (header_of ws')) ≡ b =
      ap (λ (header : Header). body_of ws' (first_at header)) (header_is ws from) ∙ body_is ws from in
      λ i. record { header = header_is ws from i; body = body i }

  abbrev strikes : ℕ → Strike
  strikes = strike_in (view_of ws) ws

  abbrev strikes' : ℕ → Strike
  strikes' = strike_in v' ws'

  -- what the tables of the strike say at a place
  abbrev entry : ℕ → Entry
  entry k = entry_with (pointers_of s ws) k (word (widths_of h ws) k)

  strike-own : (k : ℕ) → strike_named h strikes ws k ≡ s
  unfolding strike_named strike_in first_strike view_of
  strike-own k = rw (only-name h ws from.single k)

  entry-own : (k : ℕ) → entry_in h strikes ws k ≡ entry k
  unfolding entry_in
  entry-own k = rw (strike-own k, only-name h ws from.single k)

  strike-named : (k : ℕ) → k ≤ codes h → strike_named h' strikes' ws' k ≡ s'
  unfolding strike_named strike_in first_strike
  strike-named k low = rw (name-is ws from few k low)

  entry_named : (k : ℕ) → k ≤ codes h → entry_in h' strikes' ws' k ≡ entry k
  unfolding entry_in
  entry_named k low = rw (strike-named k low, name-is ws from few k low, pointers-are ws from, widths-are ws from)

  range-is : (c : ℕ) → in_range h' c ≡ in_range h c
  unfolding in_range
  range-is c = refl

  exists-low : (c : ℕ) → in_range h c ≡ true → c - h.min < codes h
  unfolding in_range
  exists-low c there =
      let range = both (leb h.min c) (leb c h.max) there in
      let least = leb-true h.min c range.0 in
      let most = leb-true c h.max range.1 in
      omega arith

  place-low : (c : ℕ) → place_of_code h strikes ws c ≤ codes h
  unfolding place_of_code exists
  place-low c = by-range (in_range h c) (present h (name_in h ws (c - h.min)).missing (entry_in h strikes ws (c - h.min))) refl
    where
      by-range : (t u : Bool) → in_range h c ≡ t → cond (t && u) (c - h.min) (codes h) ≤ codes h
      by-range true true there = let low = exists-low c there in omega arith
      by-range true false there = omega arith
      by-range false u there = omega arith

  picture-moved : (e : Entry) (t : Bool) → picture_of h' s' e t ≡ moved_by (later ws) (picture_of h s e t)
  unfolding picture_of left_of advance_of
  picture-moved e t =
      let bitmap : first_at h' + 5 ≡ first_at h + 5 + later ws = omega (arith, first'-is ws from) in
      λ i.
      record {
        bitmap = bitmap i;
        raster = b.raster;
        first = e.left;
        columns = columns_of e;
        ascent = b.ascent;
        height = height b;
        place = cond (kerned-is ws from i) (place_of_word h.fbbox + e.width / 256) 2048;
        advance = cond (kerned-is ws from i) (e.width % 256) (columns_of e);
        substitute = t;
      }

  glyph-own : (c : ℕ) → (face_of ws).glyph c ≡ picture_of h s (entry (place_of_code h strikes ws c)) (not (exists h strikes ws c))
  unfolding face_of face_from glyph_from glyph_by view_of
  glyph-own c =
      let k = place_of_code h strikes ws c in
      ap₂ (λ (strike : Strike) (e : Entry). picture_of h strike e (not (exists h strikes ws c))) (strike-own k) (entry-own k)

  dot-moved : (g : Glyph) → g.bitmap ≡ first_at h + 5 → (r j : ℕ) → dot_of ws' (moved_by (later ws) g) r j ≡ dot_of ws g r j
  unfolding dot_of
  dot-moved g at r j =
      let k : ℕ = r * g.raster + (g.first + j) / 16 in
      let there : g.bitmap + later ws + r * g.raster + (g.first + j) / 16 ≡ first_at h + later ws + (5 + k) = omega (arith, at) in
      let here : first_at h + (5 + k) ≡ g.bitmap + r * g.raster + (g.first + j) / 16 = omega (arith, at) in
      ap (λ (w : ℕ). cond (ltb r g.height && ltb j g.columns) (bit_of w ((g.first + j) % 16)) 0)
      (ap (λ (i : ℕ). word ws' i) there ∙ word-is ws from (5 + k) ∙ ap (λ (i : ℕ). word ws i) here)

  -- a body other than the first has no rows
  not_there : (k : ℕ) → 1 ≤ k → strikes k ≡ no_strike
  unfolding strike_in view_of
  not_there k some = rw (ne_eqb k 0 (λ e. omega arith), one-body ws from, le-ltb k 1 some)

  not-there' : (k : ℕ) → 1 ≤ k → strikes' k ≡ no_strike
  unfolding strike_in
  not-there' k some = rw (ne_eqb k 0 (λ e. omega arith), le-ltb k 1 some)

  rows_are : (t : Bool) (k r : ℕ) → row_by t (strikes' k) ws' r ≡ row_by t (strikes k) ws r
  unfolding strike_in first_strike view_of
  rows_are t zero r =
      let there : first_at h' + 5 + r * b.raster ≡ first_at h + later ws + (5 + r * b.raster) = omega (arith, first'-is ws from) in
      let here : first_at h + (5 + r * b.raster) ≡ first_at h + 5 + r * b.raster = omega arith in
      ap (λ (row : List ℕ). cond (t && ltb r (height b)) (take b.raster row) [])
      (ap (λ (at : ℕ). drop at ws') there ∙ rest-is ws from (5 + r * b.raster) ∙ ap (λ (at : ℕ). drop at ws) here)
  rows_are t (suc k) r =
      rw (not-there' (suc k) (omega arith), not_there (suc k) (omega arith), le-ltb r 0 (omega arith), and_none t) refl

  -- Its rows are the strike's: those of body 0, and of no other.
  pub one-body-row : (k r : ℕ) → row_of (indexed ws) k r ≡ row_of ws k r
  unfolding row_of accepted
  one-body-row k r =
      ap₂ (λ (v : View) (n : ℕ). row_by (eqb n 0) (strike_in v ws' k) ws' r) view-is (one-body-accepted ws from few ∙ sym from.good)
      ∙ rows_are (eqb (font_number ws) 0) k r

  -- a code from min to max, by its place
  module _ (k : ℕ) (low : k < codes h) where
    place-of : h.min + k - h.min ≡ k
    place-of = omega arith

    in-range : in_range h (h.min + k) ≡ true
    unfolding in_range font_number number_by bad_codes
    in-range =
        let codes-good = (front-passed h (length ws) (stages-passed _ _ from.good).0).range in
        let range = neither (ltb h.max h.min) (ltb 255 h.max) codes-good in
        let some = ltb-false h.max h.min range.0 in
        ap₂ ◌&&◌ (le-leb h.min (h.min + k) (omega arith)) (le-leb (h.min + k) h.max (omega arith))

    exists-own : exists h strikes ws (h.min + k) ≡ present h false (entry k)
    unfolding exists
    exists-own = rw (in-range, place-of, only-name h ws from.single k, entry-own k)

    exists-named : exists h' strikes' ws' (h.min + k) ≡ present h' false (entry k)
    unfolding exists
    exists-named = rw (range-is (h.min + k), in-range, place-of, name-is ws from few k (omega arith), entry_named k (omega arith))

    absent-own : kerned h ≡ false
        → word (pointers_of (first_strike (view_of ws)) ws) k ≡ word (pointers_of (first_strike (view_of ws)) ws) (k + 1)
        → present h false (entry k) ≡ false
    unfolding present struck first_strike view_of
    absent-own plain equal = rw (from.single, plain, eq-eqb (entry k).left (entry k).right equal)

    present-named : kerned h ≡ false → present h' false (entry k) ≡ true
    unfolding present marked
    present-named plain = rw (index_is ws from, kerned-is ws from, plain)

    -- Where a code of a plain strike has equal pointers the two differ: by the strike it is a substitute, and by the file it is none.
    pub one-body-differs : kerned (header_of ws) ≡ false
        → word (pointers_of (first_strike (view_of ws)) ws) k ≡ word (pointers_of (first_strike (view_of ws)) ws) (k + 1)
        → (((face_of ws).glyph ((header_of ws).min + k)).substitute ≡ true)
        × (((face_of (indexed ws)).glyph ((header_of ws).min + k)).substitute ≡ false)
    unfolding face_of face_from glyph_from glyph_by picture_of view_of
    one-body-differs plain equal =
        let c = h.min + k in (
          ap not (exists-own ∙ absent-own plain equal),
          ap (λ (v : View). not (exists v.header (strike_in v ws') ws' c)) view-is ∙ ap not (exists-named ∙ present-named plain),
        )

  module _ (none : NoneEqual ws) where
    present-is : (k : ℕ) → k < codes h → present h' false (entry k) ≡ present h false (entry k)
    unfolding present marked struck first_strike view_of
    present-is k low = rw (index_is ws from, kerned-is ws from, from.single) (by_kind (kerned h) refl)
      where
        left : ℕ
        left = word (pointers_of s ws) k

        right : ℕ
        right = word (pointers_of s ws) (k + 1)

        width : ℕ
        width = word (widths_of h ws) k

        by_kind : (t : Bool) → kerned h ≡ t
            → not (false || (t && eqb width 0xFFFF)) ≡ cond t (not (eqb width 0xFFFF)) (not (eqb left right))
        by_kind true is = refl
        by_kind false is = ap not (sym (ne_eqb left right (none is k low)))

    exists-is : (c : ℕ) → exists h' strikes' ws' c ≡ exists h strikes ws c
    unfolding exists
    exists-is c =
        ap (λ (t : Bool). t && present h' (name_in h' ws' (c - h.min)).missing (entry_in h' strikes' ws' (c - h.min))) (range-is c)
        ∙ by-range (in_range h c) refl
      where
        k : ℕ
        k = c - h.min

        by-range : (t : Bool) → in_range h c ≡ t
            → (t && present h' (name_in h' ws' k).missing (entry_in h' strikes' ws' k))
            ≡ (t && present h (name_in h ws k).missing (entry_in h strikes ws k))
        by-range true there =
            let less = exists-low c there in
            rw (name-is ws from few k (omega arith), only-name h ws from.single k, entry_named k (omega arith), entry-own k)
            (present-is k less)
        by-range false there = refl

    place_is : (c : ℕ) → place_of_code h' strikes' ws' c ≡ place_of_code h strikes ws c
    unfolding place_of_code
    place_is c = rw (exists-is c)

    -- It shows for every code what the strike shows: the picture with the same raster, columns, ascent, height, place, advance and
    -- substitute, whose bitmap begins as many words later as the body does.
    pub one-body-glyph : (c : ℕ) → (face_of (indexed ws)).glyph c ≡ moved_by (later ws) ((face_of ws).glyph c)
    unfolding face_of face_from glyph_from glyph_by
    one-body-glyph c =
        let k = place_of_code h strikes ws c in
        let t = exists h strikes ws c in
        ap (λ (v : View). glyph_by v.header (strike_in v ws') ws' c) view-is
        ∙ (λ i. picture_of h' (strike_named h' strikes' ws' (place_is c i)) (entry_in h' strikes' ws' (place_is c i)) (not (exists-is c i)))
        ∙ ap₂ (λ (strike : Strike) (e : Entry). picture_of h' strike e (not t))
        (strike-named k (place-low c)) (entry_named k (place-low c))
        ∙ picture-moved (entry k) (not t)
        ∙ ap (moved_by (later ws)) (sym (glyph-own c))

    -- And its dots are the strike's.
    pub one-body-dot : (c r j : ℕ)
        → (face_of (indexed ws)).dot ((face_of (indexed ws)).glyph c) r j ≡ (face_of ws).dot ((face_of ws).glyph c) r j
    unfolding face_of face_from picture_of
    one-body-dot c r j =
        ap (λ (g : Glyph). dot_of ws' g r j) (one-body-glyph c)
        ∙ dot-moved ((face_of ws).glyph c) (ap (λ (g : Glyph). g.bitmap) (glyph-own c)) r j

    -- ---- labels

    faces-alike : Alike (face_of (indexed ws)) (face_of ws)
    faces-alike =
        record {
          ascent = λ c. ap (λ (g : Glyph). g.ascent) (one-body-glyph c);
          place = λ c. ap (λ (g : Glyph). g.place) (one-body-glyph c);
          step = λ c. ap step_of (one-body-glyph c);
          dot = one-body-dot;
        }

    numbers-same : font_number (indexed ws) ≡ font_number ws
    numbers-same = one-body-accepted ws from few ∙ sym from.good

    -- A label by it leaves the panel that it leaves by the strike, word by word and past the panel too.
    pub one-body-paint : (shape : Shape) (l : Label) (text panel : List ℕ)
        → paint_after shape (call_of (indexed ws) l text) panel ≡ paint_after shape (call_of ws l text) panel
    one-body-paint = paint-alike (indexed ws) ws faces-alike numbers-same

    -- With the same reply, by whatever slices are lent.
    pub one-body-reply : (shape : Shape) (lent : List ℕ) (l : Label) (text : List ℕ)
        → reply_of shape lent (call_of (indexed ws) l text) ≡ reply_of shape lent (call_of ws l text)
    one-body-reply = reply-alike (indexed ws) ws faces-alike numbers-same

    -- Gathered, it leaves the same sheet.
    pub one-body-gather : (shape : Shape) (l : Label) (text : List ℕ) (sheet : Sheet)
        → gather_after shape (call_of (indexed ws) l text) sheet ≡ gather_after shape (call_of ws l text) sheet
    one-body-gather = gather-alike (indexed ws) ws faces-alike numbers-same

    -- So it does where the font has been read before.
    pub one-body-join : (shape : Shape) (l : Label) (text : List ℕ) (sheet : Sheet)
        → join_with (face_of (indexed ws)) shape l text sheet ≡ join_with (face_of ws) shape l text sheet
    one-body-join = join-alike (face_of (indexed ws)) (face_of ws) faces-alike

    -- Measured, it gives the same reply.
    pub one-body-measure : (x : ℤ) (text : List ℕ) → measure_of (indexed ws) x text ≡ measure_of ws x text
    one-body-measure = measure-alike (indexed ws) ws faces-alike numbers-same

    -- Painted with counts, it gives the same number, panel and counts.
    pub one-body-counted : (shape : Shape) (l : Label) (text panel counts : List ℕ)
        → paint_counted shape (call_of (indexed ws) l text) panel counts ≡ paint_counted shape (call_of ws l text) panel counts
    one-body-counted = counted-alike (indexed ws) ws faces-alike numbers-same

-- ---- by computing

-- The files that are made of some strikes, by hand; which of them are accepted; and what is seen of them.
pub made-files-hold : Hold made_files
unfolding Hold computing
made-files-hold = refl

pub made-numbers-hold : Hold made_numbers
unfolding Hold computing
made-numbers-hold = refl

pub made-seen-hold : Hold made_seen
unfolding Hold computing
made-seen-hold = refl

-- The paper's small font meets what is supposed: every label by the index that was written by hand is painted as by the small font.
small-single : Single small_font
unfolding computing
small-single = record { good = refl; single = refl }

small-few : Few small_font
unfolding computing
small-few = omega arith

small-kerned : NoneEqual small_font
unfolding computing
small-kerned plain = absurd (true≢false plain)

small-made : indexed small_font ≡ small_index
unfolding computing
small-made = refl

pub small-index-paint : (shape : Shape) (l : Label) (text panel : List ℕ)
    → paint_after shape (call_of small_index l text) panel ≡ paint_after shape (call_of small_font l text) panel
small-index-paint shape l text panel =
    ap (λ (font : List ℕ). paint_after shape (call_of font l text) panel) (sym small-made)
    ∙ one-body-paint small_font small-single small-few small-kerned shape l text panel

-- So does the plain strike, no code of which has equal pointers.
pair-single : Single plain_pair
unfolding computing
pair-single = record { good = refl; single = refl }

pair-few : Few plain_pair
unfolding computing
pair-few = omega arith

pair-none : NoneEqual plain_pair
unfolding computing
pair-none plain zero less same = absurd (omega arith)
pair-none plain (suc zero) less same = absurd (omega arith)
pair-none plain (suc (suc k)) less same = absurd (omega arith)

pair_made : indexed plain_pair ≡ plain_pair_index
unfolding computing
pair_made = refl

pub plain-index-paint : (shape : Shape) (l : Label) (text panel : List ℕ)
    → paint_after shape (call_of plain_pair_index l text) panel ≡ paint_after shape (call_of plain_pair l text) panel
plain-index-paint shape l text panel =
    ap (λ (font : List ℕ). paint_after shape (call_of font l text) panel) (sym pair_made)
    ∙ one-body-paint plain_pair pair-single pair-few pair-none shape l text panel

-- The codes 0 to 254 are the most that leave a code byte for the dummy.
most-single : Single (bare_codes 0 254)
unfolding computing
most-single = record { good = refl; single = refl }

most-few : Few (bare_codes 0 254)
unfolding computing
most-few = omega arith

all-single : Single (bare_codes 0 255)
unfolding computing
all-single = record { good = refl; single = refl }

all_codes : codes (header_of (bare_codes 0 255)) ≡ 256
unfolding computing
all_codes = refl

pub code-limits : (font_number (indexed (bare_codes 0 254)) ≡ 0) × (font_number (indexed (bare_codes 0 255)) ≡ 16)
code-limits = (one-body-accepted (bare_codes 0 254) most-single most-few, one-body-refused (bare_codes 0 255) all-single all_codes)
