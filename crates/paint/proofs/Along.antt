-- The pen along a text, one character at a time.
use Prim.Native.Nat.{ℕ, ◌+◌, ◌-◌, ◌*◌, ◌<◌, ◌≤◌}
use mathlib.Core.Path.{◌≡◌, sym, ap, ap₂, ◌∙◌}
use mathlib.Core.Bool.{false}
use mathlib.Core.List.{List}
use native.Mathlib.Numerals.{add-one}
use native.Mathlib.Omega.{arith}
use lib.IntN.{ℤ}
use lib.ListN.{length, get_or, drop, drop_of_length-le}
use lib.Seq.{drop-cons}
use mir.Syntax.{w32}
use mir.Val.{SFits, to_z, of_z}
use mir.Facts.{to_z-of_z}
use Rattle.fonts.specs.declared.View.{View}
use Rattle.fonts.specs.declared.Step.{Step}
use Rattle.fonts.specs.Strike.{index, codes, first_strike, pointers_of, widths_of}
use Rattle.fonts.specs.Entry.{entry_at, advance_of}
use Rattle.fonts.specs.Face.{face_from}
use Rattle.fonts.specs.Kinds.{step_by}
use Rattle.fonts.proofs.Steps.{step-shown}
use Rattle.paint.specs.declared.Pen.{Pen}
use Rattle.paint.specs.Pen.{pen_at, pen_after, pen_along, steps_in, steps_of, Near}

module _ (step : ℕ → Step) (text : List ℕ) (i : ℕ) (pen : Pen) where
  along-more : i < length text
      → pen_along step pen (drop i text) ≡ pen_along step (pen_after pen (step (get_or text i 0))) (drop (i + 1) text)
  unfolding pen_along
  along-more here = rw (add-one, drop-cons text i 0)

  -- what a loop does in a turn
  pub along-turn : (next : Pen) → i < length text → next ≡ pen_after pen (step (get_or text i 0))
      → pen_along step pen (drop i text) ≡ pen_along step next (drop (i + 1) text)
  along-turn next here moved = along-more here ∙ ap (λ (p : Pen). pen_along step p (drop (i + 1) text)) (sym moved)

  pub along-done : length text ≤ i → pen_along step pen (drop i text) ≡ pen
  unfolding pen_along
  along-done past = rw (drop_of_length-le text past)

-- a pen that was made from a signed number, which passes through 32 bits
pub pen-starts : (pen : Pen) (x : ℤ) → pen ≡ pen_at (to_z w32 (of_z w32 x)) → SFits w32 x → pen ≡ pen_at x
pen-starts pen x made fits = made ∙ ap pen_at (to_z-of_z fits)

-- ---- how far a pen has gone from another in so many steps

pub record Gone (start pen : Pen) (i : ℕ) : Type 0 where
  pub place : pen.place ≤ start.place + 65535 * i
  pub substitutes : pen.substitutes ≤ start.substitutes + i

pub gone-nowhere : (pen : Pen) → Gone pen pen 0
gone-nowhere pen = record { place = omega arith; substitutes = omega arith }

pub gone-on : (start pen next : Pen) (i : ℕ) → Gone start pen i
    → (next.place ≤ pen.place + 65535) × (next.substitutes ≤ pen.substitutes + 1) → Gone start next (i + 1)
gone-on start pen next i gone step =
    record {
      place = omega (arith, gone.place, step.0);
      substitutes = omega (arith, gone.substitutes, step.1);
    }

-- within a text, not past a place that no pen passes
pub gone-near : (start pen : Pen) (i count : ℕ) → (start.place ≤ 65536) × (start.substitutes ≤ 65536) → count ≤ 64 → i ≤ count
    → Gone start pen i → Near pen
gone-near start pen i count begun short here gone =
    (omega (arith, begun.0, gone.place), omega (arith, begun.1, gone.substitutes))

-- ---- steps that are the same over every code

pub along-same : (f g : ℕ → Step) → ((c : ℕ) → f c ≡ g c) → (text : List ℕ) (pen : Pen) → pen_along f pen text ≡ pen_along g pen text
along-same f g same text pen = λ i. pen_along (λ c. same c i) pen text

-- the steps by the tables are those over what a font without an index shows
pub steps-shown : (v : View) (font pointers widths : List ℕ) (dummy : ℕ) → index v.header ≡ false
    → pointers ≡ pointers_of (first_strike v) font → widths ≡ widths_of v.header font
    → dummy ≡ advance_of v.header (entry_at pointers widths (codes v.header))
    → (c : ℕ) → steps_in v.header pointers widths dummy c ≡ steps_of (face_from v font) c
unfolding face_from
steps-shown v font pointers widths dummy single table entries moves c =
    let h = v.header in
    ap (λ (n : ℕ). steps_in h pointers widths n c) moves
    ∙ ap₂ (λ (p w : List ℕ). step_by h (entry_at p w (c - h.min)) (advance_of h (entry_at p w (codes h))) c) table entries
    ∙ step-shown v font single c
