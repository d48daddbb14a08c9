-- `paint::mark_picture` meets its contract: what the loops draw of the picture's reach is flip under the picture, and keep under it by
-- Erase.
-- Assumes nothing.
use mathlib.Core.Path.{◌≡◌, sym, ap, ◌∙◌}
use mathlib.Core.Bool.{true, cond}
use mathlib.Core.List.{List}
use Prim.Native.Nat.{ℕ}
use lib.ListN.{length}
use Rattle.words.specs.declared.Mode.{Mode}
use Rattle.words.specs.declared.Mode.TheVariants.{Erase}
use Rattle.fonts.specs.Face.{dot_of}
use Rattle.paint.specs.Pen.{Drawable, erasing, on_panel, kept_if, picture_effect}
use Rattle.paint.specs.Reach.{rows_drawn, Within}
use Rattle.paint.proofs.Reaches.{within}
use Rattle.paint.proofs.Settling.{other-room, flip-marked, flip-none, keep-marked, keep-none}
use Rattle.paint.proofs.mark_picture.Given.{Over}
use Rattle.paint.proofs.mark_picture.Goals as goal
use Rattle.paint.proofs.mark_picture.Goals.{Else-reach-eq0}

-- what the picture reaches is inside
lies : (g : Over) (c : Else-reach-eq0 g) → Within c.of-reach.result (length c.args.flip.now)
lies g c = within c.args.g c.args.k c.args.pen _ c.requires.drawable c.of-reach.result c.of-reach.ensures.value c.if-reach-eq0.false
    c.of-reach.ensures.near

keep-room : (g : Over) (c : Else-reach-eq0 g) → g.M.Marking.settles ≡ true → Drawable c.args.k (length c.args.keep.now)
keep-room g c settles = other-room c.args.k _ _ c.requires.drawable (c.requires.settling settles)

lies-in-keep : (g : Over) (c : Else-reach-eq0 g) → g.M.Marking.settles ≡ true → Within c.of-reach.result (length c.args.keep.now)
lies-in-keep g c settles = within c.args.g c.args.k c.args.pen _ (keep-room g c settles) c.of-reach.result c.of-reach.ensures.value
    c.if-reach-eq0.false c.of-reach.ensures.near

kept : (g : Over) (c : Else-reach-eq0 g) (after : List ℕ)
    → after ≡ cond g.M.Marking.settles (rows_drawn c.args.font.now c.of-reach.result Erase c.of-reach.result.rows c.args.keep.now)
    c.args.keep.now
    → after ≡ kept_if g.M.Marking.settles (picture_effect (dot_of c.args.font.now) (erasing c.args.k) c.args.pen c.args.g) c.args.k
    c.args.keep.now
kept g c after drew =
    keep-marked c.args.font.now c.args.k c.args.pen c.args.g (λ i. (c.type_inv.font i).fits) c.requires.glyph.1 c.of-reach.result
    c.of-reach.ensures.value g.M.Marking.settles c.args.keep.now (λ i. (c.type_inv.keep i).fits) (keep-room g c) after drew

flipped : (g : Over) (c : Else-reach-eq0 g) (after : List ℕ)
    → after ≡ rows_drawn c.args.font.now c.of-reach.result g.M.Marking.mode c.of-reach.result.rows c.args.flip.now
    → after ≡ on_panel (picture_effect (dot_of c.args.font.now) c.args.k c.args.pen c.args.g) c.args.k c.args.flip.now
flipped g c after drew =
    flip-marked c.args.font.now c.args.k c.args.pen c.args.g (λ i. (c.type_inv.font i).fits) c.requires.glyph.1 c.of-reach.result
    c.of-reach.ensures.value c.args.flip.now (λ i. (c.type_inv.flip i).fits) c.requires.drawable after
    (drew ∙ ap (λ (m : Mode). rows_drawn c.args.font.now c.of-reach.result m c.of-reach.result.rows c.args.flip.now) (sym c.requires.mode))

pub returns-then-reach-eq0 : goal.returns-then-reach-eq0
returns-then-reach-eq0 g c = record {
  keep = keep-none c.args.font.now c.args.k c.args.pen c.args.g (λ i. (c.type_inv.font i).fits) c.requires.glyph.1 _
      c.of-reach.ensures.value g.M.Marking.settles c.args.keep.now (λ i. (c.type_inv.keep i).fits)
      (λ settles. other-room c.args.k _ _ c.requires.drawable (c.requires.settling settles)) c.if-reach-eq0.true;
  flip = flip-none c.args.font.now c.args.k c.args.pen c.args.g (λ i. (c.type_inv.font i).fits) c.requires.glyph.1 _
      c.of-reach.ensures.value c.args.flip.now (λ i. (c.type_inv.flip i).fits) c.requires.drawable c.if-reach-eq0.true;
}

pub spans-requires : goal.spans-requires
spans-requires g c = let inside = lies g (goal.at.spans-requires g c).Else-reach-eq0 in
    record { le_rows = (inside.0, inside.1, inside.2); source_bound = (inside.5, inside.6) }

pub mark_narrow-requires : goal.mark_narrow-requires
mark_narrow-requires g c = let m = (goal.at.mark_narrow-requires g c).Else-reach-eq0 in
    record { within = lies g m; settling = lies-in-keep g m; narrow = sym c.spans.ensures ∙ c.if-spans.true }

pub returns-then-spans : goal.returns-then-spans
returns-then-spans g c = let m = (goal.at.returns-then-spans g c).Else-reach-eq0 in
    record { keep = kept g m _ c.mark_narrow.ensures.keep; flip = flipped g m _ c.mark_narrow.ensures.flip }

pub mark_other-requires : goal.mark_other-requires
mark_other-requires g c = let m = (goal.at.mark_other-requires g c).Else-reach-eq0 in
    record { within = lies g m; settling = lies-in-keep g m }

pub returns : goal.returns
returns g c = let m = (goal.at.returns g c).Else-reach-eq0 in
    record { keep = kept g m _ c.mark_other.ensures.keep; flip = flipped g m _ c.mark_other.ensures.flip }
