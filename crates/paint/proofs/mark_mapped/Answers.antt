use Prim.Native.Nat.{◌≤◌}
use mathlib.Core.Path.{◌≡◌, ap, ◌∙◌}
use mathlib.Core.Bool.{true}
use native.Mathlib.Omega.{arith}
use lib.ListN.{length, get_or}
use Rattle.words.specs.Word.{table}
use Rattle.fonts.specs.Strike.{bitmaps_of}
use Rattle.fonts.specs.Face.{face_from}
use Rattle.paint.specs.Pen.{pen_after, stroke_words, Near, Drawable}
use Rattle.paint.proofs.Accepted.{same-room}
use Rattle.paint.proofs.Along.{gone-near}
use Rattle.paint.proofs.Labels.{named-glyph, glyph-behind}
use Rattle.paint.proofs.Texts.{begun, so-far, last-is, keep-is, flip-is}
use Rattle.paint.proofs.mark_mapped.Given.{Over}
use Rattle.paint.proofs.mark_mapped.Goals as goal
use Rattle.paint.proofs.mark_mapped.Goals.{After-named-g, At-loop-byte}

near : (g : Over) (b : At-loop-byte g) → b.loop-byte.byte-index ≤ length b.args.text.now → Near b.loop-byte.pen
near g b here =
    gone-near _ b.loop-byte.pen b.loop-byte.byte-index (length b.args.text.now) b.requires.starting.0 b.requires.short here
    b.loop-byte.invariant.gone

-- what can be drawn on when the call begins can be drawn on now
drawable : (g : Over) (b : At-loop-byte g) → Drawable b.args.k (length b.loop-byte.flip)
drawable g b = same-room b.args.k _ (length b.loop-byte.flip) b.loop-byte.auto.flip b.requires.drawable

keep-room : (g : Over) (b : At-loop-byte g) → g.M.Marking.settles ≡ true → stroke_words b.args.k ≤ length b.loop-byte.keep
keep-room g b settles = rw b.loop-byte.auto.keep (b.requires.settling settles)

glyph : (g : Over) (shown : After-named-g g) → shown.named-g.result
    ≡ (face_from shown.args.v shown.args.font.now).glyph (get_or shown.args.text.now shown.loop-byte.byte-index 0)
unfolding bitmaps_of table
glyph g shown =
    named-glyph shown.args.v shown.args.font.now _ _ _ _ _ shown.requires.starting.1 shown.named-g.ensures
    shown.of-n.ensures shown.find_bitmaps.ensures
    shown.map-map.ensures.words shown.widths-widths.ensures.words shown.code.ensures

behind : (g : Over) (shown : After-named-g g) → 1 ≤ shown.named-g.result.bitmap
behind g shown =
    rw (glyph g shown) (glyph-behind shown.args.v shown.args.font.now (get_or shown.args.text.now shown.loop-byte.byte-index 0))

pub loop-byte-init : goal.loop-byte-init
loop-byte-init g c = begun _ _ _ _ _ _ _ (λ i. (c.type_inv.keep i).fits) (λ i. (c.type_inv.flip i).fits)

pub mark_named-requires : goal.mark_named-requires
mark_named-requires g c = let b = (goal.at.mark_named-requires g c).At-loop-byte in
    record {
      drawable = drawable g b;
      settling = keep-room g b;
      glyph = ((near g b (omega arith)).0, behind g (goal.at.mark_named-requires g c).After-named-g);
      mode = c.requires.mode;
    }

pub after-pen-requires : goal.after-pen-requires
after-pen-requires g c =
    let close = near g (goal.at.after-pen-requires g c).At-loop-byte (omega arith) in
    (omega (arith, close.0), omega (arith, close.1))

pub loop-byte-preserved : goal.loop-byte-preserved
unfolding face_from
loop-byte-preserved g c = let b = (goal.at.loop-byte-preserved g c).At-loop-byte in
    so-far _ _ _ _ _ _ _ _ _ _ _ b.loop-byte.invariant c.loop-byte-test.true _ (glyph g (goal.at.loop-byte-preserved g c).After-named-g) _
    (c.after-pen.ensures.value ∙ ap (pen_after c.loop-byte.pen) c.step.ensures) _ _ (λ n. (c.type_inv.keep n).fits)
    (λ n. (c.type_inv.flip n).fits) (keep-room g b) (drawable g b).6 c.mark_named.ensures.keep c.mark_named.ensures.flip
    c.after-pen.ensures.near

pub returns : goal.returns
returns g c =
    let past = c.loop-byte-test.false in
    let so = c.loop-byte.invariant in record {
      value = last-is _ _ _ _ _ _ _ _ _ _ _ so past;
      near = near g (goal.at.returns g c).At-loop-byte (omega arith);
      keep = keep-is _ _ _ _ _ _ _ _ _ _ _ so past;
      flip = flip-is _ _ _ _ _ _ _ _ _ _ _ so past;
    }
