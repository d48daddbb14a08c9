-- `paint::join_text` meets its contract: what the label's effect clears is no longer kept, by Paint and by Erase; by Invert keep stays.
-- Assumes nothing.
use Prim.Native.Nat.{ℕ}
use mathlib.Core.Path.{ap}
use Rattle.words.specs.declared.Mode.{Mode}
use Rattle.words.specs.Effect.{effect_of, clearing}
use Rattle.words.proofs.Altering.{AllWords}
use Rattle.fonts.specs.Face.{face_from}
use Rattle.paint.proofs.Settling.{other-room, kept-by-clearing, kept-by-invert}
use Rattle.paint.proofs.join_text.Goals as goal

pub mark_text-requires : goal.mark_text-requires
mark_text-requires c = record {
  drawable = other-room c.args.k _ _ c.requires.drawable c.requires.flip_room;
  settling = λ settles. c.requires.drawable.6;
  starting = c.requires.starting;
  short = c.requires.short;
  mode = c.in-Paint.is;
}

pub returns-in-Paint : goal.returns-in-Paint
returns-in-Paint c =
    let marked = c.mark_text.ensures in
    let clears : (mask : ℕ) → _ = λ mask. ap (λ (m : Mode). clearing (effect_of m mask)) c.in-Paint.is in
    record {
      value = marked.value;
      near = marked.near;
      keep = kept-by-clearing (face_from c.args.v c.args.font.now) c.args.k c.args.start c.args.text.now c.args.keep.now _ clears
          marked.keep;
      flip = marked.flip;
    }

pub mark_text-requires-in-Erase : goal.mark_text-requires-in-Erase
mark_text-requires-in-Erase c = record {
  drawable = other-room c.args.k _ _ c.requires.drawable c.requires.flip_room;
  settling = λ settles. c.requires.drawable.6;
  starting = c.requires.starting;
  short = c.requires.short;
  mode = c.in-Erase.is;
}

pub returns-in-Erase : goal.returns-in-Erase
returns-in-Erase c =
    let marked = c.mark_text-in-Erase.ensures in
    let clears : (mask : ℕ) → _ = λ mask. ap (λ (m : Mode). clearing (effect_of m mask)) c.in-Erase.is in
    record {
      value = marked.value;
      near = marked.near;
      keep = kept-by-clearing (face_from c.args.v c.args.font.now) c.args.k c.args.start c.args.text.now c.args.keep.now _ clears
          marked.keep;
      flip = marked.flip;
    }

pub mark_text-requires-in-Invert : goal.mark_text-requires-in-Invert
mark_text-requires-in-Invert c = record {
  drawable = other-room c.args.k _ _ c.requires.drawable c.requires.flip_room;
  settling = λ settles. c.requires.drawable.6;
  starting = c.requires.starting;
  short = c.requires.short;
  mode = c.in-Invert.is;
}

pub returns-in-Invert : goal.returns-in-Invert
returns-in-Invert c =
    let marked = c.mark_text-in-Invert.ensures in
    let words : AllWords c.mark_text-in-Invert.new.keep = λ i. (c.type_inv.keep i).fits in
    record {
      value = marked.value;
      near = marked.near;
      keep = kept-by-invert (face_from c.args.v c.args.font.now) c.args.k c.args.start c.args.text.now c.args.keep.now _ c.in-Invert.is
          (λ i. rw (← marked.keep) (words i)) marked.keep;
      flip = marked.flip;
    }
