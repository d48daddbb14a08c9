-- `paint::paint_text` meets its contract: a panel is marked as the flip of a sheet is.
-- Assumes nothing.
use mathlib.Core.Bool.{false≢true}
use Rattle.paint.proofs.paint_text.Goals as goal

pub mark_text-requires : goal.mark_text-requires
mark_text-requires c = record {
  drawable = c.requires.drawable;
  settling = λ settles. absurd (false≢true settles);
  starting = c.requires.starting;
  short = c.requires.short;
  mode = c.in-Paint.is;
}

pub returns-in-Paint : goal.returns-in-Paint
returns-in-Paint c =
    let marked = c.mark_text.ensures in
    record { value = marked.value; near = marked.near; panel = marked.flip }

pub mark_text-requires-in-Erase : goal.mark_text-requires-in-Erase
mark_text-requires-in-Erase c = record {
  drawable = c.requires.drawable;
  settling = λ settles. absurd (false≢true settles);
  starting = c.requires.starting;
  short = c.requires.short;
  mode = c.in-Erase.is;
}

pub returns-in-Erase : goal.returns-in-Erase
returns-in-Erase c =
    let marked = c.mark_text-in-Erase.ensures in
    record { value = marked.value; near = marked.near; panel = marked.flip }

pub mark_text-requires-in-Invert : goal.mark_text-requires-in-Invert
mark_text-requires-in-Invert c = record {
  drawable = c.requires.drawable;
  settling = λ settles. absurd (false≢true settles);
  starting = c.requires.starting;
  short = c.requires.short;
  mode = c.in-Invert.is;
}

pub returns-in-Invert : goal.returns-in-Invert
returns-in-Invert c =
    let marked = c.mark_text-in-Invert.ensures in
    record { value = marked.value; near = marked.near; panel = marked.flip }
