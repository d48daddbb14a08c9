-- What is told of a strip is how many of its dots are lit in the picture, and that is the picture that there is without counts.
use Prim.Native.Nat.{ℕ, ◌<◌}
use mathlib.Core.Path.{◌≡◌, refl, ap, ◌∙◌}
use mathlib.Core.Bool.{false, cond}
use mathlib.Core.List.{List, [], ◌∷◌}
use lib.ListN.{length}
use Rattle.words.specs.Word.{word}
use Rattle.paint.specs.declared.Shape.{Shape}
use Rattle.paint.specs.Panel.{bad_panel, panel_words}
use Rattle.paint.specs.Label.{call_of}
use Rattle.counts.specs.Lit.{TrueCounts}
use Rattle.counts.specs.Calls.{painting, plain_number, plain_after}
use Rattle.counts.proofs.Truth.{true-call, zeros-true}
use Rattle.std.specs.Prelude.{is_ok}
use Rattle.preview.specs.declared.painting.Answer.{Answer}
use Rattle.preview.specs.declared.label.Line.{Line}
use Rattle.preview.specs.declared.label.Line.TheVariants.{Label, Passed, Other}
use Rattle.preview.specs.Line.{line_of, text_of, Dots, counted, painted, after_line, plain_painted, plain_line}
use Rattle.preview.specs.Lines.{zeros, ended, lines_of, after_lines, plain_lines, Painted}

-- the counts that stand beside a panel are those of its lit dots
abbrev True : Shape → Dots → Type 0
True s dots = TrueCounts s dots.panel dots.counts

-- what a line leaves of true counts: true ones, beside the panel that is left without them
record Same (s : Shape) (after : Dots) (plain : List ℕ) : Type 0 where
  holds : True s after
  shows : after.panel ≡ plain

module _ (font : List ℕ) (s : Shape) where
  label_same : (read : Line) (text : List ℕ) (dots : Dots) → True s dots
      → Same s (painted font s read text dots) (plain_painted font s read text dots.panel)
  unfolding painted plain_painted plain_number plain_after
  label_same (Label l) text dots holds =
      let one = true-call s (painting (call_of font l text)) dots.panel dots.counts holds in
      record { holds = rw one.1 one.2; shows = one.1 }
  label_same Passed text dots holds = record { holds = holds; shows = refl }
  label_same Other text dots holds = record { holds = holds; shows = refl }

  line_same : (line : List ℕ) (dots : Dots) → True s dots → Same s (after_line font s line dots) (plain_line font s line dots.panel)
  unfolding after_line plain_line
  line_same line dots holds = label_same (line_of line) (text_of line) dots holds

  lines_same : (lines : List (List ℕ)) (dots : Dots) → True s dots
      → Same s (after_lines font s lines dots) (plain_lines font s lines dots.panel)
  unfolding after_lines plain_lines
  lines_same [] dots holds = record { holds = holds; shows = refl }
  lines_same (line ∷ lines) dots holds =
      let one = line_same line dots holds in
      let more = lines_same lines (after_line font s line dots) one.holds in
      record { holds = more.holds; shows = more.shows ∙ ap (plain_lines font s lines) one.shows }

-- all lines, painted on a dark panel of a shape that is not refused
module _ {font : List ℕ} {s : Shape} {panel after : List ℕ} {answer : Answer} (all : Painted font s panel answer after)
    (room : bad_panel s (length panel ∷ []) ≡ false) (dark : (i : ℕ) → i < panel_words s → word panel i ≡ 0) where
  -- those that are painted
  abbrev pub lines : List (List ℕ)
  lines = cond (is_ok answer.read) (lines_of all.read) (ended [] all.read)

  same : Same s (counted after answer.counts) (plain_lines font s lines panel)
  same = rw all.paints (lines_same font s lines (counted panel zeros) (zeros-true s panel room dark))

  -- each count that is answered is its strip's lit dots, after a read that failed too
  pub told-lit : TrueCounts s after answer.counts
  told-lit = same.holds

  -- and the panel is the one that the lines paint where no counts are kept
  pub shown-plain : after ≡ plain_lines font s lines panel
  shown-plain = same.shows
