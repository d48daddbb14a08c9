-- Two outcomes that a contract permits are equal: the reply, and every byte or word that was lent. So it is for each public function that
-- has a reply, but for `read_some` and `read_file`, of whose bytes nothing is known; and for `paint_lines`, where the same bytes were read.
use mathlib.Core.Path.{◌≡◌, refl, sym, ap, ap₂, ◌∙◌}
use mathlib.Core.Bool.{Bool, true, false, cond, false≢true}
use mathlib.Core.Logic.{◌↔◌}
use Rattle.std.specs.Prelude.{IsTrue, is_ok}
use mathlib.Core.List.{List, []}
use Prim.Native.Nat.{ℕ}
use contract.Lifetimes.{Lfts}
use denote.Param.Laws.{Laws}
use denote.RattleType.{RattleType}
use denote.Triple.Clauses.{AtExit}
use mir.Syntax.{Dict}
use Rattle.std.specs.declared.io.Eprint as Eprint
use Rattle.std.specs.declared.io.Read as Read
use borrow.Fn.Kinds.{Dens, res_t, ended_of}
use Rattle.words.proofs.Outcomes.{OneReply}
use Rattle.preview.specs.Line.{Dots, counted}
use Rattle.preview.specs.Lines.{zeros, ended, lines_of, after_lines}
use Rattle.preview.proofs.help.is_asked as is-asked
use Rattle.preview.proofs.input.first_of as first_of
use Rattle.preview.proofs.input.unread as unread
use Rattle.preview.proofs.label.line_of as Line-of
use Rattle.preview.proofs.label.text_of as text_of
use Rattle.preview.proofs.number.decimal as decimal
use Rattle.preview.proofs.number.signed_decimal as signed_decimal
use Rattle.preview.proofs.painting.paint_lines as paint-lines
use Rattle.preview.proofs.picture.picture as picture
use Rattle.preview.proofs.tell.is_asked as counts-asked

pub picture-one : (κs : Lfts 2) (a : Dens κs picture.Kinds.ps) (r o : (res_t picture.Kinds.r κs).Denot)
    (e e' : AtExit (ended_of 2 picture.Kinds.ps picture.Kinds.r) κs)
    → picture.Reads.Post κs a r e → picture.Reads.Post κs a o e'
    → (r ≡ o) × (e.1.1.0.now ≡ e'.1.1.0.now)
picture-one κs a r o e e' p q = (p.0.ends ∙ sym q.0.ends, p.0.leaves ∙ sym q.0.leaves)

-- ---- what is asked for

same_answer : (asked : Type 0) (r o : Bool) → (IsTrue r ↔ asked) → (IsTrue o ↔ asked) → r ≡ o
same_answer asked true true p q = refl
same_answer asked true false p q = absurd (false≢true (q.1 (p.0 refl)))
same_answer asked false true p q = absurd (false≢true (p.1 (q.0 refl)))
same_answer asked false false p q = refl

pub is-asked-one : OneReply 1 is-asked.Kinds.ps is-asked.Kinds.r is-asked.Reads.Post
is-asked-one κs a r o e e' p q = same_answer _ r o p q

pub counts-asked-one : OneReply 1 counts-asked.Kinds.ps counts-asked.Kinds.r counts-asked.Reads.Post
counts-asked-one κs a r o e e' p q = same_answer _ r o p q

-- ---- numbers and lines

pub decimal-one : OneReply 1 decimal.Kinds.ps decimal.Kinds.r decimal.Reads.Post
decimal-one κs a r o e e' p q = p ∙ sym q

pub signed-decimal-one : OneReply 1 signed_decimal.Kinds.ps signed_decimal.Kinds.r signed_decimal.Reads.Post
signed-decimal-one κs a r o e e' p q = p ∙ sym q

pub line-of-one : OneReply 1 Line-of.Kinds.ps Line-of.Kinds.r Line-of.Reads.Post
line-of-one κs a r o e e' p q = p ∙ sym q

pub text-of-one : (κs : Lfts 1) (a : Dens κs text_of.Kinds.ps) (r o : (res_t text_of.Kinds.r κs).Denot)
    (e e' : AtExit (ended_of 1 text_of.Kinds.ps text_of.Kinds.r) κs)
    → text_of.Reads.Post κs a r e → text_of.Reads.Post κs a o e' → r.now ≡ o.now
text-of-one κs a r o e e' p q = p ∙ sym q

pub unread-one : OneReply 0 unread.Kinds.ps unread.Kinds.r unread.Reads.Post
unread-one κs a r o e e' p q = p ∙ sym q

pub first-of-one : (κs : Lfts 1) (a : Dens κs first_of.Kinds.ps) (r o : (res_t first_of.Kinds.r κs).Denot)
    (e e' : AtExit (ended_of 1 first_of.Kinds.ps first_of.Kinds.r) κs)
    → first_of.Reads.Post κs a r e → first_of.Reads.Post κs a o e' → r.now ≡ o.now
first-of-one κs a r o e e' p q = p ∙ sym q

-- ---- painting

-- where the same bytes were read and the reads went as well: the same panel is left, and the same counts are answered, whatever the runtime
-- that the messages are said by and the reader that the lines come from
module _ (runtime reader : RattleType) (laws : Laws runtime) (reader_laws : Laws reader)
    (eprint : Eprint.Ghosts runtime.Denot) (dict : Dict) (read : Read.Ghosts reader.Denot) (read_dict : Dict) where
  pub paint-lines-one : (κs : Lfts 6) (a : Dens κs (paint-lines.Kinds.ps runtime reader laws reader_laws))
      (r o : (res_t (paint-lines.Kinds.r runtime reader laws reader_laws) κs).Denot)
      (e e' : AtExit
      (ended_of 6 (paint-lines.Kinds.ps runtime reader laws reader_laws) (paint-lines.Kinds.r runtime reader laws reader_laws)) κs)
      (p : paint-lines.Reads.Post runtime reader laws reader_laws eprint dict read read_dict κs a r e)
      (q : paint-lines.Reads.Post runtime reader laws reader_laws eprint dict read read_dict κs a o e')
      → is_ok r.read ≡ is_ok o.read → p.read ≡ q.read → (r.counts ≡ o.counts) × (e.1.1.1.0.now ≡ e'.1.1.1.0.now)
  paint-lines-one κs a r o e e' p q same-reply same_bytes =
      let dots =
      p.paints
      ∙ ap₂
      (λ (t : Bool) (l : List ℕ).
      after_lines a.1.1.0.font.now a.1.1.0.s (cond t (lines_of l) (ended [] l)) (counted a.1.1.1.0.now zeros))
      same-reply
      same_bytes
      ∙ sym q.paints in
      (ap (λ (d : Dots). d.counts) dots, ap (λ (d : Dots). d.panel) dots)
