-- Two outcomes that a contract permits are equal: the reply, and every word of what is lent; of a part that is handed back, its words.
use mathlib.Core.Path.{◌≡◌, sym, ap, ◌∙◌}
use contract.Lifetimes.{Lfts}
use denote.Param.Laws.{Laws, IsCopy}
use denote.RattleType.{RattleType}
use denote.Triple.Clauses.{AtExit}
use mir.Syntax.{Dict}
use Rattle.std.specs.declared.io.Print.{Ghosts}
use Rattle.std.specs.declared.clone.Clone.{Ghosts as CloneGhosts}
use Rattle.itoa.specs.declared.integer.Integer.{Ghosts as IntegerGhosts}
use borrow.Fn.Kinds.{Dens, res_t, ended_of}
use Rattle.words.proofs.Outcomes.{OneReply}
use Rattle.replay.specs.Registers.{holds}
use Rattle.replay.proofs.names.extended as extended
use Rattle.replay.proofs.names.Register.named as register-named
use Rattle.replay.proofs.names.Command.named as command-named
use Rattle.replay.proofs.names.Command.numbers as numbers
use Rattle.replay.proofs.list.Line.empty as empty-line
use Rattle.replay.proofs.list.Line.number as number
use Rattle.replay.proofs.list.Line.signed as signed
use Rattle.replay.proofs.list.Values.as_slice as values
use Rattle.replay.proofs.label_calls.shape as shape
use Rattle.replay.proofs.label_calls.label as label
use Rattle.replay.proofs.registers.Registers.empty as no-registers
use Rattle.replay.proofs.registers.Slices.chosen as chosen
use Rattle.replay.proofs.registers.Registers.set as set
use Rattle.replay.proofs.registers.Registers.keep_written as keep-written
use Rattle.replay.proofs.registers.Registers.font_from_written as font-from-written
use Rattle.replay.proofs.label_calls.text as text
use Rattle.replay.proofs.text.Output.flush as flush
use Rattle.replay.proofs.text.Output.put as put
use Rattle.replay.proofs.text.Output.put_all as put-all
use Rattle.replay.proofs.text.Output.put_name as put-name
use Rattle.replay.proofs.text.Output.put_value as put-value
use Rattle.replay.proofs.text.Output.put_list as put-list
use Rattle.replay.proofs.font_calls.check as check
use Rattle.replay.proofs.font_calls.glyph as glyph
use Rattle.replay.proofs.font_calls.dots as dots
use Rattle.replay.proofs.font_calls.row as row
use Rattle.replay.proofs.label_calls.put_reply as put-reply
use Rattle.replay.proofs.label_calls.measure as measure
use Rattle.replay.proofs.label_calls.paint as paint
use Rattle.replay.proofs.registers.Registers.show as show
use Rattle.replay.proofs.sheet_calls.put_outcome as put-outcome
use Rattle.replay.proofs.sheet_calls.fresh as fresh
use Rattle.replay.proofs.sheet_calls.gather as gather
use Rattle.replay.proofs.sheet_calls.join as join
use Rattle.replay.proofs.sheet_calls.apply as apply
use Rattle.replay.proofs.convert_calls.convert as convert
use Rattle.replay.proofs.count_calls.paint_lit as paint-lit
use Rattle.replay.proofs.count_calls.apply_lit as apply-lit
use Rattle.replay.proofs.count_calls.clear as clear
use Rattle.replay.proofs.perform as perform
use Rattle.replay.proofs.text.Output.new as no-text
use Rattle.replay.proofs.text.Output.put_number as put-number

pub extended-one : OneReply 0 extended.Kinds.ps extended.Kinds.r extended.Reads.Post
extended-one κs a r o e e' p q = p ∙ sym q

pub register-named-one : OneReply 0 register-named.Kinds.ps register-named.Kinds.r register-named.Reads.Post
register-named-one κs a r o e e' p q = p ∙ sym q

pub command-named-one : OneReply 0 command-named.Kinds.ps command-named.Kinds.r command-named.Reads.Post
command-named-one κs a r o e e' p q = p ∙ sym q

pub numbers-one : OneReply 0 numbers.Kinds.ps numbers.Kinds.r numbers.Reads.Post
numbers-one κs a r o e e' p q = p ∙ sym q

pub empty-line-one : OneReply 0 empty-line.Kinds.ps empty-line.Kinds.r empty-line.Reads.Post
empty-line-one κs a r o e e' p q = p ∙ sym q

pub number-one : OneReply 1 number.Kinds.ps number.Kinds.r number.Reads.Post
number-one κs a r o e e' p q = p ∙ sym q

pub signed-one : OneReply 1 signed.Kinds.ps signed.Kinds.r signed.Reads.Post
signed-one κs a r o e e' p q = p ∙ sym q

pub shape-one : OneReply 1 shape.Kinds.ps shape.Kinds.r shape.Reads.Post
shape-one κs a r o e e' p q = p ∙ sym q

pub label-one : OneReply 1 label.Kinds.ps label.Kinds.r label.Reads.Post
label-one κs a r o e e' p q = p ∙ sym q

pub no-registers-one : OneReply 0 no-registers.Kinds.ps no-registers.Kinds.r no-registers.Reads.Post
no-registers-one κs a r o e e' p q = p ∙ sym q

pub text-one : OneReply 1 text.Kinds.ps text.Kinds.r text.Reads.Post
text-one κs a r o e e' p q = ap holds (p ∙ sym q)

pub values-one : (κs : Lfts 1) (a : Dens κs values.Kinds.ps) (r o : (res_t values.Kinds.r κs).Denot)
    (e e' : AtExit (ended_of 1 values.Kinds.ps values.Kinds.r) κs)
    → values.Reads.Post κs a r e → values.Reads.Post κs a o e'
    → r.now ≡ o.now
values-one κs a r o e e' p q = p ∙ sym q

pub chosen-one : (κs : Lfts 1) (a : Dens κs chosen.Kinds.ps) (r o : (res_t chosen.Kinds.r κs).Denot)
    (e e' : AtExit (ended_of 1 chosen.Kinds.ps chosen.Kinds.r) κs)
    → chosen.Reads.Post κs a r e → chosen.Reads.Post κs a o e'
    → r.now ≡ o.now
chosen-one κs a r o e e' p q = p ∙ sym q

pub set-one : (κs : Lfts 2) (a : Dens κs set.Kinds.ps) (r o : (res_t set.Kinds.r κs).Denot)
    (e e' : AtExit (ended_of 2 set.Kinds.ps set.Kinds.r) κs)
    → set.Reads.Post κs a r e → set.Reads.Post κs a o e'
    → e.0.now ≡ e'.0.now
set-one κs a r o e e' p q = p ∙ sym q

pub keep-written-one : (κs : Lfts 1) (a : Dens κs keep-written.Kinds.ps) (r o : (res_t keep-written.Kinds.r κs).Denot)
    (e e' : AtExit (ended_of 1 keep-written.Kinds.ps keep-written.Kinds.r) κs)
    → keep-written.Reads.Post κs a r e → keep-written.Reads.Post κs a o e'
    → e.0.now ≡ e'.0.now
keep-written-one κs a r o e e' p q = p ∙ sym q

pub font-from-written-one : (κs : Lfts 1) (a : Dens κs font-from-written.Kinds.ps) (r o : (res_t font-from-written.Kinds.r κs).Denot)
    (e e' : AtExit (ended_of 1 font-from-written.Kinds.ps font-from-written.Kinds.r) κs)
    → font-from-written.Reads.Post κs a r e → font-from-written.Reads.Post κs a o e'
    → e.0.now ≡ e'.0.now
font-from-written-one κs a r o e e' p q = p ∙ sym q

-- What waits to be written, and every register that a call alters, whatever the runtime that the text is written by; of a whole line what
-- waits.
module _ (runtime : RattleType) (laws : Laws runtime) (print : Ghosts runtime.Denot) (dict : Dict) where
  pub flush-one : (κs : Lfts 3) (a : Dens κs (flush.Kinds.ps runtime laws))
      (r o : (res_t (flush.Kinds.r runtime laws) κs).Denot)
      (e e' : AtExit (ended_of 3 (flush.Kinds.ps runtime laws) (flush.Kinds.r runtime laws)) κs)
      → flush.Reads.Post runtime laws print dict κs a r e → flush.Reads.Post runtime laws print dict κs a o e'
      → e.0.now ≡ e'.0.now
  flush-one κs a r o e e' p q = p ∙ sym q

  pub put-one : (κs : Lfts 3) (a : Dens κs (put.Kinds.ps runtime laws))
      (r o : (res_t (put.Kinds.r runtime laws) κs).Denot)
      (e e' : AtExit (ended_of 3 (put.Kinds.ps runtime laws) (put.Kinds.r runtime laws)) κs)
      → put.Reads.Post runtime laws print dict κs a r e → put.Reads.Post runtime laws print dict κs a o e'
      → e.0.now ≡ e'.0.now
  put-one κs a r o e e' p q = p ∙ sym q

  pub put-all-one : (κs : Lfts 4) (a : Dens κs (put-all.Kinds.ps runtime laws))
      (r o : (res_t (put-all.Kinds.r runtime laws) κs).Denot)
      (e e' : AtExit (ended_of 4 (put-all.Kinds.ps runtime laws) (put-all.Kinds.r runtime laws)) κs)
      → put-all.Reads.Post runtime laws print dict κs a r e → put-all.Reads.Post runtime laws print dict κs a o e'
      → e.0.now ≡ e'.0.now
  put-all-one κs a r o e e' p q = p ∙ sym q

  pub put-name-one : (κs : Lfts 3) (a : Dens κs (put-name.Kinds.ps runtime laws))
      (r o : (res_t (put-name.Kinds.r runtime laws) κs).Denot)
      (e e' : AtExit (ended_of 3 (put-name.Kinds.ps runtime laws) (put-name.Kinds.r runtime laws)) κs)
      → put-name.Reads.Post runtime laws print dict κs a r e → put-name.Reads.Post runtime laws print dict κs a o e'
      → e.0.now ≡ e'.0.now
  put-name-one κs a r o e e' p q = p ∙ sym q

  pub put-value-one : (κs : Lfts 3) (a : Dens κs (put-value.Kinds.ps runtime laws))
      (r o : (res_t (put-value.Kinds.r runtime laws) κs).Denot)
      (e e' : AtExit (ended_of 3 (put-value.Kinds.ps runtime laws) (put-value.Kinds.r runtime laws)) κs)
      → put-value.Reads.Post runtime laws print dict κs a r e → put-value.Reads.Post runtime laws print dict κs a o e'
      → e.0.now ≡ e'.0.now
  put-value-one κs a r o e e' p q = p ∙ sym q

  pub put-list-one : (κs : Lfts 4) (a : Dens κs (put-list.Kinds.ps runtime laws))
      (r o : (res_t (put-list.Kinds.r runtime laws) κs).Denot)
      (e e' : AtExit (ended_of 4 (put-list.Kinds.ps runtime laws) (put-list.Kinds.r runtime laws)) κs)
      → put-list.Reads.Post runtime laws print dict κs a r e → put-list.Reads.Post runtime laws print dict κs a o e'
      → e.0.now ≡ e'.0.now
  put-list-one κs a r o e e' p q = p ∙ sym q

  pub check-one : (κs : Lfts 4) (a : Dens κs (check.Kinds.ps runtime laws))
      (r o : (res_t (check.Kinds.r runtime laws) κs).Denot)
      (e e' : AtExit (ended_of 4 (check.Kinds.ps runtime laws) (check.Kinds.r runtime laws)) κs)
      → check.Reads.Post runtime laws print dict κs a r e → check.Reads.Post runtime laws print dict κs a o e'
      → e.1.0.now ≡ e'.1.0.now
  check-one κs a r o e e' p q = p ∙ sym q

  pub glyph-one : (κs : Lfts 5) (a : Dens κs (glyph.Kinds.ps runtime laws))
      (r o : (res_t (glyph.Kinds.r runtime laws) κs).Denot)
      (e e' : AtExit (ended_of 5 (glyph.Kinds.ps runtime laws) (glyph.Kinds.r runtime laws)) κs)
      → glyph.Reads.Post runtime laws print dict κs a r e → glyph.Reads.Post runtime laws print dict κs a o e'
      → e.1.1.0.now ≡ e'.1.1.0.now
  glyph-one κs a r o e e' p q = p ∙ sym q

  pub dots-one : (κs : Lfts 5) (a : Dens κs (dots.Kinds.ps runtime laws))
      (r o : (res_t (dots.Kinds.r runtime laws) κs).Denot)
      (e e' : AtExit (ended_of 5 (dots.Kinds.ps runtime laws) (dots.Kinds.r runtime laws)) κs)
      → dots.Reads.Post runtime laws print dict κs a r e → dots.Reads.Post runtime laws print dict κs a o e'
      → e.1.1.0.now ≡ e'.1.1.0.now
  dots-one κs a r o e e' p q = p ∙ sym q

  pub row-one : (κs : Lfts 5) (a : Dens κs (row.Kinds.ps runtime laws))
      (r o : (res_t (row.Kinds.r runtime laws) κs).Denot)
      (e e' : AtExit (ended_of 5 (row.Kinds.ps runtime laws) (row.Kinds.r runtime laws)) κs)
      → row.Reads.Post runtime laws print dict κs a r e → row.Reads.Post runtime laws print dict κs a o e'
      → e.1.1.0.now ≡ e'.1.1.0.now
  row-one κs a r o e e' p q = p ∙ sym q

  pub put-reply-one : (κs : Lfts 4) (a : Dens κs (put-reply.Kinds.ps runtime laws))
      (r o : (res_t (put-reply.Kinds.r runtime laws) κs).Denot)
      (e e' : AtExit (ended_of 4 (put-reply.Kinds.ps runtime laws) (put-reply.Kinds.r runtime laws)) κs)
      → put-reply.Reads.Post runtime laws print dict κs a r e → put-reply.Reads.Post runtime laws print dict κs a o e'
      → e.1.1.0.now ≡ e'.1.1.0.now
  put-reply-one κs a r o e e' p q = p ∙ sym q

  pub measure-one : (κs : Lfts 5) (a : Dens κs (measure.Kinds.ps runtime laws))
      (r o : (res_t (measure.Kinds.r runtime laws) κs).Denot)
      (e e' : AtExit (ended_of 5 (measure.Kinds.ps runtime laws) (measure.Kinds.r runtime laws)) κs)
      → measure.Reads.Post runtime laws print dict κs a r e → measure.Reads.Post runtime laws print dict κs a o e'
      → e.1.1.0.now ≡ e'.1.1.0.now
  measure-one κs a r o e e' p q = p ∙ sym q

  pub paint-one : (κs : Lfts 5) (a : Dens κs (paint.Kinds.ps runtime laws))
      (r o : (res_t (paint.Kinds.r runtime laws) κs).Denot)
      (e e' : AtExit (ended_of 5 (paint.Kinds.ps runtime laws) (paint.Kinds.r runtime laws)) κs)
      → paint.Reads.Post runtime laws print dict κs a r e → paint.Reads.Post runtime laws print dict κs a o e'
      → (e.1.1.0.now ≡ e'.1.1.0.now) × (e.1.0.now ≡ e'.1.0.now)
  paint-one κs a r o e e' p q = (p.0 ∙ sym q.0, p.1 ∙ sym q.1)

  pub show-one : (κs : Lfts 4) (a : Dens κs (show.Kinds.ps runtime laws))
      (r o : (res_t (show.Kinds.r runtime laws) κs).Denot)
      (e e' : AtExit (ended_of 4 (show.Kinds.ps runtime laws) (show.Kinds.r runtime laws)) κs)
      → show.Reads.Post runtime laws print dict κs a r e → show.Reads.Post runtime laws print dict κs a o e'
      → e.1.1.0.now ≡ e'.1.1.0.now
  show-one κs a r o e e' p q = p ∙ sym q

  pub put-outcome-one : (κs : Lfts 4) (a : Dens κs (put-outcome.Kinds.ps runtime laws))
      (r o : (res_t (put-outcome.Kinds.r runtime laws) κs).Denot)
      (e e' : AtExit (ended_of 4 (put-outcome.Kinds.ps runtime laws) (put-outcome.Kinds.r runtime laws)) κs)
      → put-outcome.Reads.Post runtime laws print dict κs a r e → put-outcome.Reads.Post runtime laws print dict κs a o e'
      → e.1.1.0.now ≡ e'.1.1.0.now
  put-outcome-one κs a r o e e' p q = p ∙ sym q

  pub fresh-one : (κs : Lfts 5) (a : Dens κs (fresh.Kinds.ps runtime laws))
      (r o : (res_t (fresh.Kinds.r runtime laws) κs).Denot)
      (e e' : AtExit (ended_of 5 (fresh.Kinds.ps runtime laws) (fresh.Kinds.r runtime laws)) κs)
      → fresh.Reads.Post runtime laws print dict κs a r e → fresh.Reads.Post runtime laws print dict κs a o e'
      → (e.1.1.0.now ≡ e'.1.1.0.now) × (e.1.0.now ≡ e'.1.0.now)
  fresh-one κs a r o e e' p q = (p.0 ∙ sym q.0, p.1 ∙ sym q.1)

  pub gather-one : (κs : Lfts 5) (a : Dens κs (gather.Kinds.ps runtime laws))
      (r o : (res_t (gather.Kinds.r runtime laws) κs).Denot)
      (e e' : AtExit (ended_of 5 (gather.Kinds.ps runtime laws) (gather.Kinds.r runtime laws)) κs)
      → gather.Reads.Post runtime laws print dict κs a r e → gather.Reads.Post runtime laws print dict κs a o e'
      → (e.1.1.0.now ≡ e'.1.1.0.now) × (e.1.0.now ≡ e'.1.0.now)
  gather-one κs a r o e e' p q = (p.0 ∙ sym q.0, p.1 ∙ sym q.1)

  pub join-one : (κs : Lfts 5) (a : Dens κs (join.Kinds.ps runtime laws))
      (r o : (res_t (join.Kinds.r runtime laws) κs).Denot)
      (e e' : AtExit (ended_of 5 (join.Kinds.ps runtime laws) (join.Kinds.r runtime laws)) κs)
      → join.Reads.Post runtime laws print dict κs a r e → join.Reads.Post runtime laws print dict κs a o e'
      → (e.1.1.0.now ≡ e'.1.1.0.now) × (e.1.0.now ≡ e'.1.0.now)
  join-one κs a r o e e' p q = (p.0 ∙ sym q.0, p.1 ∙ sym q.1)

  pub apply-one : (κs : Lfts 5) (a : Dens κs (apply.Kinds.ps runtime laws))
      (r o : (res_t (apply.Kinds.r runtime laws) κs).Denot)
      (e e' : AtExit (ended_of 5 (apply.Kinds.ps runtime laws) (apply.Kinds.r runtime laws)) κs)
      → apply.Reads.Post runtime laws print dict κs a r e → apply.Reads.Post runtime laws print dict κs a o e'
      → (e.1.1.0.now ≡ e'.1.1.0.now) × (e.1.0.now ≡ e'.1.0.now)
  apply-one κs a r o e e' p q = (p.0 ∙ sym q.0, p.1 ∙ sym q.1)

  pub convert-one : (κs : Lfts 4) (a : Dens κs (convert.Kinds.ps runtime laws))
      (r o : (res_t (convert.Kinds.r runtime laws) κs).Denot)
      (e e' : AtExit (ended_of 4 (convert.Kinds.ps runtime laws) (convert.Kinds.r runtime laws)) κs)
      → convert.Reads.Post runtime laws print dict κs a r e → convert.Reads.Post runtime laws print dict κs a o e'
      → (e.1.0.now ≡ e'.1.0.now) × (e.0.now ≡ e'.0.now)
  convert-one κs a r o e e' p q = (p.0 ∙ sym q.0, p.1 ∙ sym q.1)

  pub paint-lit-one : (κs : Lfts 5) (a : Dens κs (paint-lit.Kinds.ps runtime laws))
      (r o : (res_t (paint-lit.Kinds.r runtime laws) κs).Denot)
      (e e' : AtExit (ended_of 5 (paint-lit.Kinds.ps runtime laws) (paint-lit.Kinds.r runtime laws)) κs)
      → paint-lit.Reads.Post runtime laws print dict κs a r e → paint-lit.Reads.Post runtime laws print dict κs a o e'
      → (e.1.1.0.now ≡ e'.1.1.0.now) × (e.1.0.now ≡ e'.1.0.now)
  paint-lit-one κs a r o e e' p q = (p.0 ∙ sym q.0, p.1 ∙ sym q.1)

  pub apply-lit-one : (κs : Lfts 5) (a : Dens κs (apply-lit.Kinds.ps runtime laws))
      (r o : (res_t (apply-lit.Kinds.r runtime laws) κs).Denot)
      (e e' : AtExit (ended_of 5 (apply-lit.Kinds.ps runtime laws) (apply-lit.Kinds.r runtime laws)) κs)
      → apply-lit.Reads.Post runtime laws print dict κs a r e → apply-lit.Reads.Post runtime laws print dict κs a o e'
      → (e.1.1.0.now ≡ e'.1.1.0.now) × (e.1.0.now ≡ e'.1.0.now)
  apply-lit-one κs a r o e e' p q = (p.0 ∙ sym q.0, p.1 ∙ sym q.1)

  pub clear-one : (κs : Lfts 5) (a : Dens κs (clear.Kinds.ps runtime laws))
      (r o : (res_t (clear.Kinds.r runtime laws) κs).Denot)
      (e e' : AtExit (ended_of 5 (clear.Kinds.ps runtime laws) (clear.Kinds.r runtime laws)) κs)
      → clear.Reads.Post runtime laws print dict κs a r e → clear.Reads.Post runtime laws print dict κs a o e'
      → (e.1.1.0.now ≡ e'.1.1.0.now) × (e.1.0.now ≡ e'.1.0.now)
  clear-one κs a r o e e' p q = (p.0 ∙ sym q.0, p.1 ∙ sym q.1)

  pub perform-one : (κs : Lfts 5) (a : Dens κs (perform.Kinds.ps runtime laws))
      (r o : (res_t (perform.Kinds.r runtime laws) κs).Denot)
      (e e' : AtExit (ended_of 5 (perform.Kinds.ps runtime laws) (perform.Kinds.r runtime laws)) κs)
      → perform.Reads.Post runtime laws print dict κs a r e → perform.Reads.Post runtime laws print dict κs a o e'
      → e.1.1.0.now ≡ e'.1.1.0.now
  perform-one κs a r o e e' p q = p.0 ∙ sym q.0

  pub no-text-one : (κs : Lfts 2) (a : Dens κs (no-text.Kinds.ps runtime laws)) (r o : (res_t (no-text.Kinds.r runtime laws) κs).Denot)
      (e e' : AtExit (ended_of 2 (no-text.Kinds.ps runtime laws) (no-text.Kinds.r runtime laws)) κs)
      → no-text.Reads.Post runtime laws print dict κs a r e → no-text.Reads.Post runtime laws print dict κs a o e'
      → r ≡ o
  no-text-one κs a r o e e' p q = p ∙ sym q

  module _ (integer : RattleType) (its : Laws integer) (copy : IsCopy integer) (is : IntegerGhosts integer.Denot) (integers : Dict)
      (clone : CloneGhosts integer.Denot) (clones : Dict) where
    pub put-number-one : (κs : Lfts 4) (a : Dens κs (put-number.Kinds.ps runtime integer laws its copy))
        (r o : (res_t (put-number.Kinds.r runtime integer laws its copy) κs).Denot)
        (e e' : AtExit (ended_of 4 (put-number.Kinds.ps runtime integer laws its copy)
        (put-number.Kinds.r runtime integer laws its copy)) κs)
        → put-number.Reads.Post runtime integer laws its copy print dict is integers clone clones κs a r e
        → put-number.Reads.Post runtime integer laws its copy print dict is integers clone clones κs a o e'
        → e.0.now ≡ e'.0.now
    put-number-one κs a r o e e' p q = p ∙ sym q
