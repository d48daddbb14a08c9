-- Two outcomes that a contract permits are equal, for each function that C calls: the reply with the counts in it, and every word of a lent
-- slice.
use mathlib.Core.Path.{◌≡◌, sym, ◌∙◌}
use contract.Lifetimes.{Lfts}
use denote.Triple.Clauses.{AtExit}
use borrow.Fn.Kinds.{Dens, res_t, ended_of}
use Rattle.words.proofs.Outcomes.{OneReply}
use Rattle.desk.proofs.pailradish_check as check
use Rattle.desk.proofs.pailradish_measure as measure
use Rattle.desk.proofs.pailradish_words as words
use Rattle.desk.proofs.pailradish_paint as paint
use Rattle.desk.proofs.pailradish_fresh as fresh
use Rattle.desk.proofs.pailradish_gather as gather
use Rattle.desk.proofs.pailradish_join as join
use Rattle.desk.proofs.pailradish_apply as apply
use Rattle.desk.proofs.pailradish_clear as clear
use Rattle.desk.proofs.pailradish_convert as convert

pub check-one : OneReply 1 check.Kinds.ps check.Kinds.r check.Reads.Post
check-one κs a r o e e' p q = p ∙ sym q

pub measure-one : OneReply 2 measure.Kinds.ps measure.Kinds.r measure.Reads.Post
measure-one κs a r o e e' p q = p.0 ∙ sym q.0

pub words-one : (κs : Lfts 2) (a : Dens κs words.Kinds.ps) (r o : (res_t words.Kinds.r κs).Denot)
    (e e' : AtExit (ended_of 2 words.Kinds.ps words.Kinds.r) κs)
    → words.Reads.Post κs a r e → words.Reads.Post κs a o e'
    → (r ≡ o) × (e.1.0.now ≡ e'.1.0.now)
words-one κs a r o e e' p q = (p.0 ∙ sym q.0, p.1 ∙ sym q.1)

pub paint-one : (κs : Lfts 3) (a : Dens κs paint.Kinds.ps) (r o : (res_t paint.Kinds.r κs).Denot)
    (e e' : AtExit (ended_of 3 paint.Kinds.ps paint.Kinds.r) κs)
    → paint.Reads.Post κs a r e → paint.Reads.Post κs a o e'
    → (r ≡ o) × (e.1.1.1.0.now ≡ e'.1.1.1.0.now)
paint-one κs a r o e e' p q = (p.0 ∙ sym q.0, p.1.0 ∙ sym q.1.0)

pub fresh-one : (κs : Lfts 2) (a : Dens κs fresh.Kinds.ps) (r o : (res_t fresh.Kinds.r κs).Denot)
    (e e' : AtExit (ended_of 2 fresh.Kinds.ps fresh.Kinds.r) κs)
    → fresh.Reads.Post κs a r e → fresh.Reads.Post κs a o e'
    → (r ≡ o) × (e.1.0.now ≡ e'.1.0.now) × (e.1.1.0.now ≡ e'.1.1.0.now)
fresh-one κs a r o e e' p q = (p.0 ∙ sym q.0, p.1.0 ∙ sym q.1.0, p.1.1 ∙ sym q.1.1)

pub gather-one : (κs : Lfts 4) (a : Dens κs gather.Kinds.ps) (r o : (res_t gather.Kinds.r κs).Denot)
    (e e' : AtExit (ended_of 4 gather.Kinds.ps gather.Kinds.r) κs)
    → gather.Reads.Post κs a r e → gather.Reads.Post κs a o e'
    → (r ≡ o) × (e.1.1.1.0.now ≡ e'.1.1.1.0.now) × (e.1.1.1.1.0.now ≡ e'.1.1.1.1.0.now)
gather-one κs a r o e e' p q = (p.0 ∙ sym q.0, p.1.0 ∙ sym q.1.0, p.1.1.0 ∙ sym q.1.1.0)

pub join_one : (κs : Lfts 4) (a : Dens κs join.Kinds.ps) (r o : (res_t join.Kinds.r κs).Denot)
    (e e' : AtExit (ended_of 4 join.Kinds.ps join.Kinds.r) κs)
    → join.Reads.Post κs a r e → join.Reads.Post κs a o e'
    → (r ≡ o) × (e.1.0.now ≡ e'.1.0.now) × (e.1.1.0.now ≡ e'.1.1.0.now)
join_one κs a r o e e' p q = (p.0 ∙ sym q.0, p.1.0 ∙ sym q.1.0, p.1.1 ∙ sym q.1.1)

pub apply-one : (κs : Lfts 3) (a : Dens κs apply.Kinds.ps) (r o : (res_t apply.Kinds.r κs).Denot)
    (e e' : AtExit (ended_of 3 apply.Kinds.ps apply.Kinds.r) κs)
    → apply.Reads.Post κs a r e → apply.Reads.Post κs a o e'
    → (r ≡ o) × (e.1.1.1.0.now ≡ e'.1.1.1.0.now)
apply-one κs a r o e e' p q = (p.0 ∙ sym q.0, p.1 ∙ sym q.1)

pub clear-one : (κs : Lfts 1) (a : Dens κs clear.Kinds.ps) (r o : (res_t clear.Kinds.r κs).Denot)
    (e e' : AtExit (ended_of 1 clear.Kinds.ps clear.Kinds.r) κs)
    → clear.Reads.Post κs a r e → clear.Reads.Post κs a o e'
    → (r ≡ o) × (e.1.0.now ≡ e'.1.0.now)
clear-one κs a r o e e' p q = (p.0 ∙ sym q.0, p.1 ∙ sym q.1)

pub convert-one : (κs : Lfts 2) (a : Dens κs convert.Kinds.ps) (r o : (res_t convert.Kinds.r κs).Denot)
    (e e' : AtExit (ended_of 2 convert.Kinds.ps convert.Kinds.r) κs)
    → convert.Reads.Post κs a r e → convert.Reads.Post κs a o e'
    → (r ≡ o) × (e.1.0.now ≡ e'.1.0.now)
convert-one κs a r o e e' p q = (p.0 ∙ sym q.0, p.1.0 ∙ sym q.1.0)
