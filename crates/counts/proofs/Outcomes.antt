-- Two outcomes that a contract permits are equal, for each public function of this crate: the reply, the counts among it, and every word of
-- the lent panel.
use mathlib.Core.Path.{◌≡◌, sym, ◌∙◌}
use contract.Lifetimes.{Lfts}
use denote.Triple.Clauses.{AtExit}
use borrow.Fn.Kinds.{Dens, res_t, ended_of}
use Rattle.counts.proofs.paint as paint
use Rattle.counts.proofs.apply as apply
use Rattle.counts.proofs.clear as clear

pub paint-one : (κs : Lfts 3) (a : Dens κs paint.Kinds.ps) (r o : (res_t paint.Kinds.r κs).Denot)
    (e e' : AtExit (ended_of 3 paint.Kinds.ps paint.Kinds.r) κs)
    → paint.Reads.Post κs a r e → paint.Reads.Post κs a o e'
    → (r ≡ o) × (e.1.1.1.1.0.now ≡ e'.1.1.1.1.0.now)
paint-one κs a r o e e' p q = (p.0 ∙ sym q.0, p.1.0 ∙ sym q.1.0)

pub apply-one : (κs : Lfts 3) (a : Dens κs apply.Kinds.ps) (r o : (res_t apply.Kinds.r κs).Denot)
    (e e' : AtExit (ended_of 3 apply.Kinds.ps apply.Kinds.r) κs)
    → apply.Reads.Post κs a r e → apply.Reads.Post κs a o e'
    → (r ≡ o) × (e.1.1.1.0.now ≡ e'.1.1.1.0.now)
apply-one κs a r o e e' p q = (p.0 ∙ sym q.0, p.1.0 ∙ sym q.1.0)

pub clear-one : (κs : Lfts 1) (a : Dens κs clear.Kinds.ps) (r o : (res_t clear.Kinds.r κs).Denot)
    (e e' : AtExit (ended_of 1 clear.Kinds.ps clear.Kinds.r) κs)
    → clear.Reads.Post κs a r e → clear.Reads.Post κs a o e'
    → (r ≡ o) × (e.1.0.now ≡ e'.1.0.now)
clear-one κs a r o e e' p q = (p.0 ∙ sym q.0, p.1.0 ∙ sym q.1.0)
