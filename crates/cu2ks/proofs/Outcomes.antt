-- Two outcomes that the contract of `cu2ks::program` permits are equal: the answer, and every byte of the lent space.
use mathlib.Core.Path.{◌≡◌, sym, ◌∙◌}
use contract.Lifetimes.{Lfts}
use denote.Triple.Clauses.{AtExit}
use borrow.Fn.Kinds.{Dens, res_t, ended_of}
use Rattle.cu2ks.proofs.program as program

pub program-one : (κs : Lfts 2) (a : Dens κs program.Kinds.ps) (r o : (res_t program.Kinds.r κs).Denot)
    (e e' : AtExit (ended_of 2 program.Kinds.ps program.Kinds.r) κs)
    → program.Reads.Post κs a r e → program.Reads.Post κs a o e'
    → (r ≡ o) × (e.1.0.now ≡ e'.1.0.now)
program-one κs a r o e e' p q = (p.0 ∙ sym q.0, p.1.0 ∙ sym q.1.0)
