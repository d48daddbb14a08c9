-- Two outcomes that a contract permits are equal, for each public function of this crate. A part is told by the bytes that it holds.
use mathlib.Core.Path.{◌≡◌, sym, ◌∙◌}
use contract.Lifetimes.{Lfts}
use denote.Param.Laws.{Laws, IsCopy}
use denote.RattleType.{RattleType}
use denote.Triple.Clauses.{AtExit}
use mir.Syntax.{Dict}
use Rattle.std.specs.declared.clone.Clone.{Ghosts as CloneGhosts}
use Rattle.words.specs.declared.list.Words.{Ghosts as WordsGhosts}
use borrow.Fn.Kinds.{Dens, res_t, ended_of}
use Rattle.words.proofs.Outcomes.{OneReply}
use Rattle.fontbytes.proofs.found_step as found-step
use Rattle.fontbytes.proofs.number as number
use Rattle.fontbytes.proofs.read as read
use Rattle.fontbytes.proofs.pointers as pointers
use Rattle.fontbytes.proofs.widths as widths
use Rattle.fontbytes.proofs.map as map
use Rattle.fontbytes.proofs.dummy_advance as dummy-advance
use Rattle.fontbytes.proofs.step as step

pub number-one : OneReply 1 number.Kinds.ps number.Kinds.r number.Reads.Post
number-one κs a r o e e' p q = p ∙ sym q

pub read_one : OneReply 1 read.Kinds.ps read.Kinds.r read.Reads.Post
read_one κs a r o e e' p q = p.0 ∙ sym q.0

pub pointers-one : (κs : Lfts 1) (a : Dens κs pointers.Kinds.ps) (r o : (res_t pointers.Kinds.r κs).Denot)
    (e e' : AtExit (ended_of 1 pointers.Kinds.ps pointers.Kinds.r) κs)
    → pointers.Reads.Post κs a r e → pointers.Reads.Post κs a o e' → r.now ≡ o.now
pointers-one κs a r o e e' p q = p.0 ∙ sym q.0

pub widths-one : (κs : Lfts 1) (a : Dens κs widths.Kinds.ps) (r o : (res_t widths.Kinds.r κs).Denot)
    (e e' : AtExit (ended_of 1 widths.Kinds.ps widths.Kinds.r) κs)
    → widths.Reads.Post κs a r e → widths.Reads.Post κs a o e' → r.now ≡ o.now
widths-one κs a r o e e' p q = p.0 ∙ sym q.0

pub map-one : (κs : Lfts 1) (a : Dens κs map.Kinds.ps) (r o : (res_t map.Kinds.r κs).Denot)
    (e e' : AtExit (ended_of 1 map.Kinds.ps map.Kinds.r) κs)
    → map.Reads.Post κs a r e → map.Reads.Post κs a o e' → r.now ≡ o.now
map-one κs a r o e e' p q = p.0 ∙ sym q.0

-- Of the steps of the pen the same, whatever the words lie in.
module _ (F : RattleType) (laws : Laws F) (copy : IsCopy F) (words : WordsGhosts F.Denot) (dict : Dict) (clone : CloneGhosts F.Denot)
    (clone-dict : Dict) where
  pub found-step-one : (κs : Lfts 2) (a : Dens κs (found-step.Kinds.ps F laws copy))
      (r o : (res_t (found-step.Kinds.r F laws copy) κs).Denot)
      (e e' : AtExit (ended_of 2 (found-step.Kinds.ps F laws copy) (found-step.Kinds.r F laws copy)) κs)
      → found-step.Reads.Post F laws copy words dict clone clone-dict κs a r e
      → found-step.Reads.Post F laws copy words dict clone clone-dict κs a o e' → r ≡ o
  found-step-one κs a r o e e' p q = p ∙ sym q

  pub dummy-advance-one : (κs : Lfts 1) (a : Dens κs (dummy-advance.Kinds.ps F laws copy))
      (r o : (res_t (dummy-advance.Kinds.r F laws copy) κs).Denot)
      (e e' : AtExit (ended_of 1 (dummy-advance.Kinds.ps F laws copy) (dummy-advance.Kinds.r F laws copy)) κs)
      → dummy-advance.Reads.Post F laws copy words dict clone clone-dict κs a r e
      → dummy-advance.Reads.Post F laws copy words dict clone clone-dict κs a o e' → r ≡ o
  dummy-advance-one κs a r o e e' p q = p ∙ sym q

  pub step-one : (κs : Lfts 1) (a : Dens κs (step.Kinds.ps F laws copy)) (r o : (res_t (step.Kinds.r F laws copy) κs).Denot)
      (e e' : AtExit (ended_of 1 (step.Kinds.ps F laws copy) (step.Kinds.r F laws copy)) κs)
      → step.Reads.Post F laws copy words dict clone clone-dict κs a r e
      → step.Reads.Post F laws copy words dict clone clone-dict κs a o e' → r ≡ o
  step-one κs a r o e e' p q = p ∙ sym q
