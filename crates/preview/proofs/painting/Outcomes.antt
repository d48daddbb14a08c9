-- Two outcomes that a contract permits are equal, for the functions that only `preview::painting` has: the reply, and every byte or word
-- that was lent.
use Prim.Native.Nat.{ℕ}
use mathlib.Core.Path.{◌≡◌, sym, ap, ◌∙◌}
use mathlib.Core.List.{List}
use contract.Lifetimes.{Lfts}
use denote.Param.Laws.{Laws}
use denote.RattleType.{RattleType}
use denote.Triple.Clauses.{AtExit}
use mir.Syntax.{Dict}
use Rattle.std.specs.declared.io.Eprint.{Ghosts}
use borrow.Fn.Kinds.{Dens, res_t, ended_of}
use Rattle.words.proofs.Outcomes.{OneReply}
use Rattle.paint.specs.declared.Shape.{Shape}
use Rattle.preview.specs.declared.painting.Progress.{Progress}
use Rattle.preview.specs.Line.{Dots, counted}
use Rattle.preview.specs.Lines.{Taken}
use Rattle.preview.proofs.painting.Begun.first as first
use Rattle.preview.proofs.painting.Begun.kept as kept
use Rattle.preview.proofs.painting.Begun.next as next
use Rattle.preview.proofs.painting.Begun.push as push
use Rattle.preview.proofs.painting.Painter.paint_line as paint-line
use Rattle.preview.proofs.painting.Painter.take_byte as take-byte
use Rattle.preview.proofs.painting.Painter.take_bytes as take-bytes
use Rattle.preview.proofs.painting.Progress.first as beginning

-- ---- a panel with its counts, and what taking bytes leaves

both : {counts counts' panel panel' : List ℕ} → counted panel counts ≡ counted panel' counts' → (counts ≡ counts') × (panel ≡ panel')
both same = (ap (λ (d : Dots). d.counts) same, ap (λ (d : Dots). d.panel) same)

module _ {font bytes panel : List ℕ} {s : Shape} {before : Progress} where
  same_taken : {after after' : Progress} {panel' panel'' : List ℕ}
      → Taken font s bytes before panel after panel'
      → Taken font s bytes before panel after' panel''
      → (after ≡ after') × (panel' ≡ panel'')
  same_taken p q =
      let dots = both (p.paints ∙ sym q.paints) in
      let line = p.begins ∙ sym q.begins in
      (λ i. record { line = line i; counts = dots.0 i }, dots.1)

-- ---- the line that is being read

pub first_one : OneReply 0 first.Kinds.ps first.Kinds.r first.Reads.Post
first_one κs a r o e e' p q = p ∙ sym q

pub kept-one : (κs : Lfts 1) (a : Dens κs kept.Kinds.ps) (r o : (res_t kept.Kinds.r κs).Denot)
    (e e' : AtExit (ended_of 1 kept.Kinds.ps kept.Kinds.r) κs)
    → kept.Reads.Post κs a r e → kept.Reads.Post κs a o e' → r.now ≡ o.now
kept-one κs a r o e e' p q = p ∙ sym q

pub next_one : (κs : Lfts 1) (a : Dens κs next.Kinds.ps) (r o : (res_t next.Kinds.r κs).Denot)
    (e e' : AtExit (ended_of 1 next.Kinds.ps next.Kinds.r) κs)
    → next.Reads.Post κs a r e → next.Reads.Post κs a o e' → e.0.now ≡ e'.0.now
next_one κs a r o e e' p q = p ∙ sym q

pub push-one : (κs : Lfts 1) (a : Dens κs push.Kinds.ps) (r o : (res_t push.Kinds.r κs).Denot)
    (e e' : AtExit (ended_of 1 push.Kinds.ps push.Kinds.r) κs)
    → push.Reads.Post κs a r e → push.Reads.Post κs a o e' → e.0.now ≡ e'.0.now
push-one κs a r o e e' p q = p ∙ sym q

pub beginning-one : OneReply 0 beginning.Kinds.ps beginning.Kinds.r beginning.Reads.Post
beginning-one κs a r o e e' p q = p ∙ sym q

-- ---- painting

-- whatever the runtime that the messages are said by
module _ (runtime : RattleType) (laws : Laws runtime) (eprint : Ghosts runtime.Denot) (dict : Dict) where
  pub paint-line-one : (κs : Lfts 5) (a : Dens κs (paint-line.Kinds.ps runtime laws))
      (r o : (res_t (paint-line.Kinds.r runtime laws) κs).Denot)
      (e e' : AtExit (ended_of 5 (paint-line.Kinds.ps runtime laws) (paint-line.Kinds.r runtime laws)) κs)
      → paint-line.Reads.Post runtime laws eprint dict κs a r e → paint-line.Reads.Post runtime laws eprint dict κs a o e'
      → (r ≡ o) × (e.1.1.1.1.0.now ≡ e'.1.1.1.1.0.now)
  paint-line-one κs a r o e e' p q = both (p ∙ sym q)

  pub take-byte-one : (κs : Lfts 5) (a : Dens κs (take-byte.Kinds.ps runtime laws))
      (r o : (res_t (take-byte.Kinds.r runtime laws) κs).Denot)
      (e e' : AtExit (ended_of 5 (take-byte.Kinds.ps runtime laws) (take-byte.Kinds.r runtime laws)) κs)
      → take-byte.Reads.Post runtime laws eprint dict κs a r e → take-byte.Reads.Post runtime laws eprint dict κs a o e'
      → (e.1.1.1.0.now ≡ e'.1.1.1.0.now) × (e.1.1.1.1.0.now ≡ e'.1.1.1.1.0.now)
  take-byte-one κs a r o e e' p q = same_taken p q

  pub take-bytes-one : (κs : Lfts 6) (a : Dens κs (take-bytes.Kinds.ps runtime laws))
      (r o : (res_t (take-bytes.Kinds.r runtime laws) κs).Denot)
      (e e' : AtExit (ended_of 6 (take-bytes.Kinds.ps runtime laws) (take-bytes.Kinds.r runtime laws)) κs)
      → take-bytes.Reads.Post runtime laws eprint dict κs a r e → take-bytes.Reads.Post runtime laws eprint dict κs a o e'
      → (e.1.1.1.0.now ≡ e'.1.1.1.0.now) × (e.1.1.1.1.0.now ≡ e'.1.1.1.1.0.now)
  take-bytes-one κs a r o e e' p q = same_taken p.0 q.0
