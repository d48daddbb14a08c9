-- Two outcomes that a contract permits are equal, for each public function of this crate: the reply, and every word of a lent slice.
use mathlib.Core.Path.{◌≡◌, sym, ◌∙◌}
use contract.Lifetimes.{Lfts}
use denote.Triple.Clauses.{AtExit}
use borrow.Fn.Kinds.{Dens, res_t, ended_of}
use Rattle.words.proofs.Outcomes.{OneReply}
use Rattle.fonts.proofs.Readings.{same-answer}
use Rattle.paint.proofs.Shape.panel_words as panel-words
use Rattle.paint.proofs.Strip.of as strip-of
use Rattle.paint.proofs.bad_panel as bad-panel
use Rattle.paint.proofs.from_column as from-column
use Rattle.paint.proofs.upto_column as upto-column
use Rattle.paint.proofs.check_panel as check-panel
use Rattle.paint.proofs.check_with as check-with
use Rattle.paint.proofs.paint_row as paint-row
use Rattle.paint.proofs.measure as measure
use Rattle.paint.proofs.measure_bytes as measure-bytes
use Rattle.paint.proofs.paint_label as paint-label
use Rattle.paint.proofs.join_label as join-label
use Rattle.paint.proofs.paint as paint

pub panel-words-one : OneReply 0 panel-words.Kinds.ps panel-words.Kinds.r panel-words.Reads.Post
panel-words-one κs a r o e e' p q = p ∙ sym q

pub strip-of-one : OneReply 0 strip-of.Kinds.ps strip-of.Kinds.r strip-of.Reads.Post
strip-of-one κs a r o e e' p q = p ∙ sym q

pub from-column-one : OneReply 0 from-column.Kinds.ps from-column.Kinds.r from-column.Reads.Post
from-column-one κs a r o e e' p q = p ∙ sym q

pub upto-column-one : OneReply 0 upto-column.Kinds.ps upto-column.Kinds.r upto-column.Reads.Post
upto-column-one κs a r o e e' p q = p ∙ sym q

pub check-panel-one : OneReply 0 check-panel.Kinds.ps check-panel.Kinds.r check-panel.Reads.Post
check-panel-one κs a r o e e' p q = same-answer r o (p ∙ sym q)

pub check-with-one : OneReply 0 check-with.Kinds.ps check-with.Kinds.r check-with.Reads.Post
check-with-one κs a r o e e' p q = same-answer r o (p ∙ sym q)

pub bad-panel-one : OneReply 0 bad-panel.Kinds.ps bad-panel.Kinds.r bad-panel.Reads.Post
bad-panel-one κs a r o e e' p q = p ∙ sym q

pub measure-one : OneReply 2 measure.Kinds.ps measure.Kinds.r measure.Reads.Post
measure-one κs a r o e e' p q = p.0 ∙ sym q.0

pub measure-bytes-one : OneReply 2 measure-bytes.Kinds.ps measure-bytes.Kinds.r measure-bytes.Reads.Post
measure-bytes-one κs a r o e e' p q = p.0 ∙ sym q.0

pub paint-label-one : (κs : Lfts 3) (a : Dens κs paint-label.Kinds.ps) (r o : (res_t paint-label.Kinds.r κs).Denot)
    (e e' : AtExit (ended_of 3 paint-label.Kinds.ps paint-label.Kinds.r) κs)
    → paint-label.Reads.Post κs a r e → paint-label.Reads.Post κs a o e'
    → (r ≡ o) × (e.1.1.1.1.1.0.now ≡ e'.1.1.1.1.1.0.now)
paint-label-one κs a r o e e' p q = (p.0 ∙ sym q.0, p.1.0 ∙ sym q.1.0)

pub paint-row-one : (κs : Lfts 3) (a : Dens κs paint-row.Kinds.ps) (r o : (res_t paint-row.Kinds.r κs).Denot)
    (e e' : AtExit (ended_of 3 paint-row.Kinds.ps paint-row.Kinds.r) κs)
    → paint-row.Reads.Post κs a r e → paint-row.Reads.Post κs a o e'
    → e.1.1.1.1.1.1.0.now ≡ e'.1.1.1.1.1.1.0.now
paint-row-one κs a r o e e' p q = p ∙ sym q

pub join-label-one : (κs : Lfts 4) (a : Dens κs join-label.Kinds.ps) (r o : (res_t join-label.Kinds.r κs).Denot)
    (e e' : AtExit (ended_of 4 join-label.Kinds.ps join-label.Kinds.r) κs)
    → join-label.Reads.Post κs a r e → join-label.Reads.Post κs a o e'
    → (r ≡ o) × (e.1.1.1.1.1.0.now ≡ e'.1.1.1.1.1.0.now) × (e.1.1.1.1.1.1.0.now ≡ e'.1.1.1.1.1.1.0.now)
join-label-one κs a r o e e' p q = (p.0 ∙ sym q.0, p.1.0 ∙ sym q.1.0, p.1.1.0 ∙ sym q.1.1.0)

pub paint-one : (κs : Lfts 3) (a : Dens κs paint.Kinds.ps) (r o : (res_t paint.Kinds.r κs).Denot)
    (e e' : AtExit (ended_of 3 paint.Kinds.ps paint.Kinds.r) κs)
    → paint.Reads.Post κs a r e → paint.Reads.Post κs a o e'
    → (r ≡ o) × (e.1.1.1.1.0.now ≡ e'.1.1.1.1.0.now)
paint-one κs a r o e e' p q = (p.0 ∙ sym q.0, p.1.0 ∙ sym q.1.0)
