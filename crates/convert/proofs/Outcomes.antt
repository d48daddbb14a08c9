-- Two outcomes that a contract permits are equal, for the public function of this crate and for those that its files share: the reply, and
-- every word of the lent output.
use mathlib.Core.Path.{◌≡◌, sym, ◌∙◌}
use contract.Lifetimes.{Lfts}
use denote.Triple.Clauses.{AtExit}
use borrow.Fn.Kinds.{Dens, res_t, ended_of}
use Rattle.words.proofs.Outcomes.{OneReply}
use Rattle.convert.proofs.convert as convert
use Rattle.convert.proofs.cu.Source.read as source_read
use Rattle.convert.proofs.cu.Places.of as place-of
use Rattle.convert.proofs.cu.spacing as spacing
use Rattle.convert.proofs.cu.dot as dot
use Rattle.convert.proofs.cu.left_of as left-of
use Rattle.convert.proofs.cu.columns_across as columns-across
use Rattle.convert.proofs.cu.offset as offset

pub convert-one : (κs : Lfts 2) (a : Dens κs convert.Kinds.ps) (r o : (res_t convert.Kinds.r κs).Denot)
    (e e' : AtExit (ended_of 2 convert.Kinds.ps convert.Kinds.r) κs)
    → convert.Reads.Post κs a r e → convert.Reads.Post κs a o e'
    → (r ≡ o) × (e.1.0.now ≡ e'.1.0.now)
convert-one κs a r o e e' p q = (p.0 ∙ sym q.0, p.1.0 ∙ sym q.1.0)

pub source-read-one : OneReply 1 source_read.Kinds.ps source_read.Kinds.r source_read.Reads.Post
source-read-one κs a r o e e' p q = p ∙ sym q

pub place-one : OneReply 1 place-of.Kinds.ps place-of.Kinds.r place-of.Reads.Post
place-one κs a r o e e' p q = p ∙ sym q

pub spacing-one : OneReply 1 spacing.Kinds.ps spacing.Kinds.r spacing.Reads.Post
spacing-one κs a r o e e' p q = p ∙ sym q

pub dot-one : OneReply 1 dot.Kinds.ps dot.Kinds.r dot.Reads.Post
dot-one κs a r o e e' p q = p ∙ sym q

pub left-of-one : OneReply 1 left-of.Kinds.ps left-of.Kinds.r left-of.Reads.Post
left-of-one κs a r o e e' p q = p.0 ∙ sym q.0

pub columns-across-one : OneReply 1 columns-across.Kinds.ps columns-across.Kinds.r columns-across.Reads.Post
columns-across-one κs a r o e e' p q = p.0 ∙ sym q.0

pub offset-one : OneReply 1 offset.Kinds.ps offset.Kinds.r offset.Reads.Post
offset-one κs a r o e e' p q = p ∙ sym q
