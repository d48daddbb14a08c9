-- Two outcomes that a contract permits are equal, for each public function of this crate. A part is told by the words that it holds.
use mathlib.Core.Path.{◌≡◌, sym, ◌∙◌}
use contract.Lifetimes.{Lfts}
use denote.Param.Laws.{Laws, IsCopy}
use denote.RattleType.{RattleType}
use denote.Triple.Clauses.{AtExit}
use mir.Syntax.{Dict}
use Rattle.std.specs.declared.clone.Clone.{Ghosts as CloneGhosts}
use Rattle.words.specs.declared.list.Words.{Ghosts as WordsGhosts}
use borrow.Fn.Kinds.{Dens, res_t, ended_of}
use Rattle.words.proofs.Outcomes.{OneReply}
use Rattle.fonts.proofs.Readings.{same-answer}
use Rattle.fonts.proofs.Header.by as header-by
use Rattle.fonts.proofs.count_at as count-at
use Rattle.fonts.proofs.Header.index as index
use Rattle.fonts.proofs.Header.map_at as map-at
use Rattle.fonts.proofs.Header.first_at as first-at
use Rattle.fonts.proofs.Body.pointers as body-pointers
use Rattle.fonts.proofs.Strike.nothing as nothing
use Rattle.fonts.proofs.Strike.pointers_at as pointers-at
use Rattle.fonts.proofs.View.first as first
use Rattle.fonts.proofs.View.strike as strike
use Rattle.fonts.proofs.Name.of as name_of
use Rattle.fonts.proofs.map as map
use Rattle.fonts.proofs.find_bitmaps as find-bitmaps
use Rattle.fonts.proofs.bitmaps as bitmaps
use Rattle.fonts.proofs.number_at as number_at
use Rattle.fonts.proofs.marked as marked
use Rattle.fonts.proofs.in_range as in-range
use Rattle.fonts.proofs.check_front as check-front
use Rattle.fonts.proofs.fallen_with as fallen-with
use Rattle.fonts.proofs.bad_pointers as bad-pointers
use Rattle.fonts.proofs.Named.of as named-of
use Rattle.fonts.proofs.Glyph.named as glyph-named
use Rattle.fonts.proofs.Glyph.found as glyph-found
use Rattle.fonts.proofs.rows_in_all as rows-in-all
use Rattle.fonts.proofs.View.of as view_of
use Rattle.fonts.proofs.Header.kerned as kerned
use Rattle.fonts.proofs.Entry.advance as advance
use Rattle.fonts.proofs.pointers as pointers
use Rattle.fonts.proofs.widths as widths
use Rattle.fonts.proofs.Header.codes as codes
use Rattle.fonts.proofs.Header.place as place
use Rattle.fonts.proofs.check_head as check-head
use Rattle.fonts.proofs.number as number
use Rattle.fonts.proofs.read as read
use Rattle.fonts.proofs.Step.by as step_by
use Rattle.fonts.proofs.Glyph.at as glyph-at
use Rattle.fonts.proofs.Glyph.of as glyph-of
use Rattle.fonts.proofs.Glyph.step as step
use Rattle.fonts.proofs.Glyph.dots as dots
use Rattle.fonts.proofs.row as row

pub header-by-one : OneReply 0 header-by.Kinds.ps header-by.Kinds.r header-by.Reads.Post
header-by-one κs a r o e e' p q = p ∙ sym q

pub count-at-one : OneReply 0 count-at.Kinds.ps count-at.Kinds.r count-at.Reads.Post
count-at-one κs a r o e e' p q = p ∙ sym q

pub index-one : OneReply 0 index.Kinds.ps index.Kinds.r index.Reads.Post
index-one κs a r o e e' p q = p ∙ sym q

pub map-at-one : OneReply 0 map-at.Kinds.ps map-at.Kinds.r map-at.Reads.Post
map-at-one κs a r o e e' p q = p.0 ∙ sym q.0

pub first-at-one : OneReply 0 first-at.Kinds.ps first-at.Kinds.r first-at.Reads.Post
first-at-one κs a r o e e' p q = p.0 ∙ sym q.0

pub body-pointers-one : OneReply 0 body-pointers.Kinds.ps body-pointers.Kinds.r body-pointers.Reads.Post
body-pointers-one κs a r o e e' p q = p ∙ sym q

pub nothing-one : OneReply 0 nothing.Kinds.ps nothing.Kinds.r nothing.Reads.Post
nothing-one κs a r o e e' p q = p ∙ sym q

pub first_one : OneReply 0 first.Kinds.ps first.Kinds.r first.Reads.Post
first_one κs a r o e e' p q = p ∙ sym q

pub name-of-one : OneReply 0 name_of.Kinds.ps name_of.Kinds.r name_of.Reads.Post
name-of-one κs a r o e e' p q = p.0 ∙ sym q.0

pub number-at-one : OneReply 1 number_at.Kinds.ps number_at.Kinds.r number_at.Reads.Post
number-at-one κs a r o e e' p q = p ∙ sym q

pub marked-one : OneReply 0 marked.Kinds.ps marked.Kinds.r marked.Reads.Post
marked-one κs a r o e e' p q = p ∙ sym q

pub in-range-one : OneReply 0 in-range.Kinds.ps in-range.Kinds.r in-range.Reads.Post
in-range-one κs a r o e e' p q = p ∙ sym q

pub check-front-one : OneReply 0 check-front.Kinds.ps check-front.Kinds.r check-front.Reads.Post
check-front-one κs a r o e e' p q = same-answer r o (p ∙ sym q)

pub fallen-with-one : OneReply 0 fallen-with.Kinds.ps fallen-with.Kinds.r fallen-with.Reads.Post
fallen-with-one κs a r o e e' p q = p ∙ sym q

pub bad-pointers-one : OneReply 0 bad-pointers.Kinds.ps bad-pointers.Kinds.r bad-pointers.Reads.Post
bad-pointers-one κs a r o e e' p q = p ∙ sym q

pub glyph-found-one : OneReply 2 glyph-found.Kinds.ps glyph-found.Kinds.r glyph-found.Reads.Post
glyph-found-one κs a r o e e' p q = p ∙ sym q

pub rows-in-all-one : OneReply 1 rows-in-all.Kinds.ps rows-in-all.Kinds.r rows-in-all.Reads.Post
rows-in-all-one κs a r o e e' p q = p ∙ sym q

pub kerned-one : OneReply 0 kerned.Kinds.ps kerned.Kinds.r kerned.Reads.Post
kerned-one κs a r o e e' p q = p ∙ sym q

pub advance-one : OneReply 0 advance.Kinds.ps advance.Kinds.r advance.Reads.Post
advance-one κs a r o e e' p q = p ∙ sym q

pub codes-one : OneReply 0 codes.Kinds.ps codes.Kinds.r codes.Reads.Post
codes-one κs a r o e e' p q = p ∙ sym q

pub place-one : OneReply 0 place.Kinds.ps place.Kinds.r place.Reads.Post
place-one κs a r o e e' p q = p ∙ sym q

pub check-head-one : OneReply 0 check-head.Kinds.ps check-head.Kinds.r check-head.Reads.Post
check-head-one κs a r o e e' p q = same-answer r o (p ∙ sym q)

pub pointers-at-one : OneReply 0 pointers-at.Kinds.ps pointers-at.Kinds.r pointers-at.Reads.Post
pointers-at-one κs a r o e e' p q = p.0 ∙ sym q.0

pub step-by-one : OneReply 0 step_by.Kinds.ps step_by.Kinds.r step_by.Reads.Post
step-by-one κs a r o e e' p q = p ∙ sym q

pub glyph-at-one : OneReply 2 glyph-at.Kinds.ps glyph-at.Kinds.r glyph-at.Reads.Post
glyph-at-one κs a r o e e' p q = p ∙ sym q

pub glyph-of-one : OneReply 1 glyph-of.Kinds.ps glyph-of.Kinds.r glyph-of.Reads.Post
glyph-of-one κs a r o e e' p q = p ∙ sym q

pub step-one : OneReply 0 step.Kinds.ps step.Kinds.r step.Reads.Post
step-one κs a r o e e' p q = p ∙ sym q

pub dots-one : OneReply 1 dots.Kinds.ps dots.Kinds.r dots.Reads.Post
dots-one κs a r o e e' p q = p ∙ sym q

pub row_one : (κs : Lfts 1) (a : Dens κs row.Kinds.ps) (r o : (res_t row.Kinds.r κs).Denot)
    (e e' : AtExit (ended_of 1 row.Kinds.ps row.Kinds.r) κs)
    → row.Reads.Post κs a r e → row.Reads.Post κs a o e' → r.now ≡ o.now
row_one κs a r o e e' p q = p ∙ sym q

pub named-of-one : OneReply 2 named-of.Kinds.ps named-of.Kinds.r named-of.Reads.Post
named-of-one κs a r o e e' p q = p ∙ sym q

pub glyph-named-one : OneReply 2 glyph-named.Kinds.ps glyph-named.Kinds.r glyph-named.Reads.Post
glyph-named-one κs a r o e e' p q = p ∙ sym q

-- Of what reads words and bytes alike the same, whatever the words lie in. A part is told by the numbers that it holds.
module _ (F : RattleType) (laws : Laws F) (copy : IsCopy F) (words : WordsGhosts F.Denot) (dict : Dict) (clone : CloneGhosts F.Denot)
    (clone-dict : Dict) where
  pub view-of-one : (κs : Lfts 1) (a : Dens κs (view_of.Kinds.ps F laws copy)) (r o : (res_t (view_of.Kinds.r F laws copy) κs).Denot)
      (e e' : AtExit (ended_of 1 (view_of.Kinds.ps F laws copy) (view_of.Kinds.r F laws copy)) κs)
      → view_of.Reads.Post F laws copy words dict clone clone-dict κs a r e
      → view_of.Reads.Post F laws copy words dict clone clone-dict κs a o e' → r ≡ o
  view-of-one κs a r o e e' p q = p ∙ sym q

  pub strike-one : (κs : Lfts 2) (a : Dens κs (strike.Kinds.ps F laws copy)) (r o : (res_t (strike.Kinds.r F laws copy) κs).Denot)
      (e e' : AtExit (ended_of 2 (strike.Kinds.ps F laws copy) (strike.Kinds.r F laws copy)) κs)
      → strike.Reads.Post F laws copy words dict clone clone-dict κs a r e
      → strike.Reads.Post F laws copy words dict clone clone-dict κs a o e' → r ≡ o
  strike-one κs a r o e e' p q = p ∙ sym q

  pub pointers-one : (κs : Lfts 1) (a : Dens κs (pointers.Kinds.ps F laws copy)) (r o : (res_t (pointers.Kinds.r F laws copy) κs).Denot)
      (e e' : AtExit (ended_of 1 (pointers.Kinds.ps F laws copy) (pointers.Kinds.r F laws copy)) κs)
      → pointers.Reads.Post F laws copy words dict clone clone-dict κs a r e
      → pointers.Reads.Post F laws copy words dict clone clone-dict κs a o e' → words.held r ≡ words.held o
  pointers-one κs a r o e e' p q = p.1 ∙ sym q.1

  pub widths-one : (κs : Lfts 1) (a : Dens κs (widths.Kinds.ps F laws copy)) (r o : (res_t (widths.Kinds.r F laws copy) κs).Denot)
      (e e' : AtExit (ended_of 1 (widths.Kinds.ps F laws copy) (widths.Kinds.r F laws copy)) κs)
      → widths.Reads.Post F laws copy words dict clone clone-dict κs a r e
      → widths.Reads.Post F laws copy words dict clone clone-dict κs a o e' → words.held r ≡ words.held o
  widths-one κs a r o e e' p q = p.1 ∙ sym q.1

  pub map-one : (κs : Lfts 1) (a : Dens κs (map.Kinds.ps F laws copy)) (r o : (res_t (map.Kinds.r F laws copy) κs).Denot)
      (e e' : AtExit (ended_of 1 (map.Kinds.ps F laws copy) (map.Kinds.r F laws copy)) κs)
      → map.Reads.Post F laws copy words dict clone clone-dict κs a r e
      → map.Reads.Post F laws copy words dict clone clone-dict κs a o e' → words.held r ≡ words.held o
  map-one κs a r o e e' p q = p.1 ∙ sym q.1

  pub bitmaps-one : (κs : Lfts 1) (a : Dens κs (bitmaps.Kinds.ps F laws copy)) (r o : (res_t (bitmaps.Kinds.r F laws copy) κs).Denot)
      (e e' : AtExit (ended_of 1 (bitmaps.Kinds.ps F laws copy) (bitmaps.Kinds.r F laws copy)) κs)
      → bitmaps.Reads.Post F laws copy words dict clone clone-dict κs a r e
      → bitmaps.Reads.Post F laws copy words dict clone clone-dict κs a o e' → r ≡ o
  bitmaps-one κs a r o e e' p q = p ∙ sym q

  pub find-bitmaps-one : (κs : Lfts 2) (a : Dens κs (find-bitmaps.Kinds.ps F laws copy))
      (r o : (res_t (find-bitmaps.Kinds.r F laws copy) κs).Denot)
      (e e' : AtExit (ended_of 2 (find-bitmaps.Kinds.ps F laws copy) (find-bitmaps.Kinds.r F laws copy)) κs)
      → find-bitmaps.Reads.Post F laws copy words dict clone clone-dict κs a r e
      → find-bitmaps.Reads.Post F laws copy words dict clone clone-dict κs a o e' → e.1.1.0.now ≡ e'.1.1.0.now
  find-bitmaps-one κs a r o e e' p q = p ∙ sym q

  pub number-one : (κs : Lfts 1) (a : Dens κs (number.Kinds.ps F laws copy)) (r o : (res_t (number.Kinds.r F laws copy) κs).Denot)
      (e e' : AtExit (ended_of 1 (number.Kinds.ps F laws copy) (number.Kinds.r F laws copy)) κs)
      → number.Reads.Post F laws copy words dict clone clone-dict κs a r e
      → number.Reads.Post F laws copy words dict clone clone-dict κs a o e' → r ≡ o
  number-one κs a r o e e' p q = p ∙ sym q

  pub read_one : (κs : Lfts 1) (a : Dens κs (read.Kinds.ps F laws copy)) (r o : (res_t (read.Kinds.r F laws copy) κs).Denot)
      (e e' : AtExit (ended_of 1 (read.Kinds.ps F laws copy) (read.Kinds.r F laws copy)) κs)
      → read.Reads.Post F laws copy words dict clone clone-dict κs a r e
      → read.Reads.Post F laws copy words dict clone clone-dict κs a o e' → r ≡ o
  read_one κs a r o e e' p q = p.0 ∙ sym q.0
