-- Two outcomes that a contract permits are equal: for the same arguments, whatever replies meet what a function ensures are one reply.
use Prim.Native.Nat.{ℕ}
use mathlib.Core.Path.{◌≡◌, sym, ◌∙◌}
use mathlib.Core.List.{List}
use contract.Lifetimes.{Lfts}
use denote.Triple.Clauses.{AtExit}
use borrow.Fn.Kinds.{ParamKind, ResultKind, Dens, res_t, Out, ended_of}
use Rattle.words.proofs.bit as bit
use Rattle.words.proofs.not_within as not-Within
use Rattle.words.proofs.place_of_word as place-of-word
use Rattle.words.proofs.put_bit as put-bit
use Rattle.words.proofs.outside as outside
use Rattle.words.proofs.place_of as place_of
use Rattle.words.proofs.word_at as word_at
use Rattle.words.proofs.part as part
use Rattle.words.proofs.word_in as word_in
use Rattle.words.proofs.odd_bytes as odd-bytes
use Rattle.words.proofs.part_in as part_in
use Rattle.words.proofs.from_bytes as from_bytes
use Rattle.words.proofs.to_bytes as to-bytes
use Rattle.words.proofs.Mode.of as Mode-of
use Rattle.words.proofs.refusal.Refusal.number as number
use Rattle.words.proofs.list.RefSliceU16Words.count as count
use Rattle.words.proofs.list.RefSliceU16Words.word as word
use Rattle.words.proofs.list.RefSliceU16Words.part as part-of-words
use Rattle.words.proofs.list.RefSliceU8Words.count as count-in-bytes
use Rattle.words.proofs.list.RefSliceU8Words.word as word-in-bytes
use Rattle.words.proofs.list.RefSliceU8Words.part as part-of-bytes
use Rattle.words.proofs.Effect.new as new
use Rattle.words.proofs.Effect.identity as identity
use Rattle.words.proofs.Effect.paint as paint
use Rattle.words.proofs.Effect.erase as erase
use Rattle.words.proofs.Effect.invert as invert
use Rattle.words.proofs.Effect.of as effect_of
use Rattle.words.proofs.Effect.join as join
use Rattle.words.proofs.Effect.apply as apply

-- what a function ensures determines its reply
abbrev pub OneReply : (n : ℕ) (ps : List (ParamKind n)) (r : ResultKind n) → Out n ps r → Type 0
OneReply n ps r Ensured =
    (κs : Lfts n) (arguments : Dens κs ps) (reply other : (res_t r κs).Denot) (after after' : AtExit (ended_of n ps r) κs)
    → Ensured κs arguments reply after
    → Ensured κs arguments other after'
    → reply ≡ other

pub mode-of-one : OneReply 0 Mode-of.Kinds.ps Mode-of.Kinds.r Mode-of.Reads.Post
mode-of-one κs a r o e e' p q = p ∙ sym q

pub number-one : OneReply 0 number.Kinds.ps number.Kinds.r number.Reads.Post
number-one κs a r o e e' p q = p ∙ sym q

pub new-one : OneReply 0 new.Kinds.ps new.Kinds.r new.Reads.Post
new-one κs a r o e e' p q = p ∙ sym q

pub identity-one : OneReply 0 identity.Kinds.ps identity.Kinds.r identity.Reads.Post
identity-one κs a r o e e' p q = p ∙ sym q

pub paint-one : OneReply 0 paint.Kinds.ps paint.Kinds.r paint.Reads.Post
paint-one κs a r o e e' p q = p ∙ sym q

pub erase-one : OneReply 0 erase.Kinds.ps erase.Kinds.r erase.Reads.Post
erase-one κs a r o e e' p q = p ∙ sym q

pub invert-one : OneReply 0 invert.Kinds.ps invert.Kinds.r invert.Reads.Post
invert-one κs a r o e e' p q = p ∙ sym q

pub effect-of-one : OneReply 0 effect_of.Kinds.ps effect_of.Kinds.r effect_of.Reads.Post
effect-of-one κs a r o e e' p q = p ∙ sym q

pub join_one : OneReply 0 join.Kinds.ps join.Kinds.r join.Reads.Post
join_one κs a r o e e' p q = p ∙ sym q

pub apply-one : OneReply 0 apply.Kinds.ps apply.Kinds.r apply.Reads.Post
apply-one κs a r o e e' p q = p ∙ sym q

pub bit-one : OneReply 0 bit.Kinds.ps bit.Kinds.r bit.Reads.Post
bit-one κs a r o e e' p q = p ∙ sym q

pub not-within-one : OneReply 0 not-Within.Kinds.ps not-Within.Kinds.r not-Within.Reads.Post
not-within-one κs a r o e e' p q = p ∙ sym q

pub place-of-word-one : OneReply 0 place-of-word.Kinds.ps place-of-word.Kinds.r place-of-word.Reads.Post
place-of-word-one κs a r o e e' p q = p ∙ sym q

pub put-bit-one : OneReply 0 put-bit.Kinds.ps put-bit.Kinds.r put-bit.Reads.Post
put-bit-one κs a r o e e' p q = p ∙ sym q

pub outside-one : OneReply 0 outside.Kinds.ps outside.Kinds.r outside.Reads.Post
outside-one κs a r o e e' p q = p ∙ sym q

pub place-of-one : OneReply 0 place_of.Kinds.ps place_of.Kinds.r place_of.Reads.Post
place-of-one κs a r o e e' p q = p ∙ sym q

pub word-at-one : OneReply 1 word_at.Kinds.ps word_at.Kinds.r word_at.Reads.Post
word-at-one κs a r o e e' p q = p ∙ sym q

pub part-one : (κs : Lfts 1) (a : Dens κs part.Kinds.ps) (r o : (res_t part.Kinds.r κs).Denot)
    (e e' : AtExit (ended_of 1 part.Kinds.ps part.Kinds.r) κs)
    → part.Reads.Post κs a r e → part.Reads.Post κs a o e' → r.now ≡ o.now
part-one κs a r o e e' p q = p ∙ sym q

pub word-in-one : OneReply 1 word_in.Kinds.ps word_in.Kinds.r word_in.Reads.Post
word-in-one κs a r o e e' p q = p ∙ sym q

pub odd-bytes-one : OneReply 1 odd-bytes.Kinds.ps odd-bytes.Kinds.r odd-bytes.Reads.Post
odd-bytes-one κs a r o e e' p q = p ∙ sym q

pub part-in-one : (κs : Lfts 1) (a : Dens κs part_in.Kinds.ps) (r o : (res_t part_in.Kinds.r κs).Denot)
    (e e' : AtExit (ended_of 1 part_in.Kinds.ps part_in.Kinds.r) κs)
    → part_in.Reads.Post κs a r e → part_in.Reads.Post κs a o e' → r.now ≡ o.now
part-in-one κs a r o e e' p q = p ∙ sym q

-- the list that the words are written over too
pub from-bytes-one : (κs : Lfts 2) (a : Dens κs from_bytes.Kinds.ps) (r o : (res_t from_bytes.Kinds.r κs).Denot)
    (e e' : AtExit (ended_of 2 from_bytes.Kinds.ps from_bytes.Kinds.r) κs)
    → from_bytes.Reads.Post κs a r e → from_bytes.Reads.Post κs a o e'
    → (r ≡ o) × (e.1.0.now ≡ e'.1.0.now)
from-bytes-one κs a r o e e' p q = (p.0 ∙ sym q.0, p.1 ∙ sym q.1)

pub to-bytes-one : (κs : Lfts 2) (a : Dens κs to-bytes.Kinds.ps) (r o : (res_t to-bytes.Kinds.r κs).Denot)
    (e e' : AtExit (ended_of 2 to-bytes.Kinds.ps to-bytes.Kinds.r) κs)
    → to-bytes.Reads.Post κs a r e → to-bytes.Reads.Post κs a o e'
    → (r ≡ o) × (e.1.0.now ≡ e'.1.0.now)
to-bytes-one κs a r o e e' p q = (p.0 ∙ sym q.0, p.1 ∙ sym q.1)

-- ---- of the lists of words, in words and in bytes

pub count-one : OneReply 1 count.Kinds.ps count.Kinds.r count.Reads.Post
count-one κs a r o e e' p q = p ∙ sym q

pub word-one : OneReply 1 word.Kinds.ps word.Kinds.r word.Reads.Post
word-one κs a r o e e' p q = p ∙ sym q

pub part-of-words-one : (κs : Lfts 1) (a : Dens κs part-of-words.Kinds.ps) (r o : (res_t part-of-words.Kinds.r κs).Denot)
    (e e' : AtExit (ended_of 1 part-of-words.Kinds.ps part-of-words.Kinds.r) κs)
    → part-of-words.Reads.Post κs a r e → part-of-words.Reads.Post κs a o e' → r.now ≡ o.now
part-of-words-one κs a r o e e' p q = p.1 ∙ sym q.1

pub count-in-bytes-one : OneReply 1 count-in-bytes.Kinds.ps count-in-bytes.Kinds.r count-in-bytes.Reads.Post
count-in-bytes-one κs a r o e e' p q = p ∙ sym q

pub word-in-bytes-one : OneReply 1 word-in-bytes.Kinds.ps word-in-bytes.Kinds.r word-in-bytes.Reads.Post
word-in-bytes-one κs a r o e e' p q = p ∙ sym q

pub part-of-bytes-one : (κs : Lfts 1) (a : Dens κs part-of-bytes.Kinds.ps) (r o : (res_t part-of-bytes.Kinds.r κs).Denot)
    (e e' : AtExit (ended_of 1 part-of-bytes.Kinds.ps part-of-bytes.Kinds.r) κs)
    → part-of-bytes.Reads.Post κs a r e → part-of-bytes.Reads.Post κs a o e' → r.now ≡ o.now
part-of-bytes-one κs a r o e e' p q = p.1 ∙ sym q.1
