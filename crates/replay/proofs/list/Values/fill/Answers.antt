use Rattle.std.proofs.Common.{rules, ℕ, ◌≡◌, ◌+◌, ◌-◌, List, ◌++◌, length, take, replicate, min, sym, ap, ◌∙◌, arith}
use Rattle.std.proofs.lemmas.List.{take_min, length-take}
use Rattle.std.proofs.lemmas.Slice.{take-put_mid}
use borrow.Rule.Slice.PartMut.{put_mid}
use Rattle.replay.specs.Lines.{values_of}
use Rattle.replay.proofs.list.Values.fill.Goals as goal

-- words that stand behind the first so many
more : (words new : List ℕ) (count times from m k word : ℕ) → from ≡ min count (length words) → m ≡ min times (length words - from)
    → length new ≡ m → new ≡ replicate m word
    → take (from + m) (put_mid from k words new)
    ≡ take count words ++ replicate (min times (length words - length (take count words))) word
more words new count times from m k word first some long same =
    let there : take from words ≡ take count words = ap (λ (n : ℕ). take n words) first ∙ take_min count words in
    let held : length (take count words) ≡ from = length-take count words ∙ sym first in
    let room : m ≡ min times (length words - length (take count words)) = some ∙ ap (λ (n : ℕ). min times (length words - n)) (sym held) in
    take-put_mid from k words new (from + m) (omega (arith, long)) (omega (arith, first))
    ∙ ap (λ (front : List ℕ). front ++ new) there
    ∙ ap (λ (rest : List ℕ). take count words ++ rest) (same ∙ ap (λ (n : ℕ). replicate n word) room)

pub returns : goal.returns
unfolding values_of
returns c =
    let long : length c.args.self.now.words ≡ 530000 = search rules in
    more c.args.self.now.words c.fill.new.self c.args.self.now.count c.args.times c.min-from.result c.min.result _ c.args.word
    (c.min-from.ensures ∙ ap (min c.args.self.now.count) (sym long))
    (c.min.ensures ∙ ap (λ (n : ℕ). min c.args.times (n - c.min-from.result)) (sym long))
    (search rules)
    (search rules)
