-- A part of the bytes spells a part of the words.
use mathlib.Core.Path.{ap, ◌∙◌}
use Rattle.words.specs.Word.{words_of}
use Rattle.words.proofs.Bytes.{words-part}
use Rattle.words.proofs.list.RefSliceU8Words.part.Goals as goal

pub returns : goal.returns
returns c = record {
  words = ap words_of c.part_in.ensures ∙ words-part c.args.self.now c.args.from c.args.count;
  held = c.part_in.ensures;
}
