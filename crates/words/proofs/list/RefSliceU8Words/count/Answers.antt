-- Two bytes spell a word.
use mathlib.Core.Path.{sym}
use Rattle.words.proofs.Bytes.{words-length}
use Rattle.words.proofs.list.RefSliceU8Words.count.Goals as goal

pub returns : goal.returns
returns c = sym (words-length c.args.self.now)
