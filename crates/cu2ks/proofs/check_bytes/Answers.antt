-- `cu2ks::check_bytes` tests the number of bytes in the order of the definition.
use Rattle.words.specs.Refusal.{first_of}
use Rattle.words.proofs.Chain.{chain}
use Rattle.convert.specs.Conversion.{bytes_number}
use Rattle.cu2ks.proofs.check_bytes.Goals as goal

pub returns-then-bytes-gt-FILE : goal.returns-then-bytes-gt-FILE
unfolding bytes_number first_of
returns-then-bytes-gt-FILE c = search chain depth 20

pub returns-then-odd_bytes : goal.returns-then-odd_bytes
unfolding bytes_number first_of
returns-then-odd_bytes c = search (chain, c.odd_bytes.ensures, c.if-odd_bytes.true) depth 20

pub returns : goal.returns
unfolding bytes_number first_of
returns c = search chain depth 20
