-- `preview::picture::put_header` puts part behind part.
use mathlib.Core.Path.{◌∙◌}
use native.Mathlib.Omega.{arith}
use Rattle.preview.specs.Picture.{header_of}
use Rattle.preview.proofs.Putting.{then}
use Rattle.preview.proofs.Pictures.{few_digits}
use Rattle.preview.proofs.picture.put_header.Goals as goal

pub put-at-requires-3 : goal.put-at-requires-3
put-at-requires-3 c = let columns = few_digits c.format.ensures.text c.as_bytes.ensures.value (omega arith) in omega arith

pub put-at-requires-4 : goal.put-at-requires-4
put-at-requires-4 c =
    let columns = few_digits c.format.ensures.text c.as_bytes.ensures.value (omega arith) in
    let rows = few_digits c.format-2.ensures.text c.as_bytes-2.ensures.value (omega arith) in omega arith

pub put-requires : goal.put-requires
put-requires c =
    let columns = few_digits c.format.ensures.text c.as_bytes.ensures.value (omega arith) in
    let rows = few_digits c.format-2.ensures.text c.as_bytes-2.ensures.value (omega arith) in omega arith

pub returns : goal.returns
unfolding header_of
returns c =
    let columns = few_digits c.format.ensures.text c.as_bytes.ensures.value (omega arith) in
    let rows = few_digits c.format-2.ensures.text c.as_bytes-2.ensures.value (omega arith) in
    let from-rows = then (rw (c.as_bytes-2.ensures.value ∙ c.format-2.ensures.text) at c.put-at-4.ensures) c.put.ensures (omega arith) in
    let from-space = then c.put-at-3.ensures from-rows (omega arith) in
    let from-columns = then (rw (c.as_bytes.ensures.value ∙ c.format.ensures.text) at c.put-at-2.ensures) from-space (omega arith) in
    record { put = then c.put-at.ensures from-columns (omega arith); small = omega arith }
