-- `preview::picture::put_picture` puts the rows behind the header.
use Prim.Native.Nat.{ℕ}
use mathlib.Core.Path.{◌≡◌, ap, ◌∙◌}
use lib.ListN.{length, take}
use lib.Seq.{length-take-le}
use Rattle.paint.specs.Panel.{panel_words}
use native.Mathlib.Omega.{arith}
use Rattle.preview.specs.Picture.{header_of}
use Rattle.preview.proofs.Pictures.{rows_behind}
use Rattle.preview.proofs.picture.put_picture.Goals as goal

pub returns : goal.returns
returns c =
    let size : length (take c.panel_words.result c.args.panel.now) ≡ panel_words c.args.s =
    ap (λ (k : ℕ). length (take k c.args.panel.now)) c.panel_words.ensures
    ∙ length-take-le (panel_words c.args.s) c.args.panel.now c.requires.s_in_bounds.2 in
    rows_behind (header_of c.args.s) (take (panel_words c.args.s) c.args.panel.now) _ c.args.out.now
    (ap (λ (k : ℕ). take k c.args.panel.now) c.panel_words.ensures)
    (omega arith)
    c.put_header-at.result
    c.to_bytes.result
    c.put_header-at.new.out
    c.to_bytes.new.bytes
    c.put_header-at.ensures.put
    c.to_bytes.ensures.value
    c.to_bytes.ensures.bytes
