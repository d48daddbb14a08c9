-- `counts::lit_in` meets its contract: the band of the strip in these rows holds its dots.
-- Assumes nothing.
use Prim.Native.Nat.{◌+◌}
use mathlib.Core.Path.{refl, ap, ◌∙◌}
use native.Mathlib.Omega.{arith}
use lib.ListN.{length}
use Rattle.words.specs.Word.{word}
use Rattle.paint.proofs.Accepted.{good-panel}
use Rattle.counts.specs.declared.Band.{Band}
use Rattle.counts.specs.Band.{lit_in_words}
use Rattle.counts.proofs.Bands.{band-dots}
use Rattle.counts.proofs.Counting.{inside-same}
use Rattle.counts.proofs.Settling.{good-width, inside-rows}
use Rattle.counts.proofs.lit_in.Goals as goal

pub of-requires : goal.of-requires
of-requires c =
    let low = (good-panel c.args.s (length c.args.panel.now) c.requires.0).low in
    (omega (arith, low, c.requires.2), (good-width c.args.s (length c.args.panel.now) c.requires.0).0)

pub lit-requires : goal.lit-requires
lit-requires c =
    inside-same _ _ _ _ c.of.ensures refl
    (inside-rows c.args.s c.args.k (length c.args.panel.now) c.requires.0 c.requires.1 c.args.rows.first c.args.rows.count c.requires.2)

pub returns : goal.returns
returns c =
    let wide = (good-width c.args.s (length c.args.panel.now) c.requires.0).0 in record {
      value = c.lit.ensures.value ∙ ap (λ (b : Band). lit_in_words b (word c.args.panel.now) (b.last + 1)) c.of.ensures
          ∙ band-dots c.args.s c.args.k c.args.rows.first c.args.rows.count wide c.args.panel.now;
      near = c.lit.ensures.near;
    }
