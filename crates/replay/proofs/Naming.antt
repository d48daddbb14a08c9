-- The words that the answers begin with are the names of the calls, which the table of calls tells by numbers.
use Rattle.std.proofs.Common.{◌≡◌, [], ◌∷◌, map, refl}
use Rattle.std.specs.Prelude.{codes}
use Rattle.replay.specs.Names.{check, glyph, dots, row, measure, paint, fresh, gather, join, apply, paintlit, applylit, clear, convert}
use Rattle.replay.specs.Text.{character_of, pair_bytes, last_pairs, name_bytes}

pub words-are-names :
    map name_bytes
    (check ∷ glyph ∷ dots ∷ row ∷ measure ∷ paint ∷ fresh ∷ gather ∷ join ∷ apply ∷ paintlit ∷ applylit ∷ clear ∷ convert ∷ [])
    ≡ codes "check" ∷ codes "glyph" ∷ codes "dots" ∷ codes "row" ∷ codes "measure" ∷ codes "paint" ∷ codes "fresh" ∷ codes "gather"
    ∷ codes "join" ∷ codes "apply" ∷ codes "paintlit" ∷ codes "applylit" ∷ codes "clear" ∷ codes "convert" ∷ []
unfolding name_bytes last_pairs pair_bytes character_of
words-are-names = refl
