-- P1: "Old fonts without a blob." What the theorems about them speak of. No contract names it, since what a font shows needs no rule more.
use Rattle.std.specs.Prelude.{ℕ, ◌<◌, ◌≡◌, true, false, List, [], ◌∷◌, ◌⊎◌}
use Rattle.fonts.specs.Strike.{view_of, kerned, index}
use Rattle.fonts.specs.Kinds.{own_entry, dummy_entry}
use Rattle.fonts.specs.Face.{Face}

-- "PlainStrike files .. give the dummy no columns at all": its left edge is its right edge
pub record NoBlob (ws : List ℕ) : Type 0 where
  pub single : index (view_of ws).header ≡ false
  pub plain : kerned (view_of ws).header ≡ false
  pub bare : (dummy_entry (view_of ws) ws).left ≡ (dummy_entry (view_of ws) ws).right

-- "an absent code" of a plain font: "equal pointers mean that c doesn't exist", and one that "lies outside min to max"
abbrev pub Absent : List ℕ → ℕ → Type 0
Absent ws c =
    (c < (view_of ws).header.min) ⊎ ((view_of ws).header.max < c)
    ⊎ ((own_entry (view_of ws) ws c).left ≡ (own_entry (view_of ws) ws c).right)

-- a label of absent codes
unfoldable pub AllAbsent : List ℕ → List ℕ → Type 0
AllAbsent ws [] = Unit
AllAbsent ws (c ∷ text) = Absent ws c × AllAbsent ws text

-- "draws nothing, moves the pen by 0 and still counts as a substitute"
pub record Blank (face : Face) (c : ℕ) : Type 0 where
  pub nothing : (r j : ℕ) → face.dot (face.glyph c) r j ≡ 0
  pub still : (face.glyph c).advance ≡ 0
  pub counted : (face.glyph c).substitute ≡ true
