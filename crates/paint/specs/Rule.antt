-- The paper's rule of painting, dot by dot, in whole numbers with a sign: what demand 2 speaks of. It knows characters, their pictures,
-- rows and columns, and neither masks nor words.
use Rattle.std.specs.Prelude.{ℕ, ◌+◌, ◌-◌, ◌*◌, ◌/◌, ◌%◌, ◌≤◌, ◌<◌, ◌≡◌, cond, List, [], ◌∷◌, eqb, ℤ, pos, ◌+ℤ◌, ◌-ℤ◌}
use Rattle.words.specs.declared.Mode.{Mode}
use Rattle.words.specs.declared.Mode.TheVariants.{Paint, Erase, Invert}
use Rattle.words.specs.Word.{word, bit_of}
use Rattle.words.specs.Place.{number_at, dot_at}
use Rattle.words.specs.Effect.{mode_of}
use Rattle.fonts.specs.declared.Glyph.{Glyph}
use Rattle.fonts.specs.Face.{Face, face_of}
use Rattle.paint.specs.declared.Shape.{Shape}
use Rattle.paint.specs.declared.Label.{Label}
use Rattle.paint.specs.Panel.{strip_of}
use Rattle.paint.specs.Pen.{in_strip}
use Rattle.paint.specs.Label.{Call}

-- the dot of a panel in a row and column
unfoldable pub panel_dot : Shape → List ℕ → ℕ → ℕ → ℕ
panel_dot s panel row column = bit_of (word panel (row * s.rowwords + column / 16)) (column % 16)

-- a character of a label: what is drawn for it, and where the pen stands before it, in strip columns
pub record Character : Type 0 where
  pub glyph : Glyph
  pub pen : ℤ

-- the characters of a text, in order, where the pen starts at x; "the pen moves by" each one's advance
unfoldable pub characters_from : Face → ℤ → List ℕ → List Character
characters_from face x [] = []
characters_from face x (c ∷ text) =
    let g = face.glyph c in
    record { glyph = g; pen = x } ∷ characters_from face (x +ℤ pos g.advance) text

abbrev pub characters_of : Call → List Character
characters_of call = characters_from (face_of call.font) call.label.x call.text

-- "The reply is the last pen and the substitutes": where the pen stands behind a text, and how many of its codes the dummy stood in for
unfoldable pub pen_behind : Face → ℤ → List ℕ → ℤ
pen_behind face x [] = x
pen_behind face x (c ∷ text) = pen_behind face (x +ℤ pos (face.glyph c).advance) text

unfoldable pub substitutes_in : Face → List ℕ → ℕ
substitutes_in face [] = 0
substitutes_in face (c ∷ text) = cond (face.glyph c).substitute 1 0 + substitutes_in face text

-- "Picture row r lands on panel row y - ascent + r": the row of its top
abbrev pub top_row : Label → Character → ℤ
top_row l ch = l.y -ℤ pos ch.glyph.ascent

-- "the left column goes to pen + FBBox + offset", plain "to the pen", in strip columns; "Strip k is columns kW to kW + W - 1".
-- What FBBox + offset is stands in `fonts: Entry.left_from_pen`, and `fonts: proofs/Left.glyph-left` says that it is the glyph's place
abbrev pub left_column : Shape → Label → Character → ℤ
left_column s l ch = pos (strip_of s l.strip).from +ℤ (ch.pen +ℤ number_at ch.glyph.place)

-- the dot of a character's picture that lands on a row and column of the panel. "Dots outside the strip or the panel are dropped"
unfoldable pub landing : (Glyph → ℕ → ℕ → ℕ) → Shape → Label → Character → ℕ → ℕ → ℕ
landing dot s l ch row column =
    dot_at (dot ch.glyph) (pos row -ℤ top_row l ch) (pos column -ℤ left_column s l ch) * in_strip (strip_of s l.strip) column

-- the same as a fact: dot (r, j) of the picture is 1 and lands there
pub record Lands (dot : Glyph → ℕ → ℕ → ℕ) (s : Shape) (l : Label) (ch : Character) (row column : ℕ) : Type 0 where
  pub r : ℕ
  pub j : ℕ
  pub set : dot ch.glyph r j ≡ 1
  pub down : pos row ≡ l.y -ℤ pos ch.glyph.ascent +ℤ pos r
  pub across : pos column ≡ pos (l.strip * s.width) +ℤ (ch.pen +ℤ number_at ch.glyph.place) +ℤ pos j
  pub from : l.strip * s.width ≤ column
  pub upto : column < l.strip * s.width + s.width

-- "Paint sets, Erase clears, Invert flips each dot of the picture that is 1": a dot of the panel under a dot of a picture
unfoldable pub dot_under : Mode → ℕ → ℕ → ℕ
dot_under Paint picture dot = cond (eqb picture 1) 1 dot
dot_under Erase picture dot = cond (eqb picture 1) 0 dot
dot_under Invert picture dot = cond (eqb picture 1) (1 - dot) dot

-- "Characters are drawn in order": a dot of the panel under the pictures of some characters, by the dot of each that lands on it
unfoldable pub dot_under_all : Mode → (Character → ℕ) → List Character → ℕ → ℕ
dot_under_all mode lands [] dot = dot
dot_under_all mode lands (ch ∷ chs) dot = dot_under_all mode lands chs (dot_under mode (lands ch) dot)

-- a dot of the panel after an accepted call
unfoldable pub dot_after : Shape → Call → ℕ → ℕ → ℕ → ℕ
dot_after s call row column dot =
    let lands : Character → ℕ = λ ch. landing (face_of call.font).dot s call.label ch row column in
    dot_under_all (mode_of call.label.mode) lands (characters_of call) dot

-- each character of a list is so
unfoldable pub Each : (Character → Type 0) → List Character → Type 0
Each So [] = Unit
Each So (ch ∷ chs) = So ch × Each So chs
