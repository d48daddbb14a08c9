-- What every dot promises.
use Prim.Native.Nat.{ℕ, ◌+◌, ◌*◌, ◌/◌, ◌%◌, ◌<◌, ◌≤◌}
use mathlib.Core.Path.{◌≡◌}
use mathlib.Core.Bool.{Bool, true, false, cond, ◌&&◌, and-false}
use mathlib.Core.List.{List}
use native.Mathlib.Omega.{arith}
use native.Mathlib.Nat.{mul-le-mul}
use lib.Dec.{ltb}
use borrow.Author.Tests.{le-ltb}
use Rattle.words.specs.Word.{word}
use Rattle.words.proofs.Digits.{bit-digit}
use Rattle.fonts.specs.declared.Glyph.{Glyph}
use Rattle.fonts.specs.Face.{dot_of}

choice-lt : (t : Bool) (x n : ℕ) → x < n → cond t x 0 < n
choice-lt true x n h = h
choice-lt false x n h = omega arith

-- a dot is 0 or 1
pub dot-bit : (ws : List ℕ) (g : Glyph) (r j : ℕ) → dot_of ws g r j < 2
unfolding dot_of
dot-bit ws g r j =
    choice-lt (ltb r g.height && ltb j g.columns) _ 2
    (bit-digit (word ws (g.bitmap + r * g.raster + (g.first + j) / 16)) ((g.first + j) % 16))

-- the dots of a row from a column on, as the bits of a word
abbrev pub dots_from : List ℕ → Glyph → ℕ → ℕ → ℕ → ℕ
dots_from ws g r column i = dot_of ws g r (column + i)

-- a row times the words of a row is far from wrapping
pub row-start : (row raster : ℕ) → row ≤ 4294967295 → raster ≤ 65535 → row * raster ≤ 281470681677825
row-start row raster h k = mul-le-mul h k

-- no dot lies in a row past the picture
pub dot-past : (ws : List ℕ) (g : Glyph) (r j : ℕ) → g.height ≤ r → dot_of ws g r j ≡ 0
unfolding dot_of
dot-past ws g r j h = rw (le-ltb r g.height h)

-- nor in a column past it
pub dot-beside : (ws : List ℕ) (g : Glyph) (r j : ℕ) → g.columns ≤ j → dot_of ws g r j ≡ 0
unfolding dot_of
dot-beside ws g r j h = rw (le-ltb j g.columns h, and-false (ltb r g.height))
