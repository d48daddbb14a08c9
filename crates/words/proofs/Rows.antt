-- Words that stand in rows, as many in each.
use Prim.Native.Nat.{ℕ, ◌+◌, ◌*◌, ◌/◌, ◌%◌, ◌<◌, ◌≤◌}
use mathlib.Core.Path.{◌≡◌, ap, ◌∙◌}
use native.Mathlib.Nat.{mul-add-div_right, mul-add-mod_self_right, div-eq_of_lt, mod-eq_of_lt, add-zero, suc-mul, mul_comm}
use native.Mathlib.Nat.{mul-le-mul_right}
use native.Mathlib.Numerals.{add-one}
use native.Mathlib.Omega.{arith}

-- word w of row r stands at r × R + w
pub row_of : (row rowwords w : ℕ) → w < rowwords → (row * rowwords + w) / rowwords ≡ row
row_of row rowwords w h = mul-add-div_right (omega arith) row w ∙ ap (λ (n : ℕ). row + n) (div-eq_of_lt h) ∙ add-zero row

pub word-of-row : (row rowwords w : ℕ) → w < rowwords → (row * rowwords + w) % rowwords ≡ w
word-of-row row rowwords w h = mul-add-mod_self_right row rowwords w ∙ mod-eq_of_lt h

-- a row within the panel or the bitmap ends within its words
pub row_room : (row rows rowwords room : ℕ) → row < rows → rowwords * rows ≤ room → row * rowwords + rowwords ≤ room
row_room row rows rowwords room h k =
    let upto : (row + 1) * rowwords ≤ rows * rowwords = mul-le-mul_right rowwords (omega arith) in
    let next : (row + 1) * rowwords ≡ row * rowwords + rowwords = ap (λ (n : ℕ). n * rowwords) (add-one row) ∙ suc-mul row rowwords in
    omega (arith, mul_comm rows rowwords)
