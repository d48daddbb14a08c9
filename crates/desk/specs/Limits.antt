-- The limits of making words of bytes, and their order: rows as those of `claims: Limits`, which has every other call's.
use Rattle.std.specs.Prelude.{ℕ, List, [], ◌∷◌}
use Rattle.desk.specs.Desk.{words_number}

unfoldable pub words_limits : List (ℕ × ℕ)
words_limits =
    -- 14
    (words_number (0x12 ∷ 0x34 ∷ []) 2, 0)
    ∷ (words_number (0x12 ∷ 0x34 ∷ 0x56 ∷ []) 2, 14)
    ∷ (words_number (0x12 ∷ []) 2, 14)
    ∷ (words_number [] 0, 0)
    -- 27
    ∷ (words_number (0x12 ∷ 0x34 ∷ 0x56 ∷ 0x78 ∷ []) 2, 0)
    ∷ (words_number (0x12 ∷ 0x34 ∷ 0x56 ∷ 0x78 ∷ []) 1, 27)
    ∷ (words_number (0x12 ∷ 0x34 ∷ []) 0, 27)
    -- both
    ∷ (words_number (0x12 ∷ 0x34 ∷ 0x56 ∷ []) 0, 14)
    ∷ []
