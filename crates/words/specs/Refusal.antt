-- The refusals, their numbers and their order: the paper's "Numbers returned".
use Rattle.std.specs.Prelude.{ℕ, Bool, cond, List, [], ◌∷◌, eqb, ltb, ◌||◌, codes}
use Rattle.std.specs.declared.result.Result.{Result}
use Rattle.std.specs.declared.result.Result.TheVariants.{Ok, Err}
use Rattle.words.specs.declared.refusal.Refusal.{Refusal}
use Rattle.words.specs.declared.refusal.Refusal.TheVariants.{OddBytes, FontTooShort, NotAStrike, FontCodes, BodyCount, FontSize}
use Rattle.words.specs.declared.refusal.Refusal.TheVariants.{FontLength, Pointers, NoPicture, NoDummy, Panel, Strip, Start, LongLabel}
use Rattle.words.specs.declared.refusal.Refusal.TheVariants.{Mode, LitDots, CuSize, CuCutShort, CuCodes, CuOrigin, CuSpacing}
use Rattle.words.specs.declared.refusal.Refusal.TheVariants.{CuOffset, FontTooLarge, OutputTooShort}

-- the number of each refusal
abbrev pub number_of : Refusal → ℕ
number_of OddBytes = 14
number_of FontTooShort = 1
number_of NotAStrike = 2
number_of FontCodes = 3
number_of BodyCount = 15
number_of FontSize = 4
number_of FontLength = 5
number_of Pointers = 6
number_of NoPicture = 16
number_of NoDummy = 7
number_of Panel = 8
number_of Strip = 9
number_of Start = 10
number_of LongLabel = 11
number_of Mode = 12
number_of LitDots = 30
number_of CuSize = 20
number_of CuCutShort = 21
number_of CuCodes = 22
number_of CuOrigin = 23
number_of CuSpacing = 24
number_of CuOffset = 25
number_of FontTooLarge = 26
number_of OutputTooShort = 27

-- what is said of each: docs/REFUSALS.md, "message"
abbrev pub message_of : Refusal → List ℕ
message_of OddBytes = codes "odd number of bytes"
message_of FontTooShort = codes "font file too short for its header"
message_of NotAStrike = codes "not a plain or kerned strike file"
message_of FontCodes = codes "font codes out of order or over 255"
message_of BodyCount = codes "index: number of bodies not 1 to 128"
message_of FontSize = codes "size in the font's header out of range"
message_of FontLength = codes "font's length is not what its header says"
message_of Pointers = codes "font's column pointers out of order or past the bitmap"
message_of NoPicture = codes "index: a code names no picture"
message_of NoDummy = codes "font has no dummy character"
message_of Panel = codes "panel size out of range, or its memory too short"
message_of Strip = codes "strip over 31"
message_of Start = codes "x or y not -1024 to 1023"
message_of LongLabel = codes "label over 64 bytes"
message_of Mode = codes "mode over 2"
message_of LitDots = codes "lit dots of a strip out of range"
message_of CuSize = codes "CU file too short, or its raster size out of range"
message_of CuCutShort = codes "CU file ends inside a character"
message_of CuCodes = codes "CU code over 255, or there twice"
message_of CuOrigin = codes "CU file has no code 65 with a dot"
message_of CuSpacing = codes "CU spacing too large"
message_of CuOffset = codes "CU character too far right"
message_of FontTooLarge = codes "font to be written too large"
message_of OutputTooShort = codes "output memory too short"

-- all of them, in the table's order
abbrev pub every_refusal : List Refusal
every_refusal =
    OddBytes ∷ FontTooShort ∷ NotAStrike ∷ FontCodes ∷ BodyCount ∷ FontSize ∷ FontLength ∷ Pointers ∷ NoPicture ∷ NoDummy
    ∷ Panel ∷ Strip ∷ Start ∷ LongLabel ∷ Mode ∷ LitDots
    ∷ CuSize ∷ CuCutShort ∷ CuCodes ∷ CuOrigin ∷ CuSpacing ∷ CuOffset ∷ FontTooLarge ∷ OutputTooShort ∷ []

-- the one of these with that number; the last, for a number that is none's
unfoldable pub numbered : ℕ → List Refusal → Refusal
numbered number [] = OutputTooShort
numbered number (refusal ∷ others) = cond (eqb (number_of refusal) number) refusal (numbered number others)

-- the refusal of a number
unfoldable pub refusal_of : ℕ → Refusal
refusal_of number = numbered number every_refusal

-- "0 means done": the number of what a call answers
abbrev pub returned : {A : Type 0} → Result A Refusal → ℕ
returned (Ok value) = 0
returned (Err refusal) = number_of refusal

-- what a call answers by its number: the value beside 0, and else the refusal of that number
unfoldable pub answered : {A : Type 0} → ℕ → A → Result A Refusal
answered number value = cond (eqb number 0) (Ok value) (Err (refusal_of number))

-- "The order is the table's, top to bottom": the number beside the first test that holds. "0 means done."
unfoldable pub first_of : List (Bool × ℕ) → ℕ
first_of [] = 0
first_of (rule ∷ rules) = cond rule.0 rule.1 (first_of rules)

-- the first number, and where that is 0 the second: one part of the table after another
unfoldable pub or_else : ℕ → ℕ → ℕ
or_else first second = cond (eqb first 0) second first

-- "not LEAST..MOST"
unfoldable pub not_within : ℕ → ℕ → ℕ → Bool
not_within least most n = ltb n least || ltb most n
