-- The lines of bytes are those that spell them: with newlines between them they are the bytes, and none has a newline in it. They are
-- numbered one after the other.
use Prim.Native.Nat.{ℕ, zero, suc, ◌+◌, ◌≤◌}
use mathlib.Core.Path.{◌≡◌, refl, sym, ap₂, ◌∙◌}
use mathlib.Core.Bool.{Bool, cond}
use mathlib.Core.List.{List, [], ◌∷◌, ◌++◌, append-nil}
use native.Mathlib.Omega.{arith}
use lib.Dec.{eqb}
use lib.ListN.{length, get_or}
use lib.Seq.{append_snoc}
use borrow.Author.Tests.{eqb-true, eqb-false}
use Rattle.preview.specs.Begun.{Begun, last_number, next_line, longer_line}
use Rattle.preview.specs.Lines.{ended, unended, lines_of, line_after}
use Rattle.preview.proofs.Cutting.{by-test}

-- lines with a newline between each and the next
unfoldable pub spelt : List (List ℕ) → List ℕ
spelt [] = []
spelt (line ∷ []) = line
spelt (line ∷ (next ∷ lines)) = line ++ (10 ∷ spelt (next ∷ lines))

-- a line, and each of several, without a newline in it
abbrev pub Unbroken : List ℕ → Type 0
Unbroken line = (i : ℕ) → get_or line i 0 ≡ 10 → ⊥

unfoldable pub AllUnbroken : List (List ℕ) → Type 0
AllUnbroken [] = Unit {0}
AllUnbroken (line ∷ lines) = Unbroken line × AllUnbroken lines

-- ---- with newlines between them they are the bytes

one_more : (line : List ℕ) (lines : List (List ℕ)) (last : List ℕ)
    → spelt (line ∷ (lines ++ (last ∷ []))) ≡ line ++ (10 ∷ spelt (lines ++ (last ∷ [])))
unfolding spelt
one_more line [] last = refl
one_more line (next ∷ lines) last = refl

spelt-from : (begun bytes : List ℕ) → spelt (ended begun bytes ++ (unended begun bytes ∷ [])) ≡ begun ++ bytes
unfolding ended unended spelt
spelt-from begun [] = sym (append-nil begun)
spelt-from begun (b ∷ bytes) =
    by-test
    (λ (t : Bool).
    eqb b 10 ≡ t
    → spelt
    (cond t (begun ∷ ended [] bytes) (ended (begun ++ (b ∷ [])) bytes)
    ++ (cond t (unended [] bytes) (unended (begun ++ (b ∷ [])) bytes) ∷ []))
    ≡ begun ++ (b ∷ bytes))
    (λ newline.
    one_more begun (ended [] bytes) (unended [] bytes)
    ∙ ap₂ (λ (c : ℕ) (l : List ℕ). begun ++ (c ∷ l)) (sym (eqb-true b 10 newline)) (spelt-from [] bytes))
    (λ other. spelt-from (begun ++ (b ∷ [])) bytes ∙ append_snoc begun b bytes)
    (eqb b 10)
    refl

pub lines-spell : (bytes : List ℕ) → spelt (lines_of bytes) ≡ bytes
unfolding lines_of
lines-spell bytes = spelt-from [] bytes

-- ---- none has a newline in it

nothing-unbroken : Unbroken []
nothing-unbroken i e = omega arith

unbroken-on : (line : List ℕ) (b : ℕ) → Unbroken line → (b ≡ 10 → ⊥) → Unbroken (line ++ (b ∷ []))
unbroken-on [] b here other zero e = other e
unbroken-on [] b here other (suc i) e = nothing-unbroken i e
unbroken-on (a ∷ line) b here other zero e = here 0 e
unbroken-on (a ∷ line) b here other (suc i) e = unbroken-on line b (λ j. here (suc j)) other i e

unbroken-from : (begun bytes : List ℕ) → Unbroken begun → AllUnbroken (ended begun bytes ++ (unended begun bytes ∷ []))
unfolding ended unended AllUnbroken
unbroken-from begun [] here = (here, tt)
unbroken-from begun (b ∷ bytes) here =
    by-test
    (λ (t : Bool).
    eqb b 10 ≡ t
    → AllUnbroken
    (cond t (begun ∷ ended [] bytes) (ended (begun ++ (b ∷ [])) bytes)
    ++ (cond t (unended [] bytes) (unended (begun ++ (b ∷ [])) bytes) ∷ [])))
    (λ newline. (here, unbroken-from [] bytes nothing-unbroken))
    (λ other. unbroken-from (begun ++ (b ∷ [])) bytes (unbroken-on begun b here (eqb-false b 10 other)))
    (eqb b 10)
    refl

pub lines-unbroken : (bytes : List ℕ) → AllUnbroken (lines_of bytes)
unfolding lines_of
lines-unbroken bytes = unbroken-from [] bytes nothing-unbroken

-- ---- they are numbered one after the other

-- as long as the numbers last, each line that has ended counts one
pub lines-numbered : (begun bytes : List ℕ) (line : Begun) → line.number + length (ended begun bytes) ≤ last_number
    → (line_after bytes line).number ≡ line.number + length (ended begun bytes)
unfolding ended line_after next_line longer_line
lines-numbered begun [] line few = omega arith
lines-numbered begun (b ∷ bytes) line few =
    by-test
    (λ (t : Bool).
    line.number + length (cond t (begun ∷ ended [] bytes) (ended (begun ++ (b ∷ [])) bytes)) ≤ last_number
    → (line_after bytes (cond t (next_line line) (longer_line b line))).number
    ≡ line.number + length (cond t (begun ∷ ended [] bytes) (ended (begun ++ (b ∷ [])) bytes)))
    (λ few'. let rest = lines-numbered [] bytes (next_line line) (omega arith) in omega arith)
    (λ few'. let rest = lines-numbered (begun ++ (b ∷ [])) bytes (longer_line b line) (omega arith) in omega arith)
    (eqb b 10)
    few
