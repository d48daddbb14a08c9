-- Sheets: the paper's section of that name. What a sheet is stands in `paint: Sheet`, since a label is joined onto one there.
use Rattle.std.specs.Prelude.{ℕ, cond, List, [], ◌∷◌, eqb, length, take, ◌≡◌}
use Rattle.words.specs.Word.{over}
use Rattle.words.specs.Effect.{identity, altered}
use Rattle.paint.specs.declared.Shape.{Shape}
use Rattle.paint.specs.Panel.{panel_words, panel_number}
use Rattle.paint.specs.Sheet.{Sheet, lengths, effect_at, written, joined}
use Rattle.paint.specs.Label.{Call, Reply, call_number, call_effect, reply_of}

-- "The effect that alters nothing is keep FFFF, flip 0; a fresh sheet is made of it."
unfoldable pub fresh_number : Shape → Sheet → ℕ
fresh_number s sheet = panel_number s (lengths sheet)

unfoldable pub fresh_after : Shape → Sheet → Sheet
fresh_after s sheet = cond (eqb (fresh_number s sheet) 0) (written s (λ i. identity) sheet) sheet

-- "Joining a second sheet (k2, f2) onto a first (k1, f1) leaves in the first k1 AND k2, and (f1 AND k2) XOR f2."
unfoldable pub join_number : Shape → Sheet → Sheet → ℕ
join_number s first second =
    panel_number s (length first.keep ∷ length first.flip ∷ length second.keep ∷ length second.flip ∷ [])

abbrev pub join_onto : Shape → Sheet → Sheet → Sheet
join_onto s first second = joined s (effect_at second) first

unfoldable pub join_after : Shape → Sheet → Sheet → Sheet
join_after s first second = cond (eqb (join_number s first second) 0) (join_onto s first second) first

-- "Applied, each word d becomes (d AND keep) XOR flip."
unfoldable pub apply_number : Shape → Sheet → List ℕ → ℕ
apply_number s sheet panel = panel_number s (length sheet.keep ∷ length sheet.flip ∷ length panel ∷ [])

unfoldable pub apply_after : Shape → Sheet → List ℕ → List ℕ
apply_after s sheet panel =
    cond (eqb (apply_number s sheet panel) 0) (altered 0 (panel_words s) (effect_at sheet) panel) panel

-- P2: "clearing a panel (its first R × H words become 0", refused by 8 as far as the panel goes. Its counts stand in `counts: Lit`.
unfoldable pub clear_number : Shape → List ℕ → ℕ
clear_number s panel = panel_number s (length panel ∷ [])

unfoldable pub clear_after : Shape → List ℕ → List ℕ
clear_after s panel = cond (eqb (clear_number s panel) 0) (over (panel_words s) (λ i. 0) panel) panel

-- "Gathering a label joins its effect onto the sheet and replies as painting does."
unfoldable pub gather_reply : Shape → Call → Sheet → Reply
gather_reply s call sheet = reply_of s (lengths sheet) call

unfoldable pub gather_after : Shape → Call → Sheet → Sheet
gather_after s call sheet =
    cond (eqb (call_number s (lengths sheet) call) 0) (joined s (call_effect s call) sheet) sheet

-- "Two sheets are equal when their first R × H words are."
unfoldable pub SameSheet : Shape → Sheet → Sheet → Type 0
SameSheet s a b =
    (take (panel_words s) a.keep ≡ take (panel_words s) b.keep)
    × (take (panel_words s) a.flip ≡ take (panel_words s) b.flip)
