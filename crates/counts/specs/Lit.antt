-- P2, lit dots kept for the dimmer: the lit dots of a strip, and what a call that changes a panel makes of the counts.
use Rattle.std.specs.Prelude.{ℕ, ◌+◌, ◌-◌, ◌*◌, ◌≤◌, ◌≡◌, Bool, cond, ◌||◌, List, [], ◌∷◌, eqb, ltb, length}
use Rattle.words.specs.Word.{word, over}
use Rattle.words.specs.Search.{some_below, sum_below}
use Rattle.words.specs.Refusal.{first_of, or_else}
use Rattle.paint.specs.declared.Shape.{Shape}
use Rattle.paint.specs.declared.Strip.{Strip}
use Rattle.paint.specs.Panel.{strip_of}
use Rattle.paint.specs.Rule.{panel_dot}

-- a sum over the dots in the columns of a strip, in n rows from a row on
unfoldable pub over_dots : Strip → ℕ → ℕ → (ℕ → ℕ → ℕ) → ℕ
over_dots strip row n f = sum_below n (λ i. sum_below (strip.upto - strip.from) (λ j. f (row + i) (strip.from + j)))

-- and in all rows of strip k
abbrev pub over_strip : Shape → ℕ → (ℕ → ℕ → ℕ) → ℕ
over_strip s k f = over_dots (strip_of s k) 0 s.rows f

-- "how many dots are lit in each strip": those of strip k that are 1
unfoldable pub lit : Shape → ℕ → List ℕ → ℕ
lit s k panel = over_strip s k (panel_dot s panel)

-- how many dots it has, which is "W × H"
unfoldable pub area : Shape → ℕ → ℕ
area s k = ((strip_of s k).upto - (strip_of s k).from) * s.rows

-- "dots gained", which were 0 before a call and are 1 after it, and "dots lost", which were 1 and are 0
unfoldable pub gained : Shape → ℕ → List ℕ → List ℕ → ℕ
gained s k before after = over_strip s k (λ row column. (1 - panel_dot s before row column) * panel_dot s after row column)

unfoldable pub lost : Shape → ℕ → List ℕ → List ℕ → ℕ
lost s k before after = over_strip s k (λ row column. panel_dot s before row column * (1 - panel_dot s after row column))

-- "Keep thirty-two counts by value beside the panel, one for each strip": they are true when each is its strip's lit dots
pub record TrueCounts (s : Shape) (panel counts : List ℕ) : Type 0 where
  pub all : length counts ≡ 32
  pub each : (k : ℕ) → k ≤ 31 → word counts k ≡ lit s k panel

-- 30: "a count over W × H before the call"
unfoldable pub some_over : Shape → List ℕ → Bool
some_over s counts = some_below 32 (λ k. ltb (area s k) (word counts k))

-- 30: "or one that would leave 0 to W × H by it", by the old count, what was gained and what was lost
unfoldable pub leaves : ℕ → ℕ → ℕ → ℕ → Bool
leaves most held more fewer = ltb (held + more) fewer || ltb (most + fewer) (held + more)

unfoldable pub some_leaves : Shape → List ℕ → List ℕ → List ℕ → Bool
some_leaves s before after counts =
    some_below 32 (λ k. leaves (area s k) (word counts k) (gained s k before after) (lost s k before after))

unfoldable pub count_number : Shape → List ℕ → List ℕ → List ℕ → ℕ
count_number s before after counts = first_of ((some_over s counts || some_leaves s before after counts, 30) ∷ [])

-- "the new counts: the old ones plus dots gained less dots lost"
unfoldable pub new_counts : Shape → List ℕ → List ℕ → List ℕ → List ℕ
new_counts s before after counts = over 32 (λ k. word counts k + gained s k before after - lost s k before after) counts

-- what a call with counts leaves
pub record Counted : Type 0 where
  pub number : ℕ
  pub panel : List ℕ
  pub counts : List ℕ

-- A call that without counts has this number and makes one panel of another: "30, after 12"; "any refusal hands back the counts given",
-- and alters nothing.
unfoldable pub counted_of : Shape → ℕ → List ℕ → List ℕ → List ℕ → Counted
counted_of s own before after counts =
    let number = or_else own (count_number s before after counts) in
    record {
      number = number;
      panel = cond (eqb number 0) after before;
      counts = cond (eqb number 0) (new_counts s before after counts) counts;
    }
