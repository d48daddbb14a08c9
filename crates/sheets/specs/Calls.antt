-- Lists of label calls of one panel size: what demand 3 speaks of.
use Rattle.std.specs.Prelude.{ℕ, ◌≤◌, ◌≡◌, cond, List, [], ◌∷◌, eqb, length}
use Rattle.paint.specs.declared.Shape.{Shape}
use Rattle.paint.specs.Label.{Call, Reply, paint_after, reply_of}
use Rattle.paint.specs.Sheet.{Sheet}
use Rattle.sheets.specs.Sheet.{gather_after, gather_reply}

-- the calls painted in turn, and their replies
unfoldable pub paint_all : Shape → List Call → List ℕ → List ℕ
paint_all s [] panel = panel
paint_all s (call ∷ calls) panel = paint_all s calls (paint_after s call panel)

unfoldable pub paint_replies : Shape → List Call → List ℕ → List Reply
paint_replies s [] panel = []
paint_replies s (call ∷ calls) panel = reply_of s (length panel ∷ []) call ∷ paint_replies s calls (paint_after s call panel)

-- the calls gathered in turn, and their replies
unfoldable pub gather_all : Shape → List Call → Sheet → Sheet
gather_all s [] sheet = sheet
gather_all s (call ∷ calls) sheet = gather_all s calls (gather_after s call sheet)

unfoldable pub gather_replies : Shape → List Call → Sheet → List Reply
gather_replies s [] sheet = []
gather_replies s (call ∷ calls) sheet = gather_reply s call sheet ∷ gather_replies s calls (gather_after s call sheet)

-- the calls that name strip k, in their order
unfoldable pub of_strip : ℕ → List Call → List Call
of_strip k [] = []
of_strip k (call ∷ calls) = cond (eqb call.label.strip k) (call ∷ of_strip k calls) (of_strip k calls)

-- of the replies to some calls those to the calls that name strip k, in their order
unfoldable pub replies_for : ℕ → List Call → List Reply → List Reply
replies_for k [] replies = []
replies_for k (call ∷ calls) [] = []
replies_for k (call ∷ calls) (reply ∷ replies) =
    cond (eqb call.label.strip k) (reply ∷ replies_for k calls replies) (replies_for k calls replies)

-- "calls for different strips may change places": two lists with the same calls for each strip in the same order. Calls that name no
-- strip are refused, and may stand anywhere
abbrev pub SameForStrips : List Call → List Call → Type 0
SameForStrips xs ys = (k : ℕ) → k ≤ 31 → of_strip k xs ≡ of_strip k ys
