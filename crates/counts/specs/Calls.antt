-- "Painting, applying a sheet and clearing a panel hand back the new counts." The three calls, and lists of them.
use Rattle.std.specs.Prelude.{ℕ, cond, List, [], ◌∷◌, map, eqb, length}
use Rattle.std.specs.declared.result.Result.{Result}
use Rattle.std.specs.declared.result.Result.TheVariants.{Ok, Err}
use Rattle.words.specs.declared.refusal.Refusal.{Refusal}
use Rattle.words.specs.Refusal.{answered}
use Rattle.words.specs.Word.{word}
use Rattle.fonts.specs.Face.{face_of}
use Rattle.paint.specs.declared.Shape.{Shape}
use Rattle.paint.specs.declared.Finish.{Finish}
use Rattle.paint.specs.Label.{Call, Reply, call_number, paint_after, last_pen, reply_for, Tells}
use Rattle.paint.specs.Sheet.{Sheet}
use Rattle.sheets.specs.Sheet.{apply_number, apply_after, clear_number, clear_after}
use Rattle.counts.specs.declared.Painted.{Painted}
use Rattle.counts.specs.declared.Settled.{Settled}
use Rattle.counts.specs.Lit.{Counted, counted_of}

-- painting
abbrev pub paint_counted : Shape → Call → List ℕ → List ℕ → Counted
paint_counted s call panel counts = counted_of s (call_number s (length panel ∷ []) call) panel (paint_after s call panel) counts

abbrev pub painted_of : Shape → Call → List ℕ → List ℕ → Painted
painted_of s call panel counts =
    let c = paint_counted s call panel counts in
    record { reply = reply_for c.number (last_pen (face_of call.font) call.label.x call.text); counts = c.counts }

-- by the finish and the new counts, or by the refusal, and then by the counts given
abbrev pub painted_by : Result (Finish × List ℕ) Refusal → List ℕ → Painted
painted_by (Ok done) given = record { reply = Ok done.0; counts = done.1 }
painted_by (Err refusal) given = record { reply = Err refusal; counts = given }

-- "returns its number, pen 0, substitutes 0"
abbrev pub TellsPainted : Reply → Shape → Call → List ℕ → List ℕ → Type 0
TellsPainted reply s call panel counts =
    Tells reply (paint_counted s call panel counts).number (last_pen (face_of call.font) call.label.x call.text)

-- applying
abbrev pub apply_counted : Shape → Sheet → List ℕ → List ℕ → Counted
apply_counted s sheet panel counts = counted_of s (apply_number s sheet panel) panel (apply_after s sheet panel) counts

-- "clearing a panel (its first R × H words become 0; new, refused by 8 and 30)"
abbrev pub clear_counted : Shape → List ℕ → List ℕ → Counted
clear_counted s panel counts = counted_of s (clear_number s panel) panel (clear_after s panel) counts

-- what applying and clearing answer
abbrev pub settled_of : Counted → Settled
settled_of c = record { reply = answered c.number tt; counts = c.counts }

abbrev pub settled_by : Result (List ℕ) Refusal → List ℕ → Settled
settled_by (Ok new) given = record { reply = Ok tt; counts = new }
settled_by (Err refusal) given = record { reply = Err refusal; counts = given }

-- "over any list of such calls for one panel size"
pub data PanelCall : Type 0 where
  painting : Call → PanelCall
  applying : Sheet → PanelCall
  clearing : PanelCall

-- what a call leaves without counts: its number, and the panel
unfoldable pub plain_number : Shape → PanelCall → List ℕ → ℕ
plain_number s (painting call) panel = call_number s (length panel ∷ []) call
plain_number s (applying sheet) panel = apply_number s sheet panel
plain_number s clearing panel = clear_number s panel

unfoldable pub plain_after : Shape → PanelCall → List ℕ → List ℕ
plain_after s (painting call) panel = paint_after s call panel
plain_after s (applying sheet) panel = apply_after s sheet panel
plain_after s clearing panel = clear_after s panel

-- and with counts
abbrev pub counted_by : Shape → PanelCall → List ℕ → List ℕ → Counted
counted_by s call panel counts = counted_of s (plain_number s call panel) panel (plain_after s call panel) counts

-- a list of calls in turn: the panel that is left without counts, and the numbers
unfoldable pub plain_all : Shape → List PanelCall → List ℕ → List ℕ
plain_all s [] panel = panel
plain_all s (call ∷ calls) panel = plain_all s calls (plain_after s call panel)

unfoldable pub plain_numbers : Shape → List PanelCall → List ℕ → List ℕ
plain_numbers s [] panel = []
plain_numbers s (call ∷ calls) panel = plain_number s call panel ∷ plain_numbers s calls (plain_after s call panel)

-- with counts: what each call in turn leaves
unfoldable pub counted_all : Shape → List PanelCall → List ℕ → List ℕ → List Counted
counted_all s [] panel counts = []
counted_all s (call ∷ calls) panel counts =
    let first = counted_by s call panel counts in
    first ∷ counted_all s calls first.panel first.counts

-- and the panel and the counts in the end
unfoldable pub panel_after_all : Shape → List PanelCall → List ℕ → List ℕ → List ℕ
panel_after_all s [] panel counts = panel
panel_after_all s (call ∷ calls) panel counts =
    let first = counted_by s call panel counts in panel_after_all s calls first.panel first.counts

unfoldable pub counts_after_all : Shape → List PanelCall → List ℕ → List ℕ → List ℕ
counts_after_all s [] panel counts = counts
counts_after_all s (call ∷ calls) panel counts =
    let first = counted_by s call panel counts in counts_after_all s calls first.panel first.counts

-- "in a reply the count of the call's own strip": the numbers of the calls that name strip k, and its count in each of their replies
unfoldable pub own_answers : ℕ → List Call → List Counted → List (ℕ × ℕ)
own_answers k [] answers = []
own_answers k (call ∷ calls) [] = []
own_answers k (call ∷ calls) (answer ∷ answers) =
    cond (eqb call.label.strip k) ((answer.number, word answer.counts k) ∷ own_answers k calls answers) (own_answers k calls answers)

-- a list of labels as calls on the panel
abbrev pub labels : List Call → List PanelCall
labels calls = map painting calls
