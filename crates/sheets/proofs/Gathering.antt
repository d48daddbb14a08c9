-- The sheet that gathering leaves, by what reading the font answered.
use Prim.Native.Nat.{ℕ}
use mathlib.Core.Path.{◌≡◌}
use mathlib.Core.List.{List}
use Rattle.words.proofs.Chain.{stage-stops}
use Rattle.fonts.specs.declared.View.{View}
use Rattle.fonts.specs.Strike.{view_of}
use Rattle.fonts.specs.Reading.{font_number}
use Rattle.fonts.specs.Face.{face_from}
use Rattle.paint.specs.declared.Shape.{Shape}
use Rattle.paint.specs.declared.Label.{Label}
use Rattle.paint.specs.Sheet.{Sheet, lengths}
use Rattle.paint.specs.Label.{Call, call_of, call_number, join_with}
use Rattle.paint.proofs.Replies.{face-read, number_read}
use Rattle.sheets.specs.Sheet.{gather_after}
use Rattle.sheets.proofs.Done.{refused}

pub gather-refused : (s : Shape) (call : Call) (sheet : Sheet) (n : ℕ) → n ≡ font_number call.font → (n ≡ 0 → ⊥)
    → sheet ≡ gather_after s call sheet
unfolding gather_after call_number
gather-refused s call sheet n e some = refused _ _ sheet n (stage-stops n _ _ e some) some

pub gather-read : (s : Shape) (font : List ℕ) (v : View) (l : Label) (text : List ℕ) (sheet : Sheet) → font_number font ≡ 0
    → v ≡ view_of font
    → join_with (face_from v font) s l text sheet ≡ gather_after s (call_of font l text) sheet
unfolding gather_after join_with
gather-read s font v l text sheet good same =
    rw (face-read font v same, number_read font v good same s l text (lengths sheet))
