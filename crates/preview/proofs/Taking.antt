-- Bytes that are taken one by one: what is kept of their lines, and what is painted.
use Prim.Native.Nat.{ℕ, zero, suc, ◌+◌, ◌<◌, ◌≤◌}
use mathlib.Core.Path.{◌≡◌, refl, sym, ap, ap₂, ◌∙◌}
use mathlib.Core.Bool.{Bool, cond}
use mathlib.Core.List.{List, [], ◌∷◌, ◌++◌}
use native.Mathlib.Numerals.{add-one}
use native.Mathlib.Omega.{arith}
use lib.Dec.{eqb}
use lib.ListN.{length, get_or, take, drop, set, length-take, length-append, drop_of_length-le}
use lib.Seq.{take_all, take-suc-set, take_at, length-take-le, drop-cons}
use borrow.Author.Tests.{eq-eqb, ne_eqb}
use Rattle.std.specs.Prelude.{Ok, Err}
use Rattle.reading.specs.declared.ReadFailed.{ReadFailed}
use Rattle.paint.specs.declared.Shape.{Shape}
use Rattle.preview.specs.declared.painting.Progress.{Progress}
use Rattle.preview.specs.Begun.{Begun, most, next_line, longer_line}
use Rattle.preview.specs.Line.{Dots, counted, after_line}
use Rattle.preview.specs.Lines.{zeros, first_progress, line_after, ended, unended, lines_of, after_lines, Bytes, Painted, Taken}
use Rattle.preview.proofs.Keeping.{kept-paints}
use Rattle.preview.proofs.Cutting.{by-test, painted-on, painted-in-parts, unended-in-parts}

-- ---- what is kept of them

module _ (bytes : List ℕ) (count b : ℕ) (whole : length bytes ≡ most) where
  -- one byte more is kept, if there is room
  pub longer_kept : count < most → take (count + 1) (set bytes count b) ≡ take most (take count bytes ++ (b ∷ []))
  longer_kept here =
      let short = length-take-le count bytes (omega arith) in
      let one_more = length-append (take count bytes) (b ∷ []) in
      ap (λ (n : ℕ). take n (set bytes count b)) (add-one count)
      ∙ take-suc-set bytes count b (omega arith)
      ∙ sym (take_all most (take count bytes ++ (b ∷ [])) (omega arith))

  pub full_kept : count ≡ most → take count bytes ≡ take most (take count bytes ++ (b ∷ []))
  full_kept full =
      let all = length-take-le count bytes (omega arith) in
      sym (take_at (take count bytes) (b ∷ []) most (all ∙ full))

pub ruleset keeping = (longer_kept, full_kept)

kept_byte : (line : Begun) (b : ℕ) → (line_after (b ∷ []) line).kept ≡ take most (unended line.kept (b ∷ []))
unfolding line_after next_line longer_line unended
kept_byte line b =
    by-test
    (λ (t : Bool). (cond t (next_line line) (longer_line b line)).kept ≡ take most (cond t [] (line.kept ++ (b ∷ []))))
    refl
    refl
    (eqb b 10)

kept-bytes : (bytes : List ℕ) (line : Begun) → length line.kept ≤ most
    → (line_after bytes line).kept ≡ take most (unended line.kept bytes)
unfolding line_after unended
kept-bytes [] line few = sym (take_all most line.kept few)
kept-bytes (b ∷ bytes) line few =
    let one = kept_byte line b in
    let short = ap length one ∙ length-take most (unended line.kept (b ∷ [])) in
    kept-bytes bytes (line_after (b ∷ []) line) (omega arith)
    ∙ ap (λ (l : List ℕ). take most (unended l bytes)) one
    ∙ unended-in-parts line.kept (b ∷ []) bytes

-- ---- one byte

-- a panel, and the counts that are kept so far
abbrev pub dots_of : List ℕ → Progress → Dots
dots_of panel so_far = counted panel so_far.counts

module _ (font : List ℕ) (s : Shape) (b : ℕ) (before : Progress) (panel : List ℕ) (after : Progress) where
  pub newline-taken : b ≡ 10 → (panel' : List ℕ)
      → after.line ≡ next_line before.line
      → dots_of panel' after ≡ after_line font s before.line.kept (dots_of panel before)
      → Taken font s (b ∷ []) before panel after panel'
  unfolding line_after ended after_lines
  newline-taken is panel' next painted =
      let newline = eq-eqb b 10 is in
      record { begins = rw newline next; paints = rw newline painted }

  pub other-taken : (b ≡ 10 → ⊥)
      → after.line ≡ longer_line b before.line
      → after.counts ≡ before.counts
      → Taken font s (b ∷ []) before panel after panel
  unfolding line_after ended after_lines
  other-taken other longer same-counts =
      let no-newline = ne_eqb b 10 other in
      record { begins = rw no-newline longer; paints = rw no-newline (ap (counted panel) same-counts) }

-- ---- byte by byte

-- what is left of the bytes does what all of them did at first
pub record Left (font : List ℕ) (s : Shape) (bytes : List ℕ) (before : Progress) (panel₀ : List ℕ)
    (i : ℕ) (so_far : Progress) (panel : List ℕ) : Type 0 where
  pub begins : line_after bytes before.line ≡ line_after (drop i bytes) so_far.line
  pub paints : after_lines font s (ended before.line.kept bytes) (dots_of panel₀ before)
      ≡ after_lines font s (ended so_far.line.kept (drop i bytes)) (dots_of panel so_far)

module _ (font : List ℕ) (s : Shape) (bytes : List ℕ) (before : Progress) (panel₀ : List ℕ) where
  pub all_left : Left font s bytes before panel₀ 0 before panel₀
  all_left = record { begins = refl; paints = refl }

  module _ (i : ℕ) (so_far : Progress) (panel : List ℕ) (left : Left font s bytes before panel₀ i so_far panel) where
    pub one-taken : i < length bytes → (after : Progress) (panel' : List ℕ)
        → Taken font s (get_or bytes i 0 ∷ []) so_far panel after panel'
        → Left font s bytes before panel₀ (i + 1) after panel'
    unfolding line_after
    one-taken here after panel' took =
        let b = get_or bytes i 0 in
        let line = so_far.line in
        let dots = dots_of panel so_far in
        let rest = drop (i + 1) bytes in
        let here_on : drop i bytes ≡ b ∷ rest = rw (add-one, drop-cons bytes i 0) in
        let keeps-it = ap (λ (l : Begun). l.kept) took.begins ∙ kept_byte line b in
        record {
          begins = left.begins ∙ ap (λ (l : List ℕ). line_after l line) here_on ∙ ap (line_after rest) (sym took.begins);
          paints =
              left.paints
              ∙ ap (λ (l : List ℕ). after_lines font s (ended line.kept l) dots) here_on
              ∙ painted-in-parts font s line.kept (b ∷ []) rest dots
              ∙ ap₂ (λ (l : List ℕ) (d : Dots). after_lines font s (ended l rest) d) (sym keeps-it) (sym took.paints);
        }

    pub all-taken : length bytes ≤ i → Taken font s bytes before panel₀ so_far panel
    unfolding line_after ended after_lines
    all-taken past =
        let line = so_far.line in
        let none = drop_of_length-le bytes past in
        record {
          begins = sym (left.begins ∙ ap (λ (l : List ℕ). line_after l line) none);
          paints =
              sym
              (left.paints
              ∙ ap (λ (l : List ℕ). after_lines font s (ended line.kept l) (dots_of panel so_far)) none);
        }

-- ---- part by part

no_bytes : Bytes []
unfolding Bytes
no_bytes i = omega arith

bytes_on : (first more : List ℕ) → Bytes first → Bytes more → Bytes (first ++ more)
unfolding Bytes
bytes_on [] more here on i = on i
bytes_on (b ∷ first) more here on zero = here 0
bytes_on (b ∷ first) more here on (suc i) = bytes_on first more (λ j. here (suc j)) on i

-- what has been read so far: its lines that have ended are painted, and of the line behind them the first bytes are kept
pub record Reading (font : List ℕ) (s : Shape) (panel₀ : List ℕ) (so_far : Progress) (panel : List ℕ) : Type 0 where
  pub read : List ℕ
  pub bytes : Bytes read
  pub keeps : so_far.line.kept ≡ take most (unended [] read)
  pub paints : dots_of panel so_far ≡ after_lines font s (ended [] read) (counted panel₀ zeros)

module _ (font : List ℕ) (s : Shape) (panel₀ : List ℕ) where
  pub nothing-read : (so_far : Progress) → so_far ≡ first_progress → Reading font s panel₀ so_far panel₀
  unfolding ended unended after_lines
  nothing-read so_far first =
      record {
        read = [];
        bytes = no_bytes;
        keeps = ap (λ (p : Progress). p.line.kept) first;
        paints = ap (dots_of panel₀) first;
      }

  module _ (so_far : Progress) (panel : List ℕ) (reading : Reading font s panel₀ so_far panel) where
    pub more-read : (bytes : List ℕ) (after : Progress) (panel' : List ℕ)
        → Taken font s bytes so_far panel after panel'
        → Bytes bytes
        → Reading font s panel₀ after panel'
    more-read bytes after panel' taken are-bytes =
        let read = reading.read in
        let few = ap length reading.keeps ∙ length-take most (unended [] read) in
        record {
          read = read ++ bytes;
          bytes = bytes_on read bytes reading.bytes are-bytes;
          keeps =
              ap (λ (l : Begun). l.kept) taken.begins
              ∙ kept-bytes bytes so_far.line (omega arith)
              ∙ ap (λ (l : List ℕ). take most (unended l bytes)) reading.keeps
              ∙ unended-in-parts [] read bytes;
          paints =
              taken.paints
              ∙ ap₂ (λ (l : List ℕ) (d : Dots). after_lines font s (ended l bytes) d) reading.keeps reading.paints
              ∙ sym (painted-in-parts font s [] read bytes (counted panel₀ zeros));
        }

    -- a read failed
    pub read-in-part : (failed : ReadFailed) → failed.bytes ≡ 0
        → Painted font s panel₀ (record { counts = so_far.counts; read = Err failed }) panel
    read-in-part failed none = record { read = reading.read; bytes = reading.bytes; paints = reading.paints; unread = none }

    -- the last line is painted too
    pub read_whole : (line panel' counts : List ℕ) → line ≡ so_far.line.kept
        → counted panel' counts ≡ after_line font s line (dots_of panel so_far)
        → Painted font s panel₀ (record { counts = counts; read = Ok tt }) panel'
    unfolding lines_of after_lines
    read_whole line panel' counts is painted =
        let read = reading.read in
        let first = counted panel₀ zeros in
        record {
          read = read;
          bytes = reading.bytes;
          paints =
              painted
              ∙ ap₂ (after_line font s) (is ∙ reading.keeps) reading.paints
              ∙ kept-paints font s (unended [] read) (after_lines font s (ended [] read) first)
              ∙ sym (painted-on font s (ended [] read) (unended [] read ∷ []) first);
          unread = tt;
        }

pub ruleset byte_by_byte = (all_left, all-taken)

pub ruleset part_by_part = (nothing-read, more-read, read-in-part)
