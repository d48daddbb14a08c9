-- The parts of a font in bytes that `fonts::pointers`, `widths` and `map` hand on are the bytes that `fontbytes: Parts` names.
use Prim.Native.Nat.{ℕ, ◌+◌, ◌-◌, ◌*◌}
use mathlib.Core.Path.{◌≡◌, refl, ap}
use mathlib.Core.List.{List}
use lib.ListN.{length, take, drop}
use Rattle.words.specs.Word.{words_of}
use Rattle.words.proofs.Bytes.{words-length}
use Rattle.fonts.specs.declared.Header.{Header}
use Rattle.fonts.specs.declared.Strike.{Strike}
use Rattle.fonts.specs.Strike.{codes, map_at, bitmap_words, pointer_count}
use Rattle.fontbytes.specs.Parts.{pointer_bytes, width_bytes, map_bytes}

-- the bytes of the count words from `from` on
abbrev bytes_from : ℕ → ℕ → List ℕ → List ℕ
bytes_from from count bytes = take (2 * count) (drop (2 * from) bytes)

pub pointers-held : (s : Strike) (bytes : List ℕ)
    → bytes_from (s.bitmap + bitmap_words s.body) (pointer_count s.body) bytes ≡ pointer_bytes s bytes
unfolding pointer_bytes
pointers-held s bytes = refl

pub widths-held : (h : Header) (bytes : List ℕ)
    → bytes_from (length (words_of bytes) - (codes h + 1)) (codes h + 1) bytes ≡ width_bytes h bytes
unfolding width_bytes
widths-held h bytes = ap (λ (words : ℕ). bytes_from (words - (codes h + 1)) (codes h + 1) bytes) (words-length bytes)

pub map-held : (h : Header) (bytes : List ℕ) → bytes_from (map_at h) (codes h + 1) bytes ≡ map_bytes h bytes
unfolding map_bytes
map-held h bytes = refl
