-- A file's words, found in its bytes: the parts of the bytes spell the tables.
use Prim.Native.Nat.{ℕ, ◌+◌, ◌-◌, ◌/◌}
use mathlib.Core.Path.{◌≡◌, sym, ap, ◌∙◌}
use mathlib.Core.List.{List}
use lib.ListN.{length, take, drop}
use Rattle.words.specs.Word.{words_of}
use Rattle.words.proofs.Bytes.{words-length, words-part}
use Rattle.fonts.specs.declared.Header.{Header}
use Rattle.fonts.specs.declared.Strike.{Strike}
use Rattle.fonts.specs.Strike.{codes, map_at, bitmap_words, pointer_count, pointers_of, widths_of, map_of}
use Rattle.fontbytes.specs.Parts.{pointer_bytes, width_bytes, map_bytes}

pub pointers-spelt : (s : Strike) (bytes : List ℕ) → words_of (pointer_bytes s bytes) ≡ pointers_of s (words_of bytes)
unfolding pointer_bytes pointers_of
pointers-spelt s bytes = words-part bytes (s.bitmap + bitmap_words s.body) (pointer_count s.body)

pub widths-spelt : (h : Header) (bytes : List ℕ) → words_of (width_bytes h bytes) ≡ widths_of h (words_of bytes)
unfolding width_bytes widths_of
widths-spelt h bytes =
    words-part bytes (length bytes / 2 - (codes h + 1)) (codes h + 1)
    ∙ ap (λ (n : ℕ). take (codes h + 1) (drop (n - (codes h + 1)) (words_of bytes))) (sym (words-length bytes))

pub map-spelt : (h : Header) (bytes : List ℕ) → words_of (map_bytes h bytes) ≡ map_of h (words_of bytes)
unfolding map_bytes map_of
map-spelt h bytes = words-part bytes (map_at h) (codes h + 1)
