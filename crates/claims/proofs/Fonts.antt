-- What the fonts of the table show and paint, and how they are written, holds of the definitions: antt computes both sides of the table.
use mathlib.Core.Path.{◌≡◌, refl}
use mathlib.Core.List.{[], ◌∷◌, ◌++◌, map}
use lib.ListN.{replicate}
use Rattle.words.specs.Word.{bytes_of}
use Rattle.convert.specs.Conversion.{output_after}
use Rattle.claims.specs.Cases.{prints}
use Rattle.claims.specs.Fonts.{Seen, holds, comes, printed, wide_cu, wide_written, fixed_cu, fixed_written}
use Rattle.claims.specs.Fonts.{spelt_cases, plain_cases, blob_cases, wide_cases, written_cases, font_cases}
use Rattle.claims.proofs.Compute.{computing}
use Rattle.claims.proofs.Tables.{Hold, both_hold}

plain-hold : Hold plain_cases
unfolding Hold computing
plain-hold = refl

blob-hold : Hold blob_cases
unfolding Hold computing
blob-hold = refl

wide-hold : Hold wide_cases
unfolding Hold computing
wide-hold = refl

spelt-hold : Hold spelt_cases
unfolding Hold computing
spelt-hold = refl

-- a conversion is as much as one declaration may compute
wide-written : printed wide_cu ≡ comes (prints (bytes_of wide_written))
unfolding computing
wide-written = refl

fixed-written : printed fixed_cu ≡ comes (prints (bytes_of fixed_written))
unfolding computing
fixed-written = refl

rest-stays : ◌≡◌ {A = Seen} (holds (output_after fixed_cu (replicate 25 0xAAAA))) (holds (fixed_written ++ replicate 3 0xAAAA))
unfolding computing
rest-stays = refl

short-output-stays : ◌≡◌ {A = Seen} (holds (output_after fixed_cu (replicate 21 0xAAAA))) (holds (replicate 21 0xAAAA))
unfolding computing
short-output-stays = refl

written-hold : Hold written_cases
unfolding Hold written_cases
written-hold = λ i. wide-written i ∷ fixed-written i ∷ rest-stays i ∷ short-output-stays i ∷ []

all_hold : Hold font_cases
unfolding font_cases
all_hold =
    both_hold _ _ (both_hold _ _ (both_hold _ _ (both_hold _ _ spelt-hold plain-hold) blob-hold) wide-hold) written-hold

pub fonts-hold : map (λ c. c.0) font_cases ≡ map (λ c. c.1) font_cases
unfolding Hold
fonts-hold = all_hold
