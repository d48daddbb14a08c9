-- The effect on a word of dots: "Applied, each word d becomes (d AND keep) XOR flip."
use Rattle.std.specs.Prelude.{ℕ, zero, suc, ◌+◌, ◌-◌, ◌<◌, ◌≡◌, cond, List, eqb, set}
use Rattle.std.specs.Int.Bits.{bit_and, bit_xor}
use Rattle.words.specs.Word.{word, bit_of}
use Rattle.words.specs.declared.Effect.{Effect}
use Rattle.words.specs.declared.Mode.{Mode}
use Rattle.words.specs.declared.Mode.TheVariants.{Paint, Erase, Invert}

abbrev pub effect : ℕ → ℕ → Effect
effect keep flip = record { keep = keep; flip = flip }

-- keep and flip are words
abbrev pub OfWords : Effect → Type 0
OfWords e = (e.keep < 65536) × (e.flip < 65536)

-- the effect leaves dot j of a word alone
abbrev pub Leaves : Effect → ℕ → Type 0
Leaves e j = (bit_of e.keep j ≡ 1) × (bit_of e.flip j ≡ 0)

-- "The effect that alters nothing is keep FFFF, flip 0"
abbrev pub identity : Effect
identity = effect 0xFFFF 0

-- "Paint sets" each dot of the mask
abbrev pub paint_of : ℕ → Effect
paint_of mask = effect (0xFFFF - mask) mask

-- "Erase clears" each dot of the mask
abbrev pub erase_of : ℕ → Effect
erase_of mask = effect (0xFFFF - mask) 0

-- "Invert flips each dot" of the mask
abbrev pub invert_of : ℕ → Effect
invert_of mask = effect 0xFFFF mask

-- the effect of a mode on the dots of the mask
abbrev pub effect_of : Mode → ℕ → Effect
effect_of Paint mask = paint_of mask
effect_of Erase mask = erase_of mask
effect_of Invert mask = invert_of mask

-- "0 Paint, 1 Erase, 2 Invert"; a number over 2 is refused before this is asked
unfoldable pub mode_of : ℕ → Mode
mode_of number = cond (eqb number 0) Paint (cond (eqb number 1) Erase Invert)

-- "Joining a second sheet (k2, f2) onto a first (k1, f1) leaves in the first k1 AND k2, and (f1 AND k2) XOR f2."
abbrev pub join_of : Effect → Effect → Effect
join_of first second =
    effect (bit_and first.keep second.keep) (bit_xor (bit_and first.flip second.keep) second.flip)

-- the effect that only clears what another does not keep: what joining that other does to the keep of a sheet
abbrev pub clearing : Effect → Effect
clearing e = effect e.keep 0

abbrev pub cleared : (ℕ → Effect) → ℕ → Effect
cleared e i = clearing (e i)

-- "Applied, each word d becomes (d AND keep) XOR flip."
abbrev pub apply_to : Effect → ℕ → ℕ
apply_to e d = bit_xor (bit_and d e.keep) e.flip

-- the n words of a lent slice from word k on, each altered by its effect; the rest stays
unfoldable pub altered : ℕ → ℕ → (ℕ → Effect) → List ℕ → List ℕ
altered k zero effect lent = lent
altered k (suc n) effect lent = set (altered k n effect lent) (k + n) (apply_to (effect (k + n)) (word lent (k + n)))
