-- The lit dots of a strip before and after a change of the panel: what was lit and what was gained is what is lit and what was lost, and
-- no strip has more lit dots than dots.
use Prim.Native.Nat.{ℕ, ◌+◌, ◌-◌, ◌*◌, ◌<◌, ◌≤◌}
use mathlib.Core.Path.{◌≡◌, refl, sym, ap, ◌∙◌}
use mathlib.Core.List.{List}
use native.Mathlib.Omega.{arith}
use Rattle.words.proofs.Digits.{bit-digit}
use Rattle.words.proofs.BitLaws.{on-digit}
use Rattle.paint.specs.declared.Shape.{Shape}
use Rattle.paint.specs.Panel.{strip_of}
use Rattle.paint.specs.Rule.{panel_dot}
use Rattle.counts.specs.Lit.{lit, area, gained, lost}
use Rattle.counts.proofs.Sums.{dots-same, dots-add, dots-le}

-- a dot is 0 or 1
pub panel-dot : (s : Shape) (panel : List ℕ) (row column : ℕ) → panel_dot s panel row column < 2
unfolding panel_dot
panel-dot s panel row column = bit-digit _ _

-- the balance of one dot, over a dot before and a dot after
dot-balance : (b a : ℕ) → b < 2 → a < 2 → a + b * (1 - a) ≡ b + (1 - b) * a
dot-balance b a hb ha =
    on-digit (λ (x : ℕ). a + x * (1 - a) ≡ x + (1 - x) * a)
    (on-digit (λ (y : ℕ). y + 0 * (1 - y) ≡ 0 + (1 - 0) * y) refl refl a ha)
    (on-digit (λ (y : ℕ). y + 1 * (1 - y) ≡ 1 + (1 - 1) * y) refl refl a ha) b hb

pub balance : (s : Shape) (k : ℕ) (before after : List ℕ)
    → lit s k after + lost s k before after ≡ lit s k before + gained s k before after
unfolding lit lost gained
balance s k before after =
    let strip = strip_of s k in
    let b = panel_dot s before in
    let a = panel_dot s after in
    dots-add strip 0 s.rows a (λ row column. b row column * (1 - a row column))
    ∙ dots-same strip 0 s.rows _ _
    (λ row column _ _ _ _. dot-balance (b row column) (a row column) (panel-dot s before row column) (panel-dot s after row column))
    ∙ sym (dots-add strip 0 s.rows b (λ row column. (1 - b row column) * a row column))

pub lit-le : (s : Shape) (k : ℕ) (panel : List ℕ) → lit s k panel ≤ area s k
unfolding lit area
lit-le s k panel =
    dots-le (strip_of s k) 0 s.rows (panel_dot s panel) (λ row column. let dot = panel-dot s panel row column in omega arith)

-- "W × H"
pub area-is : (s : Shape) (k : ℕ) → area s k ≡ s.width * s.rows
unfolding area
area-is s k = let wide : k * s.width + s.width - k * s.width ≡ s.width = omega arith in ap (λ (w : ℕ). w * s.rows) wide
