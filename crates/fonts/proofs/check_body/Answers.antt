-- `fonts::check_body` meets its contract: the two stages are the definition's. The pointers are those of the body that begins at this
-- word.
-- Assumes nothing.
use Prim.Native.Nat.{ℕ, ◌+◌, ◌-◌, ◌*◌}
use mathlib.Core.Path.{◌≡◌, refl, ap, ap₂, ◌∙◌}
use mathlib.Core.Bool.{◌||◌}
use lib.Dec.{ltb}
use lib.ListN.{length}
use Rattle.std.proofs.lemmas.Result.{err_from_is_err_and}
use Rattle.words.specs.Word.{word}
use Rattle.words.specs.Refusal.{first_of}
use Rattle.words.proofs.Refusals.{number-not-0}
use Rattle.fonts.specs.declared.Body.{Body}
use Rattle.fonts.specs.Strike.{body_of, strike_at, pointers_of}
use Rattle.fonts.specs.Reading.{falls_from, bad_pointers, head_number, body_number}
use Rattle.words.proofs.Chain.{chain, stage-stops, stage-goes-on}
use Rattle.fonts.proofs.check_body.Given.{Over}
use Rattle.fonts.proofs.check_body.Goals as goal
use Rattle.fonts.proofs.check_body.Goals.{After-bad_pointers, After-check_head}

-- the head of the body that begins at this word
head-is : (g : Over) (c : After-check_head g) → head_number c.args.h c.of-body.result c.args.at c.args.last c.count.result
    ≡ (let ws = g.F.Words.as_words c.args.font in head_number c.args.h (body_of ws c.args.at) c.args.at c.args.last (length ws))
head-is g c =
    let a = c.args in ap₂ (λ (b : Body) (n : ℕ). head_number a.h b a.at a.last n) c.of-body.ensures c.count.ensures

module _ (g : Over) (c : After-bad_pointers g) where
  body_is : c.of-body.result ≡ body_of (g.F.Words.as_words c.args.font) c.args.at
  body_is = c.of-body.ensures

  table_is : g.F.Words.as_words c.pointers-table.result
      ≡ (let ws = g.F.Words.as_words c.args.font in pointers_of (strike_at ws c.args.at) ws)
  table_is =
      c.pointers-table.ensures.words
      ∙ ap (λ (b : Body). pointers_of (record { bitmap = c.args.at + 5; body = b }) (g.F.Words.as_words c.args.font)) body_is

  last-is : c.word-end.result
      ≡ word (g.F.Words.as_words c.pointers-table.result) (length (g.F.Words.as_words c.pointers-table.result) - 1)
  last-is =
      c.word-end.ensures
      ∙ ap (word (g.F.Words.as_words c.pointers-table.result)) (c.saturating_sub.ensures ∙ ap (λ (n : ℕ). n - 1) c.count-2.ensures)

  bad-is : c.bad_pointers.result
      ≡ (let ws = g.F.Words.as_words c.args.font in bad_pointers (body_of ws c.args.at) (pointers_of (strike_at ws c.args.at) ws))
  unfolding bad_pointers
  bad-is =
      c.bad_pointers.ensures
      ∙ (λ i. (c.falls.ensures i || ltb (16 * (body_is i).raster) (last-is i)))
      ∙ (λ i. (falls_from 0 (table_is i) || ltb (16 * (body_of (g.F.Words.as_words c.args.font) c.args.at).raster)
      (word (table_is i) (length (table_is i) - 1))))

pub returns-in_err-check_head : goal.returns-in_err-check_head
unfolding body_number
returns-in_err-check_head g c =
    let stopped = err_from_is_err_and c.from_residual.result c.from_residual.ensures.1 in
    let head = c.in_err-check_head.ensures ∙ head-is g (goal.at.returns-in_err-check_head g c).After-check_head in
    rw (stopped.1, stopped.2) (record { number = stage-stops _ _ _ head (number-not-0 _); body = tt })

pub returns-then-bad_pointers : goal.returns-then-bad_pointers
unfolding body_number first_of
returns-then-bad_pointers g c =
    let bad = bad-is g (goal.at.returns-then-bad_pointers g c).After-bad_pointers in
    let head = c.in_ok-check_head.ensures ∙ head-is g (goal.at.returns-then-bad_pointers g c).After-check_head in
    record { number = stage-goes-on _ _ _ _ head refl (search chain); body = tt }

pub returns : goal.returns
unfolding body_number first_of
returns g c =
    let bad = bad-is g (goal.at.returns g c).After-bad_pointers in
    let head = c.in_ok-check_head.ensures ∙ head-is g (goal.at.returns g c).After-check_head in
    record { number = stage-goes-on _ _ _ _ head refl (search chain); body = c.of-body.ensures }
