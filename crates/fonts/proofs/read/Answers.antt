-- `fonts::read` meets its contract, by its one test.
-- Assumes nothing.
use mathlib.Core.Path.{◌≡◌, sym, ap, ◌∙◌}
use Rattle.std.proofs.lemmas.Result.{err_from_is_err_and}
use Rattle.words.specs.Refusal.{returned, answered}
use Rattle.words.proofs.Refusals.{answered-value, answered-refusal}
use Rattle.fonts.specs.Strike.{view_of}
use Rattle.fonts.specs.Reading.{number_by, font_number}
use Rattle.fonts.specs.declared.View.{View}
use Rattle.fonts.proofs.read.Given.{Over}
use Rattle.fonts.proofs.read.Goals as goal
use Rattle.fonts.proofs.read.Goals.{After-check}

number_is : (g : Over) (c : After-check g) → returned c.check.result ≡ font_number (g.F.Words.as_words c.args.font)
unfolding font_number view_of
number_is g c = c.check.ensures ∙ ap (λ (v : View). number_by v.header (g.F.Words.as_words c.args.font)) c.of-v.ensures

pub returns-in_err-check : goal.returns-in_err-check
returns-in_err-check g c =
    let stopped = err_from_is_err_and c.from_residual.result c.from_residual.ensures.1 in
    let number = sym (ap returned c.in_err-check.was) ∙ number_is g (goal.at.returns-in_err-check g c).After-check in
    rw (stopped.1, stopped.2) (record { value = answered-refusal _ _ _ number; number = number })

pub returns : goal.returns
returns g c =
    let number = sym (ap returned c.in_ok-check.was) ∙ number_is g (goal.at.returns g c).After-check in
    record {
      value = answered-value _ _ number ∙ ap (answered (font_number (g.F.Words.as_words c.args.font))) c.of-v.ensures;
      number = number;
    }
