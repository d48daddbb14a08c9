use Prim.Native.Nat.{ℕ, ◌+◌, ◌-◌}
use mathlib.Core.Path.{◌≡◌, sym, ap, ◌∙◌}
use native.Mathlib.Omega.{arith}
use lib.Dec.{eqb}
use Rattle.std.proofs.lemmas.Result.{err_from_is_err_and}
use Rattle.words.proofs.Refusals.{number-not-0}
use Rattle.words.specs.Refusal.{returned}
use Rattle.fonts.specs.declared.Body.{Body}
use Rattle.fonts.specs.Strike.{first_at, start_from, body_of, pointer_count}
use Rattle.fonts.specs.Reading.{body_number, bodies_number}
use Rattle.fonts.proofs.Walking.{next_start, number_at, none-refused, one_more, stays}
use Rattle.fonts.proofs.Naming.{each_none, each_more}
use Rattle.fonts.proofs.check_bodies.Given.{Over}
use Rattle.fonts.proofs.check_bodies.Goals as goal
use Rattle.fonts.proofs.check_bodies.Goals.{After-check_body}

number_is : (g : Over) (tried : After-check_body g) → returned tried.check_body.result
    ≡ number_at tried.args.h (g.F.Words.as_words tried.args.font) tried.loop-k.k
number_is g tried =
    tried.check_body.ensures.number
    ∙ ap (λ (n : ℕ). body_number tried.args.h (g.F.Words.as_words tried.args.font) n (eqb (tried.loop-k.k + 1) tried.args.h.bodies))
    tried.loop-k.invariant.1

pub loop-k-init : goal.loop-k-init
unfolding start_from
loop-k-init g c = (omega arith, c.first_at-at.ensures.value, none-refused _ _, each_none _ _ _)

pub returns-in_err-body : goal.returns-in_err-body
returns-in_err-body g c =
    let k = c.loop-k.k in
    let stopped = err_from_is_err_and c.from_residual.result c.from_residual.ensures.1 in
    let number = sym (ap returned c.in_err-body.was) ∙ number_is g (goal.at.returns-in_err-body g c).After-check_body in
    let here = one_more c.args.h (g.F.Words.as_words c.args.font) k _ c.loop-k.invariant.2 number in
    let all : c.args.h.bodies ≡ (k + 1) + (c.args.h.bodies - (k + 1)) = omega (arith, c.loop-k-test.true) in
    rw (stopped.1, stopped.2) (record {
      number = stays c.args.h (g.F.Words.as_words c.args.font) (k + 1) (c.args.h.bodies - (k + 1)) _ here (number-not-0 _)
          ∙ ap (bodies_number c.args.h (g.F.Words.as_words c.args.font)) (sym all);
      fewest = tt;
    })

pub loop-k-preserved : goal.loop-k-preserved
unfolding body_of
loop-k-preserved g c =
    let k = c.loop-k.k in
    let head = c.in_ok-body.ensures.body in (
      omega arith,
      next_start (first_at c.args.h) (g.F.Words.as_words c.args.font) k c.loop-k.at _ c.loop-k.invariant.1
          (ap (λ (body : Body). body.words) head),
      one_more c.args.h (g.F.Words.as_words c.args.font) k 0 c.loop-k.invariant.2
          (sym (ap returned c.in_ok-body.was) ∙ number_is g (goal.at.loop-k-preserved g c).After-check_body),
      each_more c.args.h (g.F.Words.as_words c.args.font) k c.loop-k.fewest _ c.loop-k.at _ c.loop-k.invariant.3 c.loop-k.invariant.1
          (c.pointers.ensures ∙ ap (λ (body : Body). pointer_count body) head) c.min-fewest.ensures,
    )

pub returns : goal.returns
returns g c =
    let e : c.loop-k.k ≡ c.args.h.bodies = omega arith in
    record { number = rw e at c.loop-k.invariant.2; fewest = rw e at c.loop-k.invariant.3 }
