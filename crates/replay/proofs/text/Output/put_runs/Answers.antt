use Rattle.std.proofs.Common.{ℕ, ◌≡◌, ◌+◌, ◌-◌, refl, ap, ◌∙◌, arith, drop, get_or, length}
use Rattle.replay.specs.Text.{with_bytes, run_bytes, runs_from, list_bytes}
use Rattle.replay.proofs.Runs.{run-goes-on, run_ends, run-is-last}
use Rattle.replay.proofs.text.Output.put_runs.Goals as goal

pub loop-i-init : goal.loop-i-init
unfolding list_bytes
loop-i-init g c = record { begun = omega arith; left = refl }

pub overflow_sub-i : goal.overflow_sub-i
overflow_sub-i g c = omega (arith, c.loop-i.invariant.begun)

pub loop-i-preserved-then-word-run : goal.loop-i-preserved-then-word-run
loop-i-preserved-then-word-run g c =
    let w = c.loop-i in
    let longer : w.i + 1 - w.before + 1 ≡ w.i + 1 + 1 - w.before = omega (arith, w.invariant.begun) in
    record {
      begun = omega (arith, w.invariant.begun);
      left =
          run-goes-on c.args.self.now w.self c.args.digits _ c.args.rest.now w.run _ w.i w.invariant.left
          c.loop-i-test.true c.if-word-run.true
          ∙ ap (λ (n : ℕ). with_bytes w.self (runs_from c.args.digits w.run n (drop (w.i + 1) c.args.rest.now))) longer;
    }

pub loop-i-preserved : goal.loop-i-preserved
loop-i-preserved g c =
    let w = c.loop-i in
    let word = get_or c.args.rest.now w.i 0 in
    let one : 1 ≡ w.i + 1 + 1 - (w.i + 1) = omega arith in
    record {
      begun = omega arith;
      left =
          run_ends c.args.self.now w.self c.args.digits _ c.args.rest.now w.run _ w.i w.invariant.left
          c.loop-i-test.true c.if-word-run.false c.put_run.ensures
          ∙ ap (λ (n : ℕ). with_bytes c.put_run.new.self (runs_from c.args.digits word n (drop (w.i + 1) c.args.rest.now))) one;
    }

pub overflow_sub-rest : goal.overflow_sub-rest
overflow_sub-rest g c = omega (arith, c.loop-i.invariant.begun, c.loop-i.auto.i-end)

pub returns : goal.returns
returns g c =
    let w = c.loop-i in
    let all : length c.args.rest.now + 1 - w.before ≡ w.i + 1 - w.before = omega (arith, c.loop-i-test.false, w.auto.i-end) in
    run-is-last c.args.self.now w.self c.args.digits _ c.args.rest.now w.run _ w.i w.invariant.left
    c.loop-i-test.false
    (c.put_run-2.ensures ∙ ap (λ (n : ℕ). with_bytes w.self (run_bytes c.args.digits w.run n)) all)
