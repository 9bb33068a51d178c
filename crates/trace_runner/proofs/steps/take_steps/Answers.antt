-- A step leads on, and a refused one leaves where the steps had led.
use Rattle.std.proofs.Common.{◌∙◌, arith}
use Rattle.trace_runner.proofs.Going as going
use Rattle.trace_runner.proofs.steps.take_steps.Goals as goal

pub loop-sys-preserved : goal.loop-sys-preserved
loop-sys-preserved g c =
    let kept = c.loop-sys.invariant in
    let took = c.in_ok-choose_step-in-Running.ensures.took in
    record {
      went = λ rest went.
          going.went_on c.loop-sys.sys c.choose_step.new.sys c.loop-sys.log c.choose_step.new.log rest (kept.went rest went) kept.equal took;
      equal = going.still_equal c.loop-sys.sys c.choose_step.new.sys c.loop-sys.log c.choose_step.new.log kept.equal took;
      world = took.taken.world ∙ kept.world;
      system = c.choose_step.ensures.system;
      whole = c.choose_step.ensures.whole;
      given = c.choose_step.ensures.given kept.given;
      started = c.choose_step.ensures.started ∙ kept.started;
      faults = omega (arith, kept.faults, c.choose_step.ensures.answered.faults);
    }

pub returns-in_err-choose_step-in-Running-clause-went : goal.returns-in_err-choose_step-in-Running-clause-went
returns-in_err-choose_step-in-Running-clause-went g c =
    λ rest went.
    let kept = c.loop-sys.invariant in
    going.went_still c.loop-sys.sys c.choose_step.new.sys c.loop-sys.log c.choose_step.new.log rest (kept.went rest went) kept.equal
    c.in_err-choose_step-in-Running.ensures.none
