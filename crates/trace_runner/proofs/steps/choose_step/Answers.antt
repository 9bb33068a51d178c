-- The step is the one that the choice names.
use Rattle.std.proofs.Common.{◌≡◌, ◌%◌, ◌∙◌, ap, subst, ◌∷◌, ◌++◌, [], Some}
use Rattle.std.specs.List.{slice_get}
use Rattle.verdicts.specs.declared.rules.Verdict.TheVariants.{Clean}
use Rattle.vk_port.specs.Machine.{shown}
use Rattle.sys_core.specs.Steps.{enabled_of}
use Rattle.sys_core.proofs.NthStep.{any_step}
use Rattle.trace_runner.proofs.steps.choose_step.Goals as goal

pub take_step-requires : goal.take_step-requires
take_step-requires g c =
    any_step c.args.sys.now.world c.args.sys.now.history (shown c.args.sys.now.device.state) c.args.sys.now.device.offered
    (c.in_ok-choice.choice % c.enabled.result) c.kth-step.result c.kth-step.ensures

pub returns-clause-took : goal.returns-clause-took
returns-clause-took g c = record {
  choice = c.in_ok-choice.choice;
  chooses = record {
    running = c.requires.running;
    free = c.args.sys.now.device.offered;
    none_free = c.enabled.ensures.none_at_rest;
    step = c.kth-step.result;
    some = c.requires.some;
    chosen =
        subst (λ n. slice_get (enabled_of c.args.sys.now.world c.args.sys.now.history Clean (shown c.args.sys.now.device.state) c.args.sys.now.device.offered)
        (c.in_ok-choice.choice % n) ≡ Some c.kth-step.result) c.enabled.ensures.count c.kth-step.ensures;
    goes = c.in_ok-take_step.ensures.taken.goes;
  };
  taken = c.in_ok-take_step.ensures.taken;
  choices = c.push_reserved.ensures ∙ ap (λ xs. xs ++ c.in_ok-choice.choice ∷ []) c.in_ok-reserve.ensures.same_choices;
  steps = c.push_reserved-2.ensures ∙ ap (λ xs. xs ++ c.kth-step.result ∷ []) c.in_ok-reserve.ensures.same_taken;
}
