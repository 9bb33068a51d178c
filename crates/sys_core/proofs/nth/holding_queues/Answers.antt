-- A turn counts the queue, where it holds an operation.
use Rattle.std.proofs.Common.{ℕ, ◌≡◌, ◌<◌, ◌∙◌, sym, ap, arith, length, Bool}
use Rattle.std.specs.Prelude.{not}
use Rattle.dx_base.specs.declared.steps.Step.TheVariants as step
use Rattle.sys_core.specs.Nth.{holds_at}
use Rattle.sys_core.specs.Steps.{steps_where}
use Rattle.sys_core.proofs.NthStep.{counted_more, counted_on, held_tests}
use Rattle.sys_core.proofs.nth.holding_queues.Goals as goal
use Rattle.sys_core.proofs.nth.holding_queues.Goals.{then-not-is_empty, else-not-is_empty}

pub loop-queue-preserved : goal.loop-queue-preserved
loop-queue-preserved c =
    let test : ℕ → Bool = holds_at c.args.parts.now.held in
    let n : ℕ = length c.args.world.now.queues in
    let all : ℕ = length (steps_where test (λ q. step.Worker q) 0 n) in
    let less : c.loop-queue.queue < n = omega (arith, c.loop-queue-test.true, c.len-queue-end.ensures) in
    let is : test c.loop-queue.queue ≡ not c.is_empty.result =
    held_tests c.args.parts.now.held c.loop-queue.queue c.at.result.now c.is_empty.result c.at.ensures (sym c.is_empty.ensures) in
    elim c.if-not-is_empty.branch [
      | then-not-is_empty w ↦
          let more = counted_more test (λ q. step.Worker q) n c.loop-queue.queue c.loop-queue.count all less (is ∙ ap not w.if-not-is_empty.true) c.loop-queue.invariant.0 in
          (omega (arith, more, w.count-is), omega (arith, c.loop-queue.invariant.1, w.count-is))
      | else-not-is_empty w ↦
          let on = counted_on test (λ q. step.Worker q) n c.loop-queue.queue c.loop-queue.count all less (is ∙ ap not w.if-not-is_empty.false) c.loop-queue.invariant.0 in
          (omega (arith, on, w.count-is), omega (arith, c.loop-queue.invariant.1, w.count-is))
    ]
