-- A turn passes the queue, and one place more where it holds an operation.
use Rattle.std.proofs.Common.{ℕ, ◌≡◌, ◌+◌, ◌-◌, ◌<◌, ◌∙◌, sym, ap, subst, arith, length, Bool}
use Rattle.std.specs.Prelude.{not}
use Rattle.dx_base.specs.declared.steps.Step.TheVariants as step
use Rattle.sys_core.specs.Nth.{holds_at}
use Rattle.sys_core.proofs.NthStep.{IsSought, sought_past, sought_on, held_tests}
use Rattle.sys_core.proofs.nth.nth_worker.Goals as goal
use Rattle.sys_core.proofs.nth.nth_worker.Goals.{then-not-is_empty+else-left-eq0, else-not-is_empty}

pub loop-queue-preserved : goal.loop-queue-preserved
loop-queue-preserved c =
    let test : ℕ → Bool = holds_at c.args.parts.now.held in
    let n : ℕ = length c.args.world.now.queues in
    let a : ℕ = c.loop-queue.queue in
    let left : ℕ = c.loop-queue.left in
    let less : a < n = omega (arith, c.loop-queue-test.true, c.len-queue-end.ensures) in
    let is : test a ≡ not c.is_empty.result = held_tests c.args.parts.now.held a c.at.result.now c.is_empty.result c.at.ensures (sym c.is_empty.ensures) in
    elim c.if-not-is_empty.branch [
      | then-not-is_empty+else-left-eq0 w ↦
          let some : 0 < left = omega (arith, w.if-left-eq0.false) in
          let now : c.if-not-is_empty.left ≡ left - 1 = omega (arith, w.left-is) in
          subst (IsSought test (λ q. step.Worker q) n c.args.k (a + 1)) (sym now)
          (sought_past test (λ q. step.Worker q) n c.args.k a left less (is ∙ ap not w.if-not-is_empty.true) some c.loop-queue.invariant)
      | else-not-is_empty w ↦
          let now : c.if-not-is_empty.left ≡ left = omega (arith, w.left-is) in
          subst (IsSought test (λ q. step.Worker q) n c.args.k (a + 1)) (sym now)
          (sought_on test (λ q. step.Worker q) n c.args.k a left less (is ∙ ap not w.if-not-is_empty.false) c.loop-queue.invariant)
    ]
