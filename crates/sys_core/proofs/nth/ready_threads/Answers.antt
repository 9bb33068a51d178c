-- A turn counts the thread, where it can go on.
use Rattle.std.proofs.Common.{ℕ, ◌≡◌, ◌<◌, ◌∙◌, arith, map, length, Bool}
use Rattle.dx_base.specs.declared.steps.Step.TheVariants as step
use Rattle.sys_core.specs.Nth.{ready_at}
use Rattle.sys_core.specs.Parts.{updates_in}
use Rattle.sys_core.specs.Steps.{steps_where}
use Rattle.sys_core.proofs.NthStep.{counted_more, counted_on, seat_tests}
use Rattle.sys_core.proofs.nth.ready_threads.Goals as goal
use Rattle.sys_core.proofs.nth.ready_threads.Goals.{then-is_ready, else-is_ready}

pub loop-thread-preserved : goal.loop-thread-preserved
loop-thread-preserved c =
    let test : ℕ → Bool = ready_at c.args.world.now (map updates_in c.args.parts.now.fences) c.args.parts.now.seats in
    let n : ℕ = length c.args.world.now.scripts in
    let all : ℕ = length (steps_where test (λ t. step.Thread t) 0 n) in
    let less : c.loop-thread.thread < n = omega (arith, c.loop-thread-test.true, c.len-thread-end.ensures) in
    let is : test c.loop-thread.thread ≡ c.is_ready.result =
    seat_tests c.args.world.now (map updates_in c.args.parts.now.fences) c.args.parts.now.seats c.loop-thread.thread c.is_ready.result (omega (arith, less, c.requires.seats)) c.is_ready.ensures in
    elim c.if-is_ready.branch [
      | then-is_ready w ↦
          let more = counted_more test (λ t. step.Thread t) n c.loop-thread.thread c.loop-thread.count all less (is ∙ w.if-is_ready.true) c.loop-thread.invariant.0 in
          (omega (arith, more, w.count-is), omega (arith, c.loop-thread.invariant.1, w.count-is))
      | else-is_ready w ↦
          let on = counted_on test (λ t. step.Thread t) n c.loop-thread.thread c.loop-thread.count all less (is ∙ w.if-is_ready.false) c.loop-thread.invariant.0 in
          (omega (arith, on, w.count-is), omega (arith, c.loop-thread.invariant.1, w.count-is))
    ]
