-- A turn passes the thread, and one place more where it can go on.
use Rattle.std.proofs.Common.{ℕ, ◌≡◌, ◌+◌, ◌-◌, ◌<◌, ◌∙◌, sym, subst, arith, map, length, Bool}
use Rattle.dx_base.specs.declared.steps.Step.TheVariants as step
use Rattle.sys_core.specs.Nth.{ready_at}
use Rattle.sys_core.specs.Parts.{updates_in}
use Rattle.sys_core.proofs.NthStep.{IsSought, sought_past, sought_on, seat_tests}
use Rattle.sys_core.proofs.nth.nth_thread.Goals as goal
use Rattle.sys_core.proofs.nth.nth_thread.Goals.{then-is_ready+else-left-eq0, else-is_ready}

pub loop-thread-preserved : goal.loop-thread-preserved
loop-thread-preserved c =
    let test : ℕ → Bool = ready_at c.args.world.now (map updates_in c.args.parts.now.fences) c.args.parts.now.seats in
    let n : ℕ = length c.args.world.now.scripts in
    let a : ℕ = c.loop-thread.thread in
    let left : ℕ = c.loop-thread.left in
    let less : a < n = omega (arith, c.loop-thread-test.true, c.len-thread-end.ensures) in
    let is : test a ≡ c.is_ready.result =
    seat_tests c.args.world.now (map updates_in c.args.parts.now.fences) c.args.parts.now.seats a c.is_ready.result (omega (arith, less, c.requires.seats)) c.is_ready.ensures in
    elim c.if-is_ready.branch [
      | then-is_ready+else-left-eq0 w ↦
          let some : 0 < left = omega (arith, w.if-left-eq0.false) in
          let now : c.if-is_ready.left ≡ left - 1 = omega (arith, w.left-is) in
          subst (IsSought test (λ t. step.Thread t) n c.args.k (a + 1)) (sym now)
          (sought_past test (λ t. step.Thread t) n c.args.k a left less (is ∙ w.if-is_ready.true) some c.loop-thread.invariant)
      | else-is_ready w ↦
          let now : c.if-is_ready.left ≡ left = omega (arith, w.left-is) in
          subst (IsSought test (λ t. step.Thread t) n c.args.k (a + 1)) (sym now)
          (sought_on test (λ t. step.Thread t) n c.args.k a left less (is ∙ w.if-is_ready.false) c.loop-thread.invariant)
    ]
