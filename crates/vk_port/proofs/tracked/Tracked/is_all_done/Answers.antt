-- Each turn looks at one mark.
use Rattle.std.proofs.Common.{◌≡◌, false, sym, arith}
use Rattle.vk_port.proofs.LanePlaces.{taken_more}
use Rattle.vk_port.proofs.ReadySteps.{not_all}
use Rattle.vk_port.proofs.tracked.Tracked.is_all_done.Goals as goal

pub returns-then-not-at : goal.returns-then-not-at
returns-then-not-at c =
    let unset : c.at.result.now ≡ false = grind (arith, c.if-not-at.true) in
    rw (← c.self.view_is) (sym (not_all c.self.inside.running.done c.loop-i.i (rw unset at c.at.ensures)))

pub loop-i-preserved : goal.loop-i-preserved
loop-i-preserved c =
    rw (← c.self.view_is) (taken_more (λ mark. mark) c.self.inside.running.done c.loop-i.i c.at.result.now c.at.ensures (grind (arith, c.if-not-at.false)) (rw (← c.self.view_is) at c.loop-i.invariant))
