-- The system keeps what it keeps, as it begins.
use Rattle.std.proofs.Common.{◌≡◌, ◌∙◌, sym, ap, subst, [], ◌∷◌, map, Some}
use Rattle.d3d_machine.specs.declared.world.World.{World}
use Rattle.d3d_machine.specs.World.{IsWorld}
use Rattle.d3d_machine.specs.State.{declared_list}
use Rattle.vk_types.specs.declared.plan.DevicePlan.{DevicePlan}
use Rattle.vk_sync_rules.specs.VkState.{VkState as Machine, first_state}
use Rattle.vk_port.specs.DeviceView.{DeviceView}
use Rattle.vk_port.specs.Machine.{shown}
use Rattle.sys_core.specs.declared.parts.Parts.{Parts}
use Rattle.sys_core.specs.Lowering.{plan_of_world, opening_batches, AreNumbers}
use Rattle.sys_core.specs.Parts.{queued, updates_in, no_queue, opening_seat}
use Rattle.sys_core.specs.Consistent.{IsConsistent}
use Rattle.sys_core.specs.Keeps.{Keeps}
use Rattle.sys_core.proofs.Opening.{consistent_open}
use Rattle.sys_core.proofs.WaitSearches.{searched_first}
use Rattle.sys_core.specs.WaitSearches.{AreSearched}
use Rattle.sys_core.specs.Machine.{IsMachine}
use Rattle.sys_core.specs.Opened.{opened}
use Rattle.sys_core.specs.Steps.{after_submits}
use Rattle.sys_core.proofs.MachineSteps.{machine_open}

-- the machine when the world's objects are made and the batches before any call are submitted
pub is_opened : (w : World) (plan : DevicePlan) (m n : Machine) → plan ≡ plan_of_world w → m ≡ first_state plan → n ≡ after_submits m (opening_batches w) → n ≡ opened w
is_opened w plan m n planned made submitted = submitted ∙ ap (λ x. after_submits x (opening_batches w)) (made ∙ ap first_state planned)

pub begins : (w : World) → IsWorld w → (p : Parts) (d : DeviceView) →
    p.lists ≡ map (λ _. declared_list) w.lists → p.seats ≡ map (λ _. opening_seat) w.scripts → map updates_in p.fences ≡ map (λ v. v ∷ []) w.fences →
    map queued p.held ≡ map (λ _. no_queue) w.queues → d.state ≡ opened w → d.plan ≡ Some (plan_of_world w) → AreNumbers w.resources p.numbers → Keeps w [] p d
begins w world p d lists seats fences held after plan numbers = record {
  consistent =
      subst (λ m. IsConsistent w [] p.lists p.seats (map updates_in p.fences) (map queued p.held) (shown m)) (sym after)
      (subst (λ x. IsConsistent w [] p.lists p.seats (map updates_in p.fences) x (shown (opened w))) (sym held)
      (subst (λ x. IsConsistent w [] p.lists p.seats x (map (λ _. no_queue) w.queues) (shown (opened w))) (sym fences)
      (subst (λ x. IsConsistent w [] p.lists x (map (λ v. v ∷ []) w.fences) (map (λ _. no_queue) w.queues) (shown (opened w))) (sym seats)
      (subst (λ x. IsConsistent w [] x (map (λ _. opening_seat) w.scripts) (map (λ v. v ∷ []) w.fences) (map (λ _. no_queue) w.queues) (shown (opened w))) (sym lists)
      (consistent_open w world)))));
  machine_is = subst (IsMachine w) (sym after) (machine_open w).0;
  plan = plan;
  numbers = numbers;
  searched = subst (AreSearched (map updates_in p.fences)) (sym seats) (searched_first (map updates_in p.fences) w.scripts);
}
