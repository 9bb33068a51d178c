-- The batches before any call: the start-up batch, where there is a queue.
use Rattle.std.proofs.Common.{◌≡◌, ◌<◌, ◌≤◌, ◌∙◌, ap, arith, List, [], ◌∷◌, ◌++◌, length}
use Rattle.std.proofs.lemmas.Bool.{lt-ltb, le-ltb}
use Rattle.std.specs.Prelude.{if◌then◌else◌}
use Rattle.d3d_machine.specs.declared.world.World.{World}
use Rattle.d3d_machine.specs.declared.events.Event.{Event}
use Rattle.d3d_machine.specs.World.{HasOneQueueAtMost}
use Rattle.vk_types.specs.declared.batches.Batch.{Batch}
use Rattle.vk_port.specs.After.{after_submit}
use Rattle.vk_port.specs.VkState.{VkState, first_state}
use Rattle.sys_core.specs.Lowering.{plan_of_world, startup, opening_batches}
use Rattle.sys_core.specs.Stands.{Stands}

-- what is shown of the machine after batches were submitted
abbrev pub after_submissions : VkState → List Batch → VkState
after_submissions v [] = v
after_submissions v (b ∷ bs) = after_submissions (after_submit v b) bs

-- what is shown of the machine before any call
abbrev pub opened_view : World → VkState
opened_view w = after_submissions (first_state (plan_of_world w)) (opening_batches w)

-- with a queue, the start-up batch
pub opening_is : (w : World) → 0 < length w.queues → opening_batches w ≡ startup w ∷ []
opening_is w some = ap (λ t. if t then startup w ∷ [] else []) (lt-ltb 0 (length w.queues) some)

-- without, none
pub opening_none : (w : World) → length w.queues ≤ 0 → opening_batches w ≡ []
opening_none w none = ap (λ t. if t then startup w ∷ [] else []) (le-ltb 0 (length w.queues) none)

-- with a queue, the journal begins with the start-up batch
pub begins_by : (w : World) (j rest : List Batch) → 0 < length w.queues → j ≡ opening_batches w ++ rest → j ≡ startup w ∷ rest
begins_by w j rest some begins = begins ∙ ap (λ bs. bs ++ rest) (opening_is w some)

pub begins_of : (w : World) (h : List Event) (v : VkState) (s : Stands w h v) → 0 < length w.queues → v.journal ≡ startup w ∷ s.rest
begins_of w h v s some = begins_by w v.journal s.rest some s.begins

-- where there is a queue, it is the one queue
pub one_queue : (w : World) → HasOneQueueAtMost w → 0 < length w.queues → length w.queues ≡ 1
one_queue w most some = omega (arith, some, most.few_queues)
