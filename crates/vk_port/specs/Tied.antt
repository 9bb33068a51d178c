-- What a device stores, and what proofs know of it.
use Rattle.std.specs.Prelude.{ℕ, ◌≡◌, Option, Some, None}
use Rattle.std.specs.Option.{ForSome}
use Rattle.vk_port.specs.declared.kept.Kept.{Kept}
use Rattle.vk_types.specs.declared.plan.DevicePlan.{DevicePlan}
use Rattle.vk_port.specs.declared.store.Store.{Store}
use Rattle.vk_port.specs.Agreement.{AgreeEach}
use Rattle.vk_port.specs.Machine.{IsCounted, lanes_of}
use Rattle.vk_port.specs.Stored.{state_of}

-- how many queues there are by a plan
abbrev pub queues_of : Option DevicePlan → ℕ
queues_of None = 0
queues_of (Some plan) = plan.queues

-- what is stored agrees with the state of the Vulkan machine: the words are its numbers, where these are known, timelines and
-- journal are its own, and the lanes have what each of its queues has yet to do; the queues are those of the plan, which is its plan
pub record IsTied (store : Store) (kept : Kept) : Type 0 where
  pub words : AgreeEach store.words kept.seen.state.numbers.buffers
  pub timelines : (state_of store).timelines ≡ kept.seen.state.timelines
  pub journal : (state_of store).journal ≡ kept.seen.state.journal
  pub lanes : (state_of store).lanes ≡ lanes_of kept.seen.state
  pub counted : IsCounted kept.seen.state
  pub queues : store.queues ≡ queues_of kept.seen.plan
  pub plan : ForSome kept.seen.plan (λ plan. kept.seen.state.plan ≡ plan)
