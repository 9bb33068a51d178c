-- The steps that the Vulkan machine can take.
use Rattle.std.specs.Prelude.{ℕ, Bool, true, false, ◌&&◌, ◌||◌, not, ◌==◌, nat_lt, nat_le, List, length, Option, Some, None}
use Rattle.std.specs.List.{list_all}
pub use Rattle.vk_types.specs.Timelines.{reached}
use Rattle.vk_types.specs.declared.commands.VkCommand.{VkCommand}
use Rattle.vk_types.specs.declared.steps.VkStep.{VkStep}
use Rattle.vk_types.specs.declared.steps.VkStep.TheVariants.{Submit, Pass, Command, Bump, HostWrite, HostRead, Update}
use Rattle.vk_sync_rules.specs.declared.counts.Counts.{Counts}
use Rattle.vk_sync_rules.specs.declared.counts.Done.{Done}
use Rattle.vk_sync_rules.specs.declared.places.Place.{Place}
use Rattle.vk_sync_rules.specs.Orders.{sort_of, orders}
use Rattle.vk_sync_rules.specs.Places.{is_before}
use Rattle.vk_sync_rules.specs.Registers.{slots_of}
use Rattle.vk_sync_rules.specs.VkState.{VkState, Placed, counts_of, placed, placed_from, command_at, is_done, batch_in}

-- a batch of a queue has passed and has not ended
abbrev pub is_running : Counts → ℕ → Bool
is_running c n = nat_le c.ended n && nat_lt n c.passed

-- an earlier command is done, or need not be before this one
abbrev pub lets : List Done → ℕ → Place → VkCommand → Placed → Bool
lets done q p c e = not (is_before e.place p && orders (sort_of e.command) (sort_of c)) || is_done done q e.place

-- each earlier command of the queue lets a command be done (Vulkan 1.3, 7.1: execution dependencies)
abbrev pub is_free : VkState → ℕ → Place → VkCommand → Bool
is_free v q p c = list_all (lets v.done q p c) (placed q v.journal)

-- a command can be done: the earlier ones let it, and it has an answer for each slot that it loads
abbrev pub can_run : VkState → ℕ → Place → List ℕ → Option VkCommand → Bool
can_run v q p loaded None = false
can_run v q p loaded (Some c) = (length loaded == length (slots_of c)) && is_free v q p c

-- all commands of a batch are done
abbrev pub all_done : List Done → ℕ → List Placed → Bool
all_done done q xs = list_all (λ (x : Placed). is_done done q x.place) xs

-- a step can be taken; what is no pass, command or end always can
abbrev pub is_enabled : VkState → VkStep → Bool
is_enabled v (Submit b) = true
is_enabled v (Pass q n) =
    (n == (counts_of v q).passed)
    && elim (batch_in q n v.journal) [ None ↦ false | Some b ↦ reached v.timelines b.waits ]
is_enabled v (Command q n k loaded) =
    is_running (counts_of v q) n
    && (not (is_done v.done q (record { number = n; index = k }))
    && can_run v q (record { number = n; index = k }) loaded (command_at v q (record { number = n; index = k })))
is_enabled v (Bump q n) =
    (n == (counts_of v q).ended) && (nat_lt n (counts_of v q).passed
    && elim (batch_in q n v.journal) [ None ↦ false | Some b ↦ all_done v.done q (placed_from n 1 b.commands) ])
is_enabled v (HostWrite buffer first words) = true
is_enabled v (HostRead buffer first words) = true
is_enabled v (Update heap slot) = true
