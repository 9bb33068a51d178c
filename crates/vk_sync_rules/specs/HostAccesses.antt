-- The accesses of the host (Vulkan 1.3, 7.9: host write ordering guarantees; 7.1: the host stage).
use Rattle.std.specs.Prelude.{ℕ, ◌≡◌, ◌<◌, true, length, slice_get, Some}
use Rattle.dx_base.specs.Each.{Each}
use Rattle.vk_types.specs.declared.accesses.Accesses.{Accesses}
use Rattle.vk_types.specs.declared.batches.Batch.{Batch}
use Rattle.vk_types.specs.declared.stages.Stages.{Stages}
use Rattle.vk_types.specs.declared.steps.VkStep.TheVariants.{Submit}
use Rattle.vk_types.specs.Stages.{meets}
use Rattle.vk_sync_rules.specs.declared.accesses.DoneAccess.{DoneAccess}
use Rattle.vk_sync_rules.specs.declared.places.Place.{Place}
use Rattle.vk_sync_rules.specs.AccessSets.{share, all_stages, all_accesses, every_write}
use Rattle.vk_sync_rules.specs.Barriers.{AreBehind, is_ready, to_host}
use Rattle.vk_sync_rules.specs.BatchEnds.{ArePassed, AreEnded}
use Rattle.vk_sync_rules.specs.DoneAccesses.{in_scope, is_host, ordered, sees, start_of}
use Rattle.vk_sync_rules.specs.Rules.{after_step, is_host_ordered, is_host_seen}
use Rattle.vk_sync_rules.specs.VkState.{VkState, batch_in, command_at, counts_of}

-- an access of the host is ordered before the batch, and a write that is available is seen there
pub record IsHosted (q n : ℕ) (r : DoneAccess) : Type 0 where
  pub order : (stages : Stages) → is_host r ≡ true → meets all_stages stages ≡ true → ordered q stages (start_of n) r ≡ true
  pub sight : (stages : Stages) (accesses : Accesses) → is_host r ≡ true → r.writes ≡ true → r.available ≡ true → meets all_stages stages ≡ true → share all_accesses accesses ≡ true →
      sees q stages accesses (start_of n) r ≡ true

abbrev pub SubmissionsHost : Type 0
SubmissionsHost = (v : VkState) (b : Batch) → Each (IsHosted b.queue b.number) (after_step v (Submit b)).accesses

-- behind the end of a batch with a barrier to the host: an access in the first scope of the barrier is ordered before the host, and
-- a write that is ready there is seen by its reads
pub record HostSees (v : VkState) (r : DoneAccess) : Type 0 where
  pub order : is_host_ordered r ≡ true
  pub sight : r.writes ≡ true → is_host_seen v r ≡ true

-- a batch that has ended and set some value, with a barrier to the host
pub record HasShown (v : VkState) (q : ℕ) (p : Place) : Type 0 where
  pub batch : Batch
  pub there : batch_in q p.number v.journal ≡ Some batch
  pub barrier : command_at v q p ≡ Some to_host
  pub queue : q < length v.queues
  pub ended : p.number < (counts_of v q).ended
  pub pair : ℕ × ℕ
  pub index : ℕ
  pub sets : slice_get batch.sets index ≡ Some pair

abbrev pub HostReadsSee : Type 0
HostReadsSee =
    (v : VkState) (q : ℕ) (p : Place) → AreBehind v → ArePassed v → AreEnded v → HasShown v q p → (i : ℕ) (r : DoneAccess) → slice_get v.accesses i ≡ Some r →
    in_scope q all_stages p r ≡ true → (r.writes ≡ true → is_ready q p all_stages every_write r ≡ true) → HostSees v r
