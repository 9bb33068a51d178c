-- The first state keeps everything, and what the barriers of an execute do.
use Rattle.std.specs.Prelude.{nat_lt, nat_le, slice_index_or, replicate}
use Rattle.vk_types.specs.declared.stages.Stages.{Stages}
use Rattle.vk_types.specs.declared.steps.VkStep.TheVariants.{Submit}
use Rattle.vk_types.specs.Stages.{meets}
use Rattle.std.proofs.Common.{zero, suc, false, Bool, map, ◌==◌, ◌||◌, ◌∙◌, ◌≡◌, ℕ, true, ◌&&◌, List, [], ◌∷◌, refl, sym, subst, arith, Some, None}
use Rattle.std.proofs.lemmas.Bool.{false≢true, and_from, or_left}
use Rattle.std.proofs.lemmas.Option.{none-some}
use Rattle.vk_types.specs.declared.batches.Batch.{Batch}
use Rattle.vk_types.specs.declared.commands.VkCommand.{VkCommand}
use Rattle.vk_sync_rules.specs.AccessSets.{all_accesses, all_stages, every_write, host_reads, host_stage, share}
use Rattle.vk_sync_rules.specs.Barriers.{AreBehind, IsBehind, IsCleared, IsHonest, IsShown, to_all, to_host}
use Rattle.vk_sync_rules.specs.BatchEnds.{AreEnded, ArePassed, IsSignalled}
use Rattle.vk_sync_rules.specs.DoneAccesses.{after_submit, is_host}
use Rattle.vk_sync_rules.specs.FirstState.{Begins, IsFirst}
use Rattle.vk_types.specs.declared.plan.DevicePlan.{DevicePlan}
use Rattle.vk_sync_rules.specs.Makers.{HasOwner}
use Rattle.vk_sync_rules.specs.HostAccesses.{IsHosted}
use Rattle.vk_sync_rules.specs.Rules.{after_step}
use Rattle.vk_sync_rules.specs.Soundness.{IsSound}
use Rattle.vk_sync_rules.specs.VkState.{VkState, no_counts, first_counts, first_queues, first_state, batch_in, command_at, command_in, is_done}
use Rattle.vk_sync_rules.specs.declared.accesses.DoneAccess.{DoneAccess}
use Rattle.vk_sync_rules.specs.declared.counts.Done.{Done}
use Rattle.vk_sync_rules.specs.declared.places.Place.{Place}
use Rattle.dx_base.specs.Each.{Each}
use Rattle.dx_base.proofs.Each.{each_on, each_none}

-- behind a full barrier, and behind one to the host
pub barriers_clear : (v : VkState) (q : ℕ) (p : Place) → AreBehind v → command_at v q p ≡ Some to_all → is_done v.done q p ≡ true → Each (IsCleared q p) v.accesses
barriers_clear v q p are has done = are.behind q p _ _ _ _ None has done

pub barriers_show : (v : VkState) (q : ℕ) (p : Place) → AreBehind v → command_at v q p ≡ Some to_host → is_done v.done q p ≡ true → Each (IsShown q p) v.accesses
barriers_show v q p are has done =
    each_on (IsBehind q p all_stages every_write host_stage host_reads) (IsShown q p) v.accesses
    (λ r is. record { sight = λ w ready. is.sight host_stage host_reads w ready refl refl }) (are.behind q p _ _ _ _ None has done)

pub first_begins : (v : VkState) → IsFirst v → Begins v
first_begins v is = record { sound = sound; behind = behind; passed = passed; ended = ended; owned = owned } where
  none_done : {P : Type 0} (q : ℕ) (p : Place) → is_done v.done q p ≡ true → P
  none_done q p h = absurd (false≢true (subst (λ (ds : List Done). is_done ds q p ≡ true) is.done h))

  none_there : {P : Type 0} (q : ℕ) (p : Place) (c : VkCommand) → command_at v q p ≡ Some c → P
  none_there q p c h = absurd (none-some c (subst (λ (j : List Batch). command_in (batch_in q p.number j) p.index ≡ Some c) is.journal h))

  no_batch : {P : Type 0} (q n : ℕ) (b : Batch) → batch_in q n v.journal ≡ Some b → P
  no_batch q n b h = absurd (none-some b (subst (λ (j : List Batch). batch_in q n j ≡ Some b) is.journal h))

  sound : IsSound v
  sound = record { there = λ q p h. none_done q p h; submitted = λ q p c h. none_there q p c h; passed = λ q p h. none_done q p h; order = λ q e l c d has_e has_l before order h. none_done q l h }

  behind : AreBehind v
  behind = record { honest = each_none IsHonest v.accesses is.accesses; behind = λ q p from made to seen change has done. none_done q p done }

  passed : ArePassed v
  passed = record {
    ended_passed = λ q. let c = is.counted q in let a = c.0 in let b = c.1 in omega (arith, a, b);
    passed_submitted = λ q. let c = is.counted q in let b = c.1 in omega (arith, b);
    numbered = λ q n b h. no_batch q n b h;
    known = each_none IsSignalled v.accesses is.accesses;
    waited = λ q n b h less. no_batch q n b h;
    ended = λ q n b h less. no_batch q n b h;
    reach = λ q n b h less. no_batch q n b h;
  }

  ended : AreEnded v
  ended = record { done = λ q n b h less. no_batch q n b h }

  owned : Each (HasOwner v.plan v.done v.journal) v.accesses
  owned = each_none (HasOwner v.plan v.done v.journal) v.accesses is.accesses

-- a device that was just created
first_counts_of : (n k q : ℕ) → (slice_index_or (replicate k (first_counts n)) q no_counts).ended ≡ (slice_index_or (replicate k (first_counts n)) q no_counts).submitted
first_counts_of n zero q = refl
first_counts_of n (suc k) zero = refl
first_counts_of n (suc k) (suc q) = first_counts_of n k q

first_passed_of : (n k q : ℕ) → (slice_index_or (replicate k (first_counts n)) q no_counts).passed ≡ (slice_index_or (replicate k (first_counts n)) q no_counts).submitted
first_passed_of n zero q = refl
first_passed_of n (suc k) zero = refl
first_passed_of n (suc k) (suc q) = first_passed_of n k q

first_queues_of : (k q : ℕ) → ((slice_index_or (first_queues k) q no_counts).ended ≡ (slice_index_or (first_queues k) q no_counts).submitted)
    × ((slice_index_or (first_queues k) q no_counts).passed ≡ (slice_index_or (first_queues k) q no_counts).submitted)
first_queues_of zero q = (refl, refl)
first_queues_of (suc k) zero = (refl, refl)
first_queues_of (suc k) (suc q) = (first_counts_of 1 k q, first_passed_of 1 k q)

pub devices_begin : (plan : DevicePlan) → IsFirst (first_state plan)
devices_begin plan = record { journal = refl; done = refl; accesses = refl; counted = λ q. first_queues_of plan.queues q }

-- a submission orders what the host did before
hosted : (t : Bool) (q n : ℕ) (r : DoneAccess) → is_host r ≡ t → IsHosted q n (after_submit q n r)
hosted true q n r e = rw e (record {
  order = λ stages h m. or_left (here stages) _ (gives stages m);
  sight = λ stages accesses h w available m a. or_left (here stages && ((r.writes && r.available) && share all_accesses accesses)) _
      (and_from (here stages) ((r.writes && r.available) && share all_accesses accesses) (gives stages m)
      (and_from (r.writes && r.available) (share all_accesses accesses) (and_from r.writes r.available w available) a));
}) where
  here : Stages → Bool
  here stages = (q == q) && (meets all_stages stages && (nat_lt n n || ((n == n) && nat_le 0 0)))

  gives : (stages : Stages) → meets all_stages stages ≡ true → here stages ≡ true
  gives stages m = and_from (q == q) (meets all_stages stages && (nat_lt n n || ((n == n) && nat_le 0 0))) (grind arith) (and_from (meets all_stages stages) (nat_lt n n || ((n == n) && nat_le 0 0)) m (grind arith))
hosted false q n r e = rw e (record {
  order = λ stages h m. absurd (false≢true (sym e ∙ h));
  sight = λ stages accesses h w available m a. absurd (false≢true (sym e ∙ h));
})

each_submitted : (q n : ℕ) (rs : List DoneAccess) → Each (IsHosted q n) (map (after_submit q n) rs)
each_submitted q n [] = tt
each_submitted q n (r ∷ rs) = (hosted (is_host r) q n r refl, each_submitted q n rs)

pub submissions_host : (v : VkState) (b : Batch) → Each (IsHosted b.queue b.number) (after_step v (Submit b)).accesses
submissions_host v b = each_submitted b.queue b.number v.accesses
