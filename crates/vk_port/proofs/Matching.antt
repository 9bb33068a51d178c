-- The state of the Vulkan machine keeps the objects of the plan.
use Rattle.std.proofs.Common.{◌≡◌, ℕ, ◌<◌, ◌∙◌, true, ◌&&◌, List, [], ◌∷◌, length, refl, nat_lt, slice_set}
use Rattle.std.specs.List.{list_all}
use Rattle.std.proofs.lemmas.Bool.{and_parts, ltb-true}
use Rattle.std.proofs.lemmas.List.{length-replicate, length-set}
use Rattle.vk_types.specs.declared.batches.Batch.{Batch}
use Rattle.vk_types.specs.declared.plan.DevicePlan.{DevicePlan}
use Rattle.vk_port.specs.declared.steps.Stepped.{Stepped}
use Rattle.vk_port.specs.declared.steps.Stepped.TheVariants.{Passed, Ran, Bumped, Free}
use Rattle.vk_port.specs.After.{lane_after_run, lane_after_pass, lane_after_bump, sets_of, after_sets, lane_after_submit, after_step, after_submit}
use Rattle.vk_port.specs.Journal.{pairs_fit, command_fits, fits_plan}
use Rattle.vk_port.specs.Valid.{Matches}
use Rattle.vk_port.specs.VkState.{VkState, lane_of, no_lane, first_state}
use Rattle.vk_port.proofs.Lists.{length_changed}

-- timelines that are set are as many
sets_kept : (pairs : List (ℕ × ℕ)) (timelines : List ℕ) → length (after_sets pairs timelines) ≡ length timelines
sets_kept [] timelines = refl
sets_kept (pair ∷ pairs) timelines = sets_kept pairs (slice_set timelines pair.0 pair.1) ∙ length-set timelines pair.0 pair.1

-- the first state has the objects of its plan
pub first_matches : (plan : DevicePlan) → Matches plan (first_state plan)
first_matches plan = record {
  lanes = length-replicate plan.queues no_lane;
  timelines = length-replicate {A = ℕ} plan.timelines 0;
}

-- a step keeps the objects of the plan
pub step_matches : (plan : DevicePlan) (v : VkState) (s : Stepped) → Matches plan v → Matches plan (after_step v s)
step_matches plan v (Passed q n) is = record { lanes = length_changed lane_after_pass q v.lanes ∙ is.lanes; timelines = is.timelines }
step_matches plan v (Ran q n k) is = record {
  lanes = length_changed (lane_after_run n k) q v.lanes ∙ is.lanes;
  timelines = is.timelines;
}
step_matches plan v (Bumped q n) is = record {
  lanes = length_changed lane_after_bump q v.lanes ∙ is.lanes;
  timelines = sets_kept (sets_of (lane_of v q)) v.timelines ∙ is.timelines;
}
step_matches plan v Free is = is

-- so does a submission
pub submit_matches : (plan : DevicePlan) (v : VkState) (b : Batch) → Matches plan v → Matches plan (after_submit v b)
submit_matches plan v b is = record { lanes = length_changed (lane_after_submit b) b.queue v.lanes ∙ is.lanes; timelines = is.timelines }

-- the queue of a batch that fits a plan is there
pub fits_queue : (plan : DevicePlan) (v : VkState) (b : Batch) → Matches plan v → fits_plan plan b ≡ true → b.queue < length v.lanes
fits_queue plan v b is fits =
    let there : b.queue < plan.queues = ltb-true b.queue plan.queues (and_parts (nat_lt b.queue plan.queues) (pairs_fit plan b.waits && (pairs_fit plan b.sets && list_all (command_fits plan) b.commands)) fits).0 in
    rw is.lanes there
