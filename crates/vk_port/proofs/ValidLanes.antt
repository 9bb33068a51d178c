-- Lanes stay valid, whatever the words and the timelines are.
use Rattle.std.proofs.Common.{◌≡◌, ℕ, suc, ◌+◌, ◌<◌, ◌==◌, true, List, [], ◌∷◌, map, length, get_or, refl, sym, subst, arith}
use Rattle.std.specs.List.{list_all}
use Rattle.std.proofs.lemmas.Bool.{and_parts, and_from, eqb-true}
use Rattle.std.proofs.Math.Logic.{∥∥₁_elim, ∥∥₁_map}
use Rattle.std.proofs.Props.{props}
use Rattle.std.proofs.lemmas.Grind.{merely}
use Rattle.vk_types.specs.declared.batches.Batch.{Batch}
use Rattle.vk_types.specs.declared.plan.DevicePlan.{DevicePlan}
use Rattle.vk_port.specs.declared.steps.Stepped.{Stepped}
use Rattle.vk_port.specs.After.{after_step, after_submit}
use Rattle.vk_port.specs.Journal.{of_queue, first_number, next_number, are_numbered}
use Rattle.vk_port.specs.Fronts.{lane_number, is_numbered}
use Rattle.vk_port.specs.declared.lanes.Lane.{Lane}
use Rattle.vk_port.specs.declared.lanes.Running.{Running}
use Rattle.vk_port.specs.Meaning.{IsEnabled}
use Rattle.vk_port.specs.Valid.{IsLane, IsValid, AreValidLanes, batch_of}
use Rattle.vk_port.specs.VkState.{VkState, first_state, no_lane}
use Rattle.vk_port.proofs.Falls.{numbered_later}
use Rattle.vk_port.proofs.Valid.{first_valid, step_valid, submit_valid}

pub to_lanes : (v : VkState) → IsValid v → AreValidLanes v.journal v.lanes
to_lanes v valid = record { lanes = valid.lanes; numbered = valid.numbered }

pub from_lanes : (v : VkState) → AreValidLanes v.journal v.lanes → IsValid v
from_lanes v valid = record { lanes = valid.lanes; numbered = valid.numbered }

-- at first, after a step that can be taken, and after a submission
pub lanes_at_first : (plan : DevicePlan) → ∥ AreValidLanes [] (first_state plan).lanes ∥₁
lanes_at_first plan = merely (to_lanes (first_state plan) (first_valid plan))

pub lanes_after_step : (v : VkState) (s : Stepped) → IsEnabled v s → ∥ AreValidLanes v.journal v.lanes ∥₁ → ∥ AreValidLanes (after_step v s).journal (after_step v s).lanes ∥₁
lanes_after_step v s e valid = ∥∥₁_map valid (λ h. to_lanes (after_step v s) (step_valid v s e (from_lanes v h)))

pub lanes_after_submit : (v : VkState) (b : Batch) → b.queue < length v.lanes → b.number ≡ next_number b.queue v.journal → ∥ AreValidLanes v.journal v.lanes ∥₁ →
    ∥ AreValidLanes (after_submit v b).journal (after_submit v b).lanes ∥₁
lanes_after_submit v b within number valid = ∥∥₁_map valid (λ h. to_lanes (after_submit v b) (submit_valid v b within number (from_lanes v h)))

-- valid lanes are numbered
numbered_from : (rs : List Running) (m : ℕ) → are_numbered m (map batch_of rs) ≡ true → are_numbered (lane_number rs) (map batch_of rs) ≡ true
numbered_from [] m h = refl
numbered_from (r ∷ rs) m h =
    let number : r.batch.number ≡ m = eqb-true r.batch.number m (and_parts (r.batch.number == m) (are_numbered (m + 1) (map batch_of rs)) h).0 in
    subst (λ (n : ℕ). are_numbered n (map batch_of (r ∷ rs)) ≡ true) (sym number) h

each_numbered : (bs : ℕ → List Batch) (ls : List Lane) (p : ℕ) → ((q : ℕ) → are_numbered (first_number q) (bs q) ≡ true) → ((q : ℕ) → IsLane (bs (p + q)) (get_or ls q no_lane)) → list_all is_numbered ls ≡ true
each_numbered bs [] p numbered lanes = refl
each_numbered bs (l ∷ ls) p numbered lanes =
    let first : p + 0 ≡ p = omega arith in
    let here : IsLane (bs p) l = rw first at (lanes 0) in
    let batches : are_numbered (first_number p + here.finished) (map batch_of l.batches) ≡ true = rw here.are_last (numbered_later (first_number p) here.finished (bs p) (numbered p)) in
    and_from (is_numbered l) (list_all is_numbered ls) (numbered_from l.batches (first_number p + here.finished) batches)
    (each_numbered bs ls (p + 1) numbered (λ q. let next : p + suc q ≡ p + 1 + q = omega arith in rw next at (lanes (suc q))))

pub lanes_numbered : (v : VkState) → ∥ AreValidLanes v.journal v.lanes ∥₁ → list_all is_numbered v.lanes ≡ true
lanes_numbered v valid = ∥∥₁_elim valid (hlevel props) (λ h. each_numbered (λ q. of_queue q v.journal) v.lanes 0 h.numbered (λ q. let same : 0 + q ≡ q = omega arith in rw same (h.lanes q)))
