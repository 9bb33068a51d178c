-- The device's batches stay in order, where each called operation has at most one command.
use Rattle.std.proofs.Common.{ℕ, zero, suc, ◌≡◌, ◌<◌, ◌≤◌, ◌∙◌, ap, refl, arith, List, [], ◌∷◌, ◌++◌, length, drop, Bool, true, false, get_or, replicate}
use Rattle.std.specs.Prelude.{◌&&◌, ◌||◌, not, nat_lt, if◌then◌else◌}
use Rattle.std.specs.List.{list_all}
use Rattle.std.proofs.lemmas.Bool.{and_parts, leb-true}
use Rattle.dx_base.specs.Lists.{changed_at}
use Rattle.dx_base.proofs.Lists.{get_or_changed, all_append}
use Rattle.d3d_machine.specs.declared.world.World.{World}
use Rattle.d3d_machine.specs.declared.calls.Record.{Record}
use Rattle.d3d_machine.specs.declared.calls.Record.TheVariants.{Copy}
use Rattle.d3d_machine.specs.declared.events.Operation.{Operation}
use Rattle.d3d_machine.specs.declared.events.Operation.TheVariants.{Execute, Signal}
use Rattle.vk_types.specs.declared.batches.Batch.{Batch}
use Rattle.vk_port.specs.declared.lanes.Lane.{Lane}
use Rattle.vk_port.specs.declared.lanes.Running.{Running}
use Rattle.vk_port.specs.After.{lane_after_submit, started, after_submit}
use Rattle.vk_port.specs.VkState.{VkState, lane_of, no_lane, first_state}
use Rattle.sys_core.specs.Lowering.{plan_of_world, startup, lower_record, lowered_commands, leading, trailing}
use Rattle.sys_core.proofs.Startup.{after_submissions, opened_view}
use Rattle.sys_core.specs.InOrder.{is_single, is_short, is_spent, is_untouched, are_in_order}

-- the commands of an operation of at most one command
short_record : (w : World) (r : Record) → is_short (leading ∷ lower_record w r ∷ trailing ∷ []) ≡ true
short_record w (Copy d doff s soff bytes) = refl

pub lowered_is_short : (w : World) (o : Operation) → is_single o ≡ true → is_short (lowered_commands w o) ≡ true
lowered_is_short w (Execute []) single = refl
lowered_is_short w (Execute (c ∷ [])) single = short_record w c.what
lowered_is_short w (Execute (c ∷ d ∷ cs)) single =
    let few : length (c ∷ d ∷ cs) ≤ 1 = leb-true (length (c ∷ d ∷ cs)) 1 single in
    absurd (omega (arith, few))
lowered_is_short w (Signal f v) single = refl

none_marked : (n : ℕ) → list_all (λ mark. not mark) (replicate n false) ≡ true
none_marked zero = refl
none_marked (suc n) = none_marked n

-- one more batch, of which no command is done
order_behind : (rs : List Running) (r : Running) → are_in_order rs ≡ true → is_short r.batch.commands ≡ true → is_untouched r ≡ true → are_in_order (rs ++ r ∷ []) ≡ true
order_behind [] r order short none =
    ap (λ t. t && ((is_spent r || true) && true)) short ∙ either (is_spent r)
  where
    either : (t : Bool) → ((t || true) && true) ≡ true
    either true = refl
    either false = refl
order_behind (x ∷ rs) r order short none =
    let a : (is_short x.batch.commands ≡ true) × (((is_spent x || list_all is_untouched rs) && are_in_order rs) ≡ true) =
    and_parts (is_short x.batch.commands) ((is_spent x || list_all is_untouched rs) && are_in_order rs) order in
    let b : ((is_spent x || list_all is_untouched rs) ≡ true) × (are_in_order rs ≡ true) = and_parts (is_spent x || list_all is_untouched rs) (are_in_order rs) a.1 in
    ap (λ t. t && ((is_spent x || list_all is_untouched (rs ++ r ∷ [])) && are_in_order (rs ++ r ∷ []))) a.0
    ∙ ap (λ t. t && are_in_order (rs ++ r ∷ [])) (by_kind (is_spent x) b.0) ∙ order_behind rs r b.1 short none
  where
    by_kind : (t : Bool) → (t || list_all is_untouched rs) ≡ true → (t || list_all is_untouched (rs ++ r ∷ [])) ≡ true
    by_kind true either = refl
    by_kind false either = all_append is_untouched rs (r ∷ []) either (ap (λ u. u && true) none)

-- the submission of a short batch
pub order_submit : (v : VkState) (b : Batch) → 0 < length v.lanes → b.queue ≡ 0 → is_short b.commands ≡ true → are_in_order (lane_of v 0).batches ≡ true →
    are_in_order (lane_of (after_submit v b) 0).batches ≡ true
order_submit v b some queue short order =
    let lane : lane_of (after_submit v b) 0 ≡ lane_after_submit b (lane_of v 0) =
    ap (λ q. get_or (changed_at (lane_after_submit b) q v.lanes) 0 no_lane) queue ∙ get_or_changed (lane_after_submit b) v.lanes 0 no_lane some in
    ap (λ (l : Lane). are_in_order l.batches) lane
    ∙ order_behind (lane_of v 0).batches (started b) order short (none_marked (length b.commands))

-- a first batch without commands
order_with : (n : ℕ) (b : Batch) → b.commands ≡ [] → are_in_order (get_or (changed_at (lane_after_submit b) 0 (replicate n no_lane)) 0 no_lane).batches ≡ true
order_with zero b none = refl
order_with (suc n) b none = order_behind [] (started b) refl (ap is_short none) (none_marked (length b.commands))

order_without : (n : ℕ) → are_in_order (get_or (replicate n no_lane) 0 no_lane).batches ≡ true
order_without zero = refl
order_without (suc n) = refl

-- the start
pub order_first : (w : World) → are_in_order (lane_of (opened_view w) 0).batches ≡ true
order_first w = by_test (nat_lt 0 (length w.queues))
  where
    by_test : (t : Bool) → are_in_order (lane_of (after_submissions (first_state (plan_of_world w)) (if t then startup w ∷ [] else [])) 0).batches ≡ true
    by_test true = order_with (length w.queues) (startup w) refl
    by_test false = order_without (length w.queues)

-- behind the first batch
pub order_tail : (rs : List Running) → are_in_order rs ≡ true → are_in_order (drop 1 rs) ≡ true
order_tail [] order = refl
order_tail (x ∷ rs) order =
    let a : ((is_spent x || list_all is_untouched rs) && are_in_order rs) ≡ true =
    (and_parts (is_short x.batch.commands) ((is_spent x || list_all is_untouched rs) && are_in_order rs) order).1 in
    (and_parts (is_spent x || list_all is_untouched rs) (are_in_order rs) a).1
