-- The system stays consistent when an operation's batch is submitted.
use Rattle.std.proofs.Common.{ℕ, ◌≡◌, ◌<◌, ◌≤◌, ◌+◌, ◌-◌, ◌∙◌, sym, ap, subst, refl, arith, List, [], ◌∷◌, ◌++◌, length, take, Some, Bool, true, false, append-nil, length-append, get_or, inl, inr, cond}
use Rattle.std.proofs.lemmas.Bool.{lt-ltb, ltb-true}
use Rattle.std.proofs.lemmas.Bool.Decides.{eqb_tells}
use Rattle.std.proofs.lemmas.Option.{slice_get_within}
use Rattle.std.specs.List.{slice_get, list_all}
use Rattle.std.specs.Prelude.{◌&&◌, ◌==◌, not, nat_lt, if◌then◌else◌}
use Rattle.dx_base.specs.Lists.{changed_at}
use Rattle.dx_base.proofs.Lists.{length_changed, get_changed, get_changed_other, get_or_changed, get_or_changed_other, and_both, and_of, all_append}
use Rattle.d3d_machine.specs.declared.world.World.{World}
use Rattle.d3d_machine.specs.declared.events.Listed.{Listed}
use Rattle.d3d_machine.specs.declared.events.Operation.{Operation}
use Rattle.d3d_machine.specs.declared.events.Operation.TheVariants.{Execute, Signal}
use Rattle.d3d_machine.specs.declared.events.Event.{Event}
use Rattle.d3d_machine.specs.World.{HasOneQueueAtMost}
use Rattle.d3d_machine.specs.Operations.{operations, counter}
use Rattle.vk_types.specs.declared.batches.Batch.{Batch}
use Rattle.vk_port.specs.declared.lanes.Lane.{Lane}
use Rattle.vk_port.specs.Journal.{of_queue, first_number, next_number}
use Rattle.vk_port.specs.VkState.{VkState, lane_of, no_lane}
use Rattle.vk_port.specs.After.{after_submit, lane_after_submit, started}
use Rattle.vk_port.proofs.Valid.{submit_valid}
use Rattle.vk_port.proofs.Matching.{submit_matches}
use Rattle.sys_core.specs.declared.parts.Seat.{Seat}
use Rattle.sys_core.specs.Lowering.{plan_of_world, lowered_commands, startup, lowered, waits_of, other_counters, other_pending, last_signal, own_wait, signals_fence}
use Rattle.sys_core.specs.Batches.{batch_by, waits_by}
use Rattle.sys_core.specs.Parts.{Queued, submitted_one}
use Rattle.sys_core.specs.Stands.{Stands}
use Rattle.sys_core.specs.Steps.{submitted_of}
use Rattle.sys_core.specs.Consistent.{IsHeld, AreHeld, IsDevice, IsConsistent, finished_of}
use Rattle.sys_core.proofs.Standing.{stands_submit, submitted_is, next_is, of_queue_append}
use Rattle.sys_core.proofs.Holding.{held_submit, slice_get_drop}
use Rattle.sys_core.proofs.Startup.{begins_of}
use Rattle.sys_core.proofs.Calling.{mapped_some}

-- the one queue
one_queue : (w : World) (q : ℕ) → HasOneQueueAtMost w → q < length w.queues → (q ≡ 0) × (length w.queues ≡ 1)
one_queue w q most within = (omega (arith, within, most.few_queues), omega (arith, within, most.few_queues))

no_other : (w : World) (h : List Event) (q : ℕ) → q ≡ 0 → length w.queues ≡ 1 → other_counters h q 0 (length w.queues) ≡ []
no_other w h q zeroth one = ap (other_counters h q 0) one ∙ ap (λ p. other_counters h p 0 1) zeroth

no_pending : (w : World) (h : List Event) (f : ℕ) (bs : List Batch) (found : List (ℕ × ℕ)) → length w.queues ≡ 1 → list_all (λ b. nat_lt b.queue (length w.queues)) bs ≡ true →
    other_pending w h 0 f found bs ≡ found
no_pending w h f [] found one named = refl
no_pending w h f (b ∷ bs) found one named =
    let both : (nat_lt b.queue (length w.queues) ≡ true) × (list_all (λ x. nat_lt x.queue (length w.queues)) bs ≡ true) =
    and_both (nat_lt b.queue (length w.queues)) (list_all (λ x. nat_lt x.queue (length w.queues)) bs) named in
    let here : b.queue ≡ 0 = omega (arith, ltb-true b.queue (length w.queues) both.0, one) in
    ap (λ k. other_pending w h 0 f (if (not (k == 0) && (nat_lt (counter h b.queue) b.number && signals_fence f (slice_get (operations w h b.queue) (b.number - 1)))) then (b.queue, b.number) ∷ [] else found) bs) here
    ∙ no_pending w h f bs found one both.1

-- the waits of a batch, where there is no other queue
pub waits_are : (w : World) (h : List Event) (earlier : List Batch) (q : ℕ) (before : List Operation) (o : Operation) → q ≡ 0 → length w.queues ≡ 1 →
    list_all (λ b. nat_lt b.queue (length w.queues)) earlier ≡ true → waits_of w h earlier q before o ≡ waits_by (length w.queues) q (last_signal 1 0 before) o
waits_are w h earlier q before (Execute cs) zeroth one named =
    ap (λ xs. (length w.queues, 1) ∷ (own_wait q (last_signal 1 0 before) ++ xs)) (no_other w h q zeroth one)
    ∙ ap (λ xs. (length w.queues, 1) ∷ xs) (append-nil (own_wait q (last_signal 1 0 before)))
waits_are w h earlier q before (Signal f v) zeroth one named =
    ap (λ p. other_pending w h p f.0 [] earlier) zeroth ∙ no_pending w h f.0 earlier [] one named

-- what the worker submits is the lowered batch, where there is no other queue
pub lowered_is : (w : World) (h : List Event) (v : VkState) (q : ℕ) (x : Queued) (o : Operation) → HasOneQueueAtMost w → IsDevice w h v → IsHeld w h v q x → q < length w.queues →
    lowered w h v.journal q (submitted_of v q + 1) o ≡ batch_by w q (x.submitted + 1) x.last_signal o
lowered_is w h v q x o most device held within =
    let one : (q ≡ 0) × (length w.queues ≡ 1) = one_queue w q most within in
    let before : List Operation = take (submitted_of v q + 1 - 1) (operations w h q) in
    let front : before ≡ take x.submitted (operations w h q) = ap (λ k. take k (operations w h q)) (omega (arith, held.submitted_is)) in
    let waits : waits_of w h v.journal q before o ≡ waits_by (length w.queues) q x.last_signal o =
    waits_are w h v.journal q before o one.0 one.1 device.named
    ∙ ap (λ n. waits_by (length w.queues) q n o) (ap (last_signal 1 0) front ∙ sym held.last_is) in
    let batch : List (ℕ × ℕ) → ℕ → Batch = λ ws n. record { queue = q; number = n; waits = ws; commands = lowered_commands w o; sets = (q, n) ∷ [] } in
    ap (λ ws. batch ws (submitted_of v q + 1)) waits ∙ ap (batch (waits_by (length w.queues) q x.last_signal o)) (ap (λ k. k + 1) (sym held.submitted_is))

lane_after : (b : Batch) (p : ℕ) (v : VkState) → b.queue < length v.lanes → length (lane_of (after_submit v b) p).batches ≡ length (lane_of v p).batches + (if (b.queue == p) then 1 else 0)
lane_after b p v within =
    elim (eqb_tells b.queue p) [
      | inl same ↦
          let here : lane_of (after_submit v b) p ≡ lane_after_submit b (lane_of v p) =
          ap (λ k. get_or (changed_at (lane_after_submit b) b.queue v.lanes) k no_lane) (sym same.1)
          ∙ get_or_changed (lane_after_submit b) v.lanes b.queue no_lane within ∙ ap (λ k. lane_after_submit b (get_or v.lanes k no_lane)) same.1 in
          ap (λ (l : Lane). length l.batches) here ∙ length-append (lane_of v p).batches (started b ∷ [])
          ∙ ap (λ t. length (lane_of v p).batches + (if t then 1 else 0)) (sym same.0)
      | inr other ↦
          ap (λ (l : Lane). length l.batches) (get_or_changed_other (lane_after_submit b) v.lanes b.queue p no_lane other.1)
          ∙ omega arith ∙ ap (λ t. length (lane_of v p).batches + (if t then 1 else 0)) (sym other.0)
    ]

journal_after : (b : Batch) (p : ℕ) (v : VkState) → length (of_queue p (after_submit v b).journal) ≡ length (of_queue p v.journal) + (if (b.queue == p) then 1 else 0)
journal_after b p v =
    ap length (of_queue_append p v.journal b) ∙ length-append (of_queue p v.journal) (if (b.queue == p) then b ∷ [] else [])
    ∙ ap (λ n. length (of_queue p v.journal) + n) (count (b.queue == p))
  where
    count : (t : Bool) → length (if t then b ∷ [] else []) ≡ (if t then 1 else 0)
    count true = refl
    count false = refl

-- a submission finishes nothing
pub finished_same : (b : Batch) (p : ℕ) (v : VkState) → b.queue < length v.lanes → finished_of (after_submit v b) p ≡ finished_of v p
finished_same b p v within = omega (arith, lane_after b p v within, journal_after b p v)

-- a queue's batches, the start-up's among them
begins_with : (w : World) (p : ℕ) (j rest : List Batch) → j ≡ startup w ∷ rest → length (of_queue p j) ≡ length (of_queue p rest) + (if (0 == p) then 1 else 0)
begins_with w p j rest begins = ap (λ bs. length (of_queue p bs)) begins ∙ by_test (0 == p)
  where
    by_test : (t : Bool) → length (cond t (startup w ∷ of_queue p rest) (of_queue p rest)) ≡ length (of_queue p rest) + (if t then 1 else 0)
    by_test true = omega arith
    by_test false = omega arith

-- how many operations are submitted after one more
submitted_after : (w : World) (h : List Event) (v : VkState) (b : Batch) (p : ℕ) → Stands w h v → Stands w h (after_submit v b) → p < length w.queues →
    submitted_of (after_submit v b) p ≡ submitted_of v p + (if (b.queue == p) then 1 else 0)
submitted_after w h v b p stands after within =
    let begins : v.journal ≡ startup w ∷ stands.rest = begins_of w h v stands (omega (arith, within)) in
    let now : (after_submit v b).journal ≡ startup w ∷ after.rest = begins_of w h (after_submit v b) after (omega (arith, within)) in
    let one : submitted_of v p ≡ length (of_queue p stands.rest) = submitted_is w v stands.rest p begins (stands.queues p within).numbered in
    let two : submitted_of (after_submit v b) p ≡ length (of_queue p after.rest) = submitted_is w (after_submit v b) after.rest p now (after.queues p within).numbered in
    let more : length (of_queue p (after_submit v b).journal) ≡ length (of_queue p v.journal) + (if (b.queue == p) then 1 else 0) = journal_after b p v in
    omega (arith, one, two, more, begins_with w p v.journal stands.rest begins, begins_with w p (after_submit v b).journal after.rest now)

same_held : (w : World) (h : List Event) (v u : VkState) (p : ℕ) (x : Queued) → IsHeld w h v p x → submitted_of u p ≡ submitted_of v p → IsHeld w h u p x
same_held w h v u p x is same = record { submitted_is = is.submitted_is ∙ sym same; within = is.within; rest = is.rest; last_is = is.last_is; pending = is.pending }

held_after : (w : World) (h : List Event) (v u : VkState) (q : ℕ) (x : Queued) (o : Operation) (held : List Queued) → AreHeld w h v held → slice_get held q ≡ Some x →
    slice_get x.operations 0 ≡ Some o → counter h q ≤ x.submitted → ((p : ℕ) → p < length w.queues → submitted_of u p ≡ submitted_of v p + (if (q == p) then 1 else 0)) →
    AreHeld w h u (changed_at (submitted_one o) q held)
held_after w h v u q x o held are at head done submitted = record {
  count = length_changed (submitted_one o) held q ∙ are.count;
  each = λ p y there.
      let long : length (changed_at (submitted_one o) q held) ≡ length held = length_changed (submitted_one o) held q in
      let within : p < length w.queues = omega (arith, slice_get_within (changed_at (submitted_one o) q held) p y there, long, are.count) in
      elim (eqb_tells q p) [
        | inl same ↦
            let here : slice_get (changed_at (submitted_one o) q held) q ≡ Some y = ap (slice_get (changed_at (submitted_one o) q held)) same.1 ∙ there in
            let found : (z : Queued) × (slice_get held q ≡ Some z) × (y ≡ submitted_one o z) = mapped_some (submitted_one o) (slice_get held q) y (sym (get_changed (submitted_one o) held q) ∙ here) in
            let is_x : found.0 ≡ x = let e : Some found.0 ≡ Some x = sym found.1 ∙ at in grind arith in
            let is_y : y ≡ submitted_one o x = found.2 ∙ ap (submitted_one o) is_x in
            let next : submitted_of u q ≡ submitted_of v q + 1 =
            submitted q (omega (arith, within, same.1)) ∙ ap (λ t. submitted_of v q + (if t then 1 else 0)) (ap (λ k. q == k) same.1 ∙ same.0) in
            subst (λ k. IsHeld w h u k y) same.1
            (held_submit w h v u q x y o (are.each q x at) done head next (ap (λ (z : Queued). z.submitted) is_y) (ap (λ (z : Queued). z.last_signal) is_y)
            (ap (λ (z : Queued). z.signals) is_y) (ap (λ (z : Queued). z.operations) is_y))
        | inr other ↦
            same_held w h v u p y (are.each p y (sym (get_changed_other (submitted_one o) held q p other.1) ∙ there))
            (submitted p within ∙ ap (λ t. submitted_of v p + (if t then 1 else 0)) other.0 ∙ omega arith)
      ];
}

-- the submission of the next operation of a queue
pub consistent_submit : (w : World) (h : List Event) (lists : List Listed) (seats : List Seat) (fences : List (List ℕ)) (held : List Queued) (v : VkState) (q : ℕ) (x : Queued) (o : Operation) →
    IsConsistent w h lists seats fences held v → slice_get held q ≡ Some x → slice_get x.operations 0 ≡ Some o →
    IsConsistent w h lists seats fences (changed_at (submitted_one o) q held) (after_submit v (lowered w h v.journal q (submitted_of v q + 1) o))
consistent_submit w h lists seats fences held v q x o is at head =
    let b : Batch = lowered w h v.journal q (submitted_of v q + 1) o in
    let u : VkState = after_submit v b in
    let within : q < length w.queues = omega (arith, slice_get_within held q x at, is.held_are.count) in
    let lanes : q < length v.lanes = omega (arith, within, is.device.objects.lanes) in
    let holds : IsHeld w h v q x = is.held_are.each q x at in
    let stands : Stands w h v = is.device.stands in
    let begins : v.journal ≡ startup w ∷ stands.rest = begins_of w h v stands (omega (arith, within)) in
    let next : next_number q v.journal ≡ submitted_of v q + 1 = next_is w v stands.rest q begins (stands.queues q within).numbered in
    let called : slice_get (operations w h q) (submitted_of v q) ≡ Some o =
    ap (slice_get (operations w h q)) (sym holds.submitted_is) ∙ sym (slice_get_drop x.submitted (operations w h q)) ∙ ap (λ xs. slice_get xs 0) (sym holds.rest) ∙ head in
    let after : Stands w h u = stands_submit w h v q o stands within called in
    let count : submitted_of v q ≡ length (of_queue q stands.rest) = submitted_is w v stands.rest q begins (stands.queues q within).numbered in
    record {
      world = is.world;
      run = is.run;
      past_is = is.past_is;
      held_are = held_after w h v u q x o held is.held_are at head (omega (arith, (stands.queues q within).done, holds.submitted_is, count))
          (λ p inside. submitted_after w h v b p stands after inside);
      device = record {
        valid = submit_valid v b lanes (sym next) is.device.valid;
        objects = submit_matches (plan_of_world w) v b is.device.objects;
        stands = after;
        named = all_append (λ y. nat_lt y.queue (length w.queues)) v.journal (b ∷ []) is.device.named (and_of (nat_lt q (length w.queues)) true (lt-ltb q (length w.queues) within) refl);
        finished = λ p inside. is.device.finished p inside ∙ ap (λ n. (first_number p + n) - 1) (sym (finished_same b p v lanes));
        opening = λ some. is.device.opening (omega (arith, some, finished_same b 0 v lanes));
        unopened = λ none. is.device.unopened (omega (arith, none, finished_same b 0 v lanes));
      };
    }
