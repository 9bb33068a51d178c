-- The waits of each batch of the one queue are for what the queue has done before.
use Rattle.std.proofs.Common.{ℕ, zero, suc, ◌≡◌, ◌<◌, ◌≤◌, ◌+◌, ◌-◌, ◌∙◌, ap, subst, refl, arith, List, [], ◌∷◌, ◌++◌, length, take, Some, Bool, true, false}
use Rattle.std.proofs.lemmas.Bool.{le-leb}
use Rattle.std.proofs.lemmas.List.{length-take}
use Rattle.std.specs.List.{slice_get, list_all, slice_index_or}
use Rattle.std.specs.Prelude.{◌==◌, nat_lt, nat_le, if◌then◌else◌}
use Rattle.dx_base.proofs.Lists.{and_both, and_of, all_append}
use Rattle.d3d_machine.specs.declared.world.World.{World}
use Rattle.d3d_machine.specs.declared.events.Operation.{Operation}
use Rattle.d3d_machine.specs.declared.events.Operation.TheVariants.{Execute, Signal}
use Rattle.d3d_machine.specs.declared.events.Event.{Event}
use Rattle.d3d_machine.specs.Operations.{operations}
use Rattle.vk_types.specs.declared.batches.Batch.{Batch}
use Rattle.vk_port.specs.Enabled.{reached}
use Rattle.sys_core.specs.Lowering.{last_signal, own_wait}
use Rattle.sys_core.specs.Batches.{waits_by}
use Rattle.sys_core.specs.Stands.{IsLowered, AreLowered}
use Rattle.sys_core.proofs.Working.{waits_are}

-- the last signal among operations is one of them
signal_within : (n found : ℕ) (os : List Operation) → found < n → last_signal n found os < n + length os
signal_within n found [] less = omega (arith, less)
signal_within n found (Execute cs ∷ os) less = omega (arith, signal_within (n + 1) found os (omega (arith, less)))
signal_within n found (Signal f v ∷ os) less = omega (arith, signal_within (n + 1) n os (omega arith))

-- a batch's waits are those of an operation behind fewer operations than its number
pub record IsWaiting (w : World) (b : Batch) : Type 0 where
  pub operation : Operation
  pub last : ℕ
  pub before : last ≤ b.number - 1
  pub waits : b.waits ≡ waits_by (length w.queues) 0 last operation

waiting_is : (w : World) (h : List Event) (earlier : List Batch) (b : Batch) → length w.queues ≡ 1 → b.queue ≡ 0 →
    list_all (λ x. nat_lt x.queue (length w.queues)) earlier ≡ true → IsLowered w h earlier b → IsWaiting w b
waiting_is w h earlier b one zeroth named low =
    let before : List Operation = take (b.number - 1) (operations w h b.queue) in
    let n : ℕ = last_signal 1 0 before in
    let less : n < 1 + length before = signal_within 1 0 before (omega arith) in
    record {
      operation = low.operation;
      last = n;
      before = omega (arith, less, length-take (b.number - 1) (operations w h b.queue));
      waits = ap (λ (x : Batch). x.waits) low.batch ∙ waits_are w h earlier b.queue before low.operation zeroth one named
          ∙ ap (λ q. waits_by (length w.queues) q n low.operation) zeroth;
    }

-- each batch of the one queue but the start-up's
pub waiting_member : (w : World) (h : List Event) (least : ℕ) (earlier bs : List Batch) (k : ℕ) (b : Batch) → length w.queues ≡ 1 → AreLowered w h least earlier bs →
    list_all (λ x. nat_lt x.queue (length w.queues)) earlier ≡ true → list_all (λ x. nat_lt x.queue (length w.queues)) bs ≡ true →
    slice_get bs k ≡ Some b → b.queue ≡ 0 → IsWaiting w b
waiting_member w h least earlier [] k b one are front named is zeroth = absurd (cc)
waiting_member w h least earlier (c ∷ bs) zero b one are front named is zeroth =
    let same : c ≡ b = grind arith in
    subst (IsWaiting w) same
    (waiting_is w (take are.0 h) earlier c one (ap (λ (x : Batch). x.queue) same ∙ zeroth) front are.3)
waiting_member w h least earlier (c ∷ bs) (suc k) b one are front named is zeroth =
    let p : Batch → Bool = λ x. nat_lt x.queue (length w.queues) in
    let both : (p c ≡ true) × (list_all p bs ≡ true) = and_both (p c) (list_all p bs) named in
    waiting_member w h are.0 (earlier ++ c ∷ []) bs k b one are.4
    (all_append p earlier (c ∷ []) front (and_of (p c) true both.0 refl)) both.1 is zeroth

own_reached : (ts : List ℕ) (n : ℕ) → n ≤ slice_index_or ts 0 0 → reached ts (own_wait 0 n) ≡ true
own_reached ts n less = by_test (n == 0)
  where
    by_test : (t : Bool) → reached ts (if t then [] else (0, n) ∷ []) ≡ true
    by_test true = refl
    by_test false = and_of (nat_le n (slice_index_or ts 0 0)) true (le-leb n (slice_index_or ts 0 0) less) refl

-- such waits are reached where the start-up batch has ended, and as many operations as the last signal's number
pub waits_reached : (ts : List ℕ) (first last : ℕ) (o : Operation) → slice_index_or ts first 0 ≡ 1 → last ≤ slice_index_or ts 0 0 →
    reached ts (waits_by first 0 last o) ≡ true
waits_reached ts first last (Execute cs) begun less =
    and_of (nat_le 1 (slice_index_or ts first 0)) (reached ts (own_wait 0 last)) (le-leb 1 (slice_index_or ts first 0) (omega (arith, begun))) (own_reached ts last less)
waits_reached ts first last (Signal f v) begun less = refl
