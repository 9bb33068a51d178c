-- What each batch of the journal is, by its place in its queue.
use Rattle.std.proofs.Common.{ℕ, zero, suc, ◌≡◌, ◌+◌, ◌-◌, ◌∙◌, sym, ap, subst, arith, List, [], ◌∷◌, ◌++◌, drop, take, Some, true, inl, inr, cond}
use Rattle.std.proofs.lemmas.List.{take-append-drop}
use Rattle.std.proofs.lemmas.Bool.{eqb-true}
use Rattle.std.proofs.lemmas.Bool.Decides.{eqb_tells}
use Rattle.std.specs.List.{slice_get}
use Rattle.std.specs.Prelude.{◌==◌}
use Rattle.d3d_machine.specs.declared.world.World.{World}
use Rattle.d3d_machine.specs.declared.events.Operation.{Operation}
use Rattle.d3d_machine.specs.declared.events.Event.{Event}
use Rattle.d3d_machine.specs.Operations.{operations, operations_from, called_by}
use Rattle.d3d_machine.specs.State.{State, first_state}
use Rattle.d3d_machine.specs.Effects.{after}
use Rattle.vk_types.specs.declared.batches.Batch.{Batch}
use Rattle.vk_port.specs.Journal.{of_queue, are_numbered}
use Rattle.sys_core.specs.Lowering.{lowered_commands}
use Rattle.sys_core.specs.Stands.{IsLowered, AreLowered}
use Rattle.dx_base.proofs.Lists.{and_both}

-- the operations that a history called stay the first ones
append_first : {A : Type 0} (xs ys zs : List A) (k : ℕ) (x : A) → ((j : ℕ) → slice_get ys j ≡ Some x → slice_get zs j ≡ Some x) →
    slice_get (xs ++ ys) k ≡ Some x → slice_get (xs ++ zs) k ≡ Some x
append_first [] ys zs k x goes is = goes k is
append_first (y ∷ xs) ys zs zero x goes is = is
append_first (y ∷ xs) ys zs (suc k) x goes is = append_first xs ys zs k x goes is

operations_first : (w : World) (s : State) (q k : ℕ) (h more : List Event) (o : Operation) → slice_get (operations_from w s q h) k ≡ Some o →
    slice_get (operations_from w s q (h ++ more)) k ≡ Some o
operations_first w s q k [] more o is = absurd (cc)
operations_first w s q k (e ∷ h) more o is =
    append_first (called_by w s.desk q e) (operations_from w (after w s e) q h) (operations_from w (after w s e) q (h ++ more)) k o
    (λ j at. operations_first w (after w s e) q j h more o at) is

-- what a batch is, and the operation whose batch it is
pub record IsBatch (w : World) (h : List Event) (b : Batch) (o : Operation) : Type 0 where
  pub called : slice_get (operations w h b.queue) (b.number - 1) ≡ Some o
  pub sets : b.sets ≡ (b.queue, b.number) ∷ []
  pub commands : b.commands ≡ lowered_commands w o

pub lowered_member : (w : World) (h : List Event) (least : ℕ) (earlier bs : List Batch) (k : ℕ) (b : Batch) → AreLowered w h least earlier bs →
    slice_get bs k ≡ Some b → (o : Operation) × IsBatch w h b o
lowered_member w h least earlier [] k b are is = absurd (cc)
lowered_member w h least earlier (c ∷ bs) (suc k) b are is = lowered_member w h are.0 (earlier ++ c ∷ []) bs k b are.4 is
lowered_member w h least earlier (c ∷ bs) zero b are is =
    let same : c ≡ b = grind arith in
    let low : IsLowered w (take are.0 h) earlier c = are.3 in
    subst (λ x. (o : Operation) × IsBatch w h x o) same (
      low.operation,
      record {
        called = ap (λ xs. slice_get (operations w xs c.queue) (c.number - 1)) (sym (take-append-drop are.0 h))
            ∙ operations_first w (first_state w) c.queue (c.number - 1) (take are.0 h) (drop are.0 h) low.operation low.called;
        sets = ap (λ (x : Batch). x.sets) low.batch;
        commands = ap (λ (x : Batch). x.commands) low.batch;
      },
    )

abbrev IsIn : ℕ → List Batch → Batch → Type 0
IsIn q bs b = (j : ℕ) × (slice_get bs j ≡ Some b) × (b.queue ≡ q)

behind : (q : ℕ) (c : Batch) (bs : List Batch) (b : Batch) → IsIn q bs b → IsIn q (c ∷ bs) b
behind q c bs b found = (suc found.0, found.1, found.2)

at_head : (q : ℕ) (c : Batch) (bs : List Batch) (k : ℕ) (b : Batch) → ((j : ℕ) → slice_get (of_queue q bs) j ≡ Some b → IsIn q bs b) →
    c.queue ≡ q → slice_get (c ∷ of_queue q bs) k ≡ Some b → IsIn q (c ∷ bs) b
at_head q c bs zero b goes same is = let e : c ≡ b = grind arith in (zero, is, ap (λ (x : Batch). x.queue) (sym e) ∙ same)
at_head q c bs (suc k) b goes same is = behind q c bs b (goes k is)

-- a batch of a queue stands in the journal
pub of_queue_member : (q : ℕ) (bs : List Batch) (k : ℕ) (b : Batch) → slice_get (of_queue q bs) k ≡ Some b → (j : ℕ) × (slice_get bs j ≡ Some b) × (b.queue ≡ q)
of_queue_member q [] k b is = absurd (cc)
of_queue_member q (c ∷ bs) k b is =
    let goes : (j : ℕ) → slice_get (of_queue q bs) j ≡ Some b → IsIn q bs b = λ j at. of_queue_member q bs j b at in
    elim (eqb_tells c.queue q) [
      | inl same ↦ at_head q c bs k b goes same.1 (ap (λ t. slice_get (cond t (c ∷ of_queue q bs) (of_queue q bs)) k) (sym same.0) ∙ is)
      | inr other ↦ behind q c bs b (goes k (ap (λ t. slice_get (cond t (c ∷ of_queue q bs) (of_queue q bs)) k) (sym other.0) ∙ is))
    ]

-- the number of a batch, by its place
pub number_at : (n : ℕ) (bs : List Batch) (k : ℕ) (b : Batch) → are_numbered n bs ≡ true → slice_get bs k ≡ Some b → b.number ≡ n + k
number_at n [] k b numbered is = absurd (cc)
number_at n (c ∷ bs) zero b numbered is =
    let same : c ≡ b = grind arith in
    let first : c.number ≡ n = eqb-true c.number n (and_both (c.number == n) (are_numbered (n + 1) bs) numbered).0 in
    ap (λ (x : Batch). x.number) (sym same) ∙ first ∙ omega arith
number_at n (c ∷ bs) (suc k) b numbered is =
    number_at (n + 1) bs k b (and_both (c.number == n) (are_numbered (n + 1) bs) numbered).1 is ∙ omega arith
