-- The device goes on holding exactly the lowered batches.
use Rattle.std.proofs.Common.{ℕ, zero, suc, ◌≡◌, ◌≢◌, ◌<◌, ◌≤◌, ◌+◌, ◌-◌, ◌∙◌, sym, ap, subst, refl, arith, List, [], ◌∷◌, ◌++◌, length, take, Some, Bool, true, false, append_assoc, length-append, inl, inr, cond}
use Rattle.std.proofs.lemmas.List.{append-nil, take-append-le}
use Rattle.std.proofs.lemmas.Bool.Decides.{eqb_tells}
use Rattle.std.proofs.lemmas.Bool.{eq-eqb, eqb-true}
use Rattle.std.specs.List.{slice_get}
use Rattle.std.specs.Prelude.{if◌then◌else◌, ◌==◌, ◌&&◌}
use Rattle.d3d_machine.specs.declared.world.World.{World}
use Rattle.d3d_machine.specs.declared.events.Operation.{Operation}
use Rattle.d3d_machine.specs.declared.events.Event.{Event}
use Rattle.d3d_machine.specs.Operations.{operations, completions_by, called_by}
use Rattle.d3d_machine.specs.State.{first_state}
use Rattle.d3d_machine.specs.Play.{state_after}
use Rattle.d3d_machine.proofs.Operations.{operations_append, counter_append}
use Rattle.vk_types.specs.declared.batches.Batch.{Batch}
use Rattle.vk_port.specs.Journal.{of_queue, are_numbered, number_after, next_number, first_number}
use Rattle.std.specs.List.{slice_index_or}
use Rattle.std.proofs.lemmas.Option.{slice_get_within}
use Rattle.vk_port.specs.VkState.{VkState, counter_of}
use Rattle.vk_port.specs.After.{after_submit}
use Rattle.sys_core.specs.Lowering.{startup, opening_batches, lowered}
use Rattle.sys_core.specs.Stands.{IsLowered, AreLowered, StandsAt, Stands}
use Rattle.sys_core.specs.Steps.{submitted_of}
use Rattle.sys_core.proofs.Startup.{begins_of}
use Rattle.dx_base.proofs.Lists.{and_both}

take_all : {A : Type 0} (xs : List A) → take (length xs) xs ≡ xs
take_all [] = refl
take_all (x ∷ xs) = ap (λ ys. x ∷ ys) (take_all xs)

-- batches stay lowered when the history goes on
pub lowered_on : (w : World) (h more : List Event) (least : ℕ) (earlier bs : List Batch) → AreLowered w h least earlier bs → AreLowered w (h ++ more) least earlier bs
lowered_on w h more least earlier [] are = tt
lowered_on w h more least earlier (b ∷ bs) are = (
  are.0,
  are.1,
  omega (arith, are.2, length-append h more),
  subst (λ xs. IsLowered w xs earlier b) (sym (take-append-le are.0 h more are.2)) are.3,
  lowered_on w h more are.0 (earlier ++ b ∷ []) bs are.4,
)

-- a batch that is lowered now goes behind those that are
pub lowered_more : (w : World) (h : List Event) (least : ℕ) (earlier bs : List Batch) (b : Batch) → least ≤ length h → AreLowered w h least earlier bs →
    IsLowered w h (earlier ++ bs) b → AreLowered w h least earlier (bs ++ b ∷ [])
lowered_more w h least earlier [] b le are is = (
  length h,
  le,
  omega arith,
  subst (λ xs. IsLowered w xs earlier b) (sym (take_all h)) (subst (λ ys. IsLowered w h ys b) (append-nil earlier) is),
  tt,
)
lowered_more w h least earlier (c ∷ bs) b le are is = (
  are.0,
  are.1,
  are.2,
  are.3,
  lowered_more w h are.0 (earlier ++ c ∷ []) bs b are.2 are.4 (subst (λ ys. IsLowered w h ys b) (sym (append_assoc earlier (c ∷ []) bs)) is),
)

cond_cons : (at : Bool) (c : Batch) (xs ys : List Batch) → cond at (c ∷ (xs ++ ys)) (xs ++ ys) ≡ cond at (c ∷ xs) xs ++ ys
cond_cons true c xs ys = refl
cond_cons false c xs ys = refl

pub of_queue_append : (q : ℕ) (bs : List Batch) (b : Batch) → of_queue q (bs ++ b ∷ []) ≡ of_queue q bs ++ (if (b.queue == q) then b ∷ [] else [])
of_queue_append q [] b = refl
of_queue_append q (c ∷ bs) b =
    ap (λ zs. cond (c.queue == q) (c ∷ zs) zs) (of_queue_append q bs b) ∙ cond_cons (c.queue == q) c (of_queue q bs) (if (b.queue == q) then b ∷ [] else [])

-- the number behind batches that are numbered without a gap
pub number_after_is : (n : ℕ) (bs : List Batch) → are_numbered n bs ≡ true → number_after n bs ≡ n + length bs
number_after_is n [] h = omega arith
number_after_is n (b ∷ bs) h =
    let both : (b.number == n) ≡ true × are_numbered (n + 1) bs ≡ true = and_both (b.number == n) (are_numbered (n + 1) bs) h in
    let same : b.number ≡ n = eqb-true b.number n both.0 in
    ap (λ k. number_after (k + 1) bs) same ∙ omega (arith, number_after_is (n + 1) bs both.1)

-- one more batch with the next number
pub numbered_more : (n : ℕ) (bs : List Batch) (b : Batch) → are_numbered n bs ≡ true → b.number ≡ n + length bs → are_numbered n (bs ++ b ∷ []) ≡ true
numbered_more n [] b h is = ap (λ k. (k == n) && true) (is ∙ omega arith) ∙ ap (λ k. k && true) (eq-eqb n n refl)
numbered_more n (c ∷ bs) b h is =
    let both : (c.number == n) ≡ true × are_numbered (n + 1) bs ≡ true = and_both (c.number == n) (are_numbered (n + 1) bs) h in
    ap (λ k. k && are_numbered (n + 1) (bs ++ b ∷ [])) both.0 ∙ numbered_more (n + 1) bs b both.1 (is ∙ omega arith)

eqb_false : (a b : ℕ) → a ≢ b → (a == b) ≡ false
eqb_false a b ne = elim (eqb_tells a b) [ inl same ↦ absurd (ne same.1) | inr other ↦ other.0 ]

pub first_number_suc : (q : ℕ) → first_number (suc q) ≡ 1
first_number_suc q = ap (λ t. if t then 0 else 1) (eqb_false (suc q) 0 (λ e. omega (arith, e)))

-- how many operations of a queue are submitted
pub submitted_is : (w : World) (v : VkState) (rest : List Batch) (q : ℕ) → v.journal ≡ startup w ∷ rest → are_numbered 1 (of_queue q rest) ≡ true →
    submitted_of v q ≡ length (of_queue q rest)
submitted_is w v rest zero begins numbered =
    ap (λ (j : List Batch). number_after 0 (of_queue 0 j) - 1) begins ∙ omega (arith, number_after_is 1 (of_queue 0 rest) numbered)
submitted_is w v rest (suc q) begins numbered =
    let other : (0 == suc q) ≡ false = eqb_false 0 (suc q) (λ e. omega (arith, e)) in
    ap (λ n. number_after n (of_queue (suc q) v.journal) - 1) (first_number_suc q)
    ∙ ap (λ (j : List Batch). number_after 1 (of_queue (suc q) j) - 1) begins
    ∙ ap (λ t. number_after 1 (cond t (startup w ∷ of_queue (suc q) rest) (of_queue (suc q) rest)) - 1) other
    ∙ omega (arith, number_after_is 1 (of_queue (suc q) rest) numbered)

-- the number of the next batch of a queue
pub next_is : (w : World) (v : VkState) (rest : List Batch) (q : ℕ) → v.journal ≡ startup w ∷ rest → are_numbered 1 (of_queue q rest) ≡ true →
    next_number q v.journal ≡ submitted_of v q + 1
next_is w v rest zero begins numbered =
    let next : next_number 0 v.journal ≡ 1 + length (of_queue 0 rest) =
    ap (λ (j : List Batch). number_after 0 (of_queue 0 j)) begins ∙ number_after_is 1 (of_queue 0 rest) numbered in
    omega (arith, next)
next_is w v rest (suc q) begins numbered =
    let other : (0 == suc q) ≡ false = eqb_false 0 (suc q) (λ e. omega (arith, e)) in
    let next : next_number (suc q) v.journal ≡ 1 + length (of_queue (suc q) rest) =
    ap (λ n. number_after n (of_queue (suc q) v.journal)) (first_number_suc q)
    ∙ ap (λ (j : List Batch). number_after 1 (of_queue (suc q) j)) begins
    ∙ ap (λ t. number_after 1 (cond t (startup w ∷ of_queue (suc q) rest) (of_queue (suc q) rest))) other
    ∙ number_after_is 1 (of_queue (suc q) rest) numbered in
    omega (arith, next)

operations_more : (w : World) (h : List Event) (e : Event) (q : ℕ) → length (operations w h q) ≤ length (operations w (h ++ e ∷ []) q)
operations_more w h e q =
    omega (arith, ap length (operations_append w (first_state w) q h e), length-append (operations w h q) (called_by w (state_after w h).desk q e))

-- an event that completes nothing, with a device that has the same batches and timelines
pub stands_event : (w : World) (h : List Event) (e : Event) (v u : VkState) → Stands w h v → ((q : ℕ) → completions_by q e ≡ 0) →
    u.journal ≡ v.journal → u.timelines ≡ v.timelines → Stands w (h ++ e ∷ []) u
stands_event w h e v u s none journal timelines = record {
  rest = s.rest;
  begins = journal ∙ s.begins;
  lowered_rest = lowered_on w h (e ∷ []) 0 (opening_batches w) s.rest s.lowered_rest;
  queues = λ q within. let at : StandsAt w h s.rest v q = s.queues q within in record {
    numbered = at.numbered;
    of_called = omega (arith, at.of_called, operations_more w h e q);
    counter_is = ap (λ ts. slice_index_or ts q 0) timelines ∙ at.counter_is ∙ omega (arith, counter_append q h e, none q);
    done = omega (arith, at.done, counter_append q h e, none q);
  };
}

-- a queue of a journal with one more batch
more_of : (q : ℕ) (rest : List Batch) (b : Batch) → length (of_queue q (rest ++ b ∷ [])) ≡ length (of_queue q rest) + (if (b.queue == q) then 1 else 0)
more_of q rest b = ap length (of_queue_append q rest b) ∙ length-append (of_queue q rest) (if (b.queue == q) then b ∷ [] else []) ∙ ap (λ n. length (of_queue q rest) + n) (count (b.queue == q))
  where
    count : (at : Bool) → length (if at then b ∷ [] else []) ≡ (if at then 1 else 0)
    count true = refl
    count false = refl

stands_at_submit : (w : World) (h : List Event) (rest : List Batch) (b : Batch) (v : VkState) (q : ℕ) → StandsAt w h rest v q →
    ((b.queue ≡ q) → (b.number ≡ 1 + length (of_queue q rest)) × (length (of_queue q rest) < length (operations w h q))) →
    (u : VkState) → u.timelines ≡ v.timelines → StandsAt w h (rest ++ b ∷ []) u q
stands_at_submit w h rest b v q at here u timelines =
    elim (eqb_tells b.queue q) [
      | inl same ↦
          let is : of_queue q (rest ++ b ∷ []) ≡ of_queue q rest ++ b ∷ [] = of_queue_append q rest b ∙ ap (λ t. of_queue q rest ++ cond t (b ∷ []) []) same.0 in
          let now : (b.number ≡ 1 + length (of_queue q rest)) × (length (of_queue q rest) < length (operations w h q)) = here same.1 in
          let long : length (of_queue q (rest ++ b ∷ [])) ≡ length (of_queue q rest) + 1 = ap length is ∙ length-append (of_queue q rest) (b ∷ []) in
          record {
            numbered = ap (are_numbered 1) is ∙ numbered_more 1 (of_queue q rest) b at.numbered now.0;
            of_called = omega (arith, long, now.1);
            counter_is = ap (λ ts. slice_index_or ts q 0) timelines ∙ at.counter_is;
            done = omega (arith, long, at.done);
          }
      | inr other ↦
          let is : of_queue q (rest ++ b ∷ []) ≡ of_queue q rest = of_queue_append q rest b ∙ ap (λ t. of_queue q rest ++ cond t (b ∷ []) []) other.0 ∙ append-nil (of_queue q rest) in
          record {
            numbered = ap (are_numbered 1) is ∙ at.numbered;
            of_called = omega (arith, ap length is, at.of_called);
            counter_is = ap (λ ts. slice_index_or ts q 0) timelines ∙ at.counter_is;
            done = omega (arith, ap length is, at.done);
          }
    ]

-- the submission of the next operation of a queue
pub stands_submit : (w : World) (h : List Event) (v : VkState) (q : ℕ) (o : Operation) → Stands w h v → q < length w.queues →
    slice_get (operations w h q) (submitted_of v q) ≡ Some o → Stands w h (after_submit v (lowered w h v.journal q (submitted_of v q + 1) o))
stands_submit w h v q o s within is =
    let b : Batch = lowered w h v.journal q (submitted_of v q + 1) o in
    let count : submitted_of v q ≡ length (of_queue q s.rest) = submitted_is w v s.rest q (begins_of w h v s (omega (arith, within))) (s.queues q within).numbered in
    record {
      rest = s.rest ++ b ∷ [];
      begins = ap (λ j. j ++ b ∷ []) s.begins ∙ append_assoc (opening_batches w) s.rest (b ∷ []);
      lowered_rest = lowered_more w h 0 (opening_batches w) s.rest b (omega arith) s.lowered_rest (record {
        operation = o;
        called = ap (slice_get (operations w h q)) (omega arith) ∙ is;
        batch = ap (λ j. lowered w h j q (submitted_of v q + 1) o) s.begins;
      });
      queues = λ p at. stands_at_submit w h s.rest b v p (s.queues p at)
          (λ same. subst (λ x. (submitted_of v q + 1 ≡ 1 + length (of_queue x s.rest)) × (length (of_queue x s.rest) < length (operations w h x))) same
          (omega (arith, count), omega (arith, count, slice_get_within (operations w h q) (submitted_of v q) o is)))
          (after_submit v b) refl;
    }

-- a completion, where the timeline of the queue rises by one and the others stay
pub stands_complete : (w : World) (h : List Event) (e : Event) (v u : VkState) → Stands w h v → u.journal ≡ v.journal →
    ((q : ℕ) → q < length w.queues → counter_of u q ≡ counter_of v q + completions_by q e) →
    ((q : ℕ) (rest : List Batch) → v.journal ≡ opening_batches w ++ rest → q < length w.queues → counter_of v q + completions_by q e ≤ length (of_queue q rest)) → Stands w (h ++ e ∷ []) u
stands_complete w h e v u s journal rises most = record {
  rest = s.rest;
  begins = journal ∙ s.begins;
  lowered_rest = lowered_on w h (e ∷ []) 0 (opening_batches w) s.rest s.lowered_rest;
  queues = λ q within. let at : StandsAt w h s.rest v q = s.queues q within in record {
    numbered = at.numbered;
    of_called = omega (arith, at.of_called, operations_more w h e q);
    counter_is = rises q within ∙ omega (arith, at.counter_is, counter_append q h e);
    done = omega (arith, at.counter_is, counter_append q h e, most q s.rest s.begins within);
  };
}
