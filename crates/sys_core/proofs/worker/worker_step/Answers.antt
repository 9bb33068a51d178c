use Rattle.std.proofs.Common.{◌≡◌, ◌+◌, ◌∙◌, sym, ap, subst, refl, arith, Some, None, Option, true, IsSome, IfSome}
use Rattle.std.specs.List.{slice_get}
use Rattle.d3d_machine.specs.declared.events.Operation.{Operation}
use Rattle.vk_types.specs.declared.batches.Batch.{Batch}
use Rattle.vk_port.specs.Journal.{next_number}
use Rattle.sys_core.specs.declared.parts.Held.{Held}
use Rattle.sys_core.specs.Batches.{batch_by, is_numbered_operation}
use Rattle.sys_core.specs.Parts.{Queued, queued, submitted_one}
use Rattle.sys_core.proofs.WorkerStep as step
use Rattle.sys_core.proofs.worker.worker_step.Goals as goal

-- a fact of what is there
at_some : {A : Type 0} (o : Option A) (x : A) (P : A → Type 0) → o ≡ Some x → IfSome o P → P x
at_some None x P is h = absurd (cc)
at_some (Some y) x P is h = subst P (let e : y ≡ x = grind arith in e) h

some_is : {A : Type 0} (o : Option A) (x : A) → o ≡ Some x → IsSome o
some_is None x is = absurd (cc)
some_is (Some y) x is = refl

for_some : {A : Type 0} (o : Option A) (x : A) (P : A → Type 0) → o ≡ Some x → P x → IfSome o P
for_some None x P is h = absurd (cc)
for_some (Some y) x P is h = subst P (let e : x ≡ y = grind arith in e) h

pub next_batch-requires-clause-next : goal.next_batch-requires-clause-next
next_batch-requires-clause-next g c =
    let y : Held = c.at_mut-held.result.now in
    let found : (o : Operation) × _ = step.next_lent c.args.world.now c.args.history.now.items c.args.parts.now (g.D.VkDevice.view_of c.args.device.now) c.requires.keeps c.args.queue.0 y c.requires.queue c.requires.ready c.at_mut-held.ensures.value in
    some_is (slice_get y.operations.items 0) found.0 found.1.head

pub next_batch-requires-clause-numbered : goal.next_batch-requires-clause-numbered
next_batch-requires-clause-numbered g c =
    let y : Held = c.at_mut-held.result.now in
    let found : (o : Operation) × _ = step.next_lent c.args.world.now c.args.history.now.items c.args.parts.now (g.D.VkDevice.view_of c.args.device.now) c.requires.keeps c.args.queue.0 y c.requires.queue c.requires.ready c.at_mut-held.ensures.value in
    for_some (slice_get y.operations.items 0) found.0 (λ o. is_numbered_operation c.args.world.now o ≡ true) found.1.head (step.numbered_next c.args.world.now c.args.history.now.items c.args.parts.now (g.D.VkDevice.view_of c.args.device.now) c.requires.keeps found.0 found.1.good)

pub next_batch-requires-clause-number : goal.next_batch-requires-clause-number
next_batch-requires-clause-number g c =
    let y : Held = c.at_mut-held.result.now in
    let found : (o : Operation) × _ = step.next_lent c.args.world.now c.args.history.now.items c.args.parts.now (g.D.VkDevice.view_of c.args.device.now) c.requires.keeps c.args.queue.0 y c.requires.queue c.requires.ready c.at_mut-held.ensures.value in
    omega (arith, found.1.few, c.len-events.ensures, c.len-events.type_inv)

pub submit-requires-clause-number : goal.submit-requires-clause-number
submit-requires-clause-number g c =
    let y : Held = c.at_mut-held.result.now in
    let found : (o : Operation) × _ = step.next_lent c.args.world.now c.args.history.now.items c.args.parts.now (g.D.VkDevice.view_of c.args.device.now) c.requires.keeps c.args.queue.0 y c.requires.queue c.requires.ready c.at_mut-held.ensures.value in
    let batch : c.in_ok-batch.batch ≡ batch_by c.args.world.now c.args.queue.0 (y.submitted + 1) y.last_signal found.0 =
    at_some (slice_get y.operations.items 0) found.0 (λ o. c.in_ok-batch.batch ≡ batch_by c.args.world.now c.args.queue.0 (y.submitted + 1) y.last_signal o) found.1.head c.in_ok-batch.ensures.batch in
    ap (λ (b : Batch). b.number) batch ∙ step.number_next c.args.world.now c.args.history.now.items c.args.parts.now (g.D.VkDevice.view_of c.args.device.now) c.requires.keeps c.args.queue.0 y found.0 c.requires.queue found.1
    ∙ ap (λ (b : Batch). next_number b.queue (g.D.VkDevice.view_of c.args.device.now).state.journal) (sym batch)

pub submit-requires-clause-fits : goal.submit-requires-clause-fits
submit-requires-clause-fits g c =
    let y : Held = c.at_mut-held.result.now in
    let found : (o : Operation) × _ = step.next_lent c.args.world.now c.args.history.now.items c.args.parts.now (g.D.VkDevice.view_of c.args.device.now) c.requires.keeps c.args.queue.0 y c.requires.queue c.requires.ready c.at_mut-held.ensures.value in
    let batch : c.in_ok-batch.batch ≡ batch_by c.args.world.now c.args.queue.0 (y.submitted + 1) y.last_signal found.0 =
    at_some (slice_get y.operations.items 0) found.0 (λ o. c.in_ok-batch.batch ≡ batch_by c.args.world.now c.args.queue.0 (y.submitted + 1) y.last_signal o) found.1.head c.in_ok-batch.ensures.batch in
    step.fits_next c.args.world.now c.args.history.now.items c.args.parts.now (g.D.VkDevice.view_of c.args.device.now) c.requires.keeps c.args.queue.0 y found.0 c.in_ok-batch.batch c.requires.queue found.1 batch

pub count_submitted-requires-clause-next : goal.count_submitted-requires-clause-next
count_submitted-requires-clause-next g c =
    let y : Held = c.at_mut-held.result.now in
    let found : (o : Operation) × _ = step.next_lent c.args.world.now c.args.history.now.items c.args.parts.now (g.D.VkDevice.view_of c.args.device.now) c.requires.keeps c.args.queue.0 y c.requires.queue c.requires.ready c.at_mut-held.ensures.value in
    some_is (slice_get c.next_batch.new.held.operations.items 0) found.0 (ap (λ (x : Queued). slice_get x.operations 0) c.next_batch.ensures.same ∙ found.1.head)

pub count_submitted-requires-clause-number : goal.count_submitted-requires-clause-number
count_submitted-requires-clause-number g c =
    let y : Held = c.at_mut-held.result.now in
    let found : (o : Operation) × _ = step.next_lent c.args.world.now c.args.history.now.items c.args.parts.now (g.D.VkDevice.view_of c.args.device.now) c.requires.keeps c.args.queue.0 y c.requires.queue c.requires.ready c.at_mut-held.ensures.value in
    omega (arith, found.1.few, c.len-events.ensures, c.len-events.type_inv, ap (λ (x : Queued). x.submitted) c.next_batch.ensures.same)

pub returns-clause-keeps : goal.returns-clause-keeps
returns-clause-keeps g c =
    let y : Held = c.at_mut-held.result.now in
    let found : (o : Operation) × _ = step.next_lent c.args.world.now c.args.history.now.items c.args.parts.now (g.D.VkDevice.view_of c.args.device.now) c.requires.keeps c.args.queue.0 y c.requires.queue c.requires.ready c.at_mut-held.ensures.value in
    let batch : c.in_ok-batch.batch ≡ batch_by c.args.world.now c.args.queue.0 (y.submitted + 1) y.last_signal found.0 =
    at_some (slice_get y.operations.items 0) found.0 (λ o. c.in_ok-batch.batch ≡ batch_by c.args.world.now c.args.queue.0 (y.submitted + 1) y.last_signal o) found.1.head c.in_ok-batch.ensures.batch in
    let counted : queued c.count_submitted.new.held ≡ submitted_one found.0 (queued c.next_batch.new.held) =
    at_some (slice_get c.next_batch.new.held.operations.items 0) found.0 (λ o. queued c.count_submitted.new.held ≡ submitted_one o (queued c.next_batch.new.held))
    (ap (λ (x : Queued). slice_get x.operations 0) c.next_batch.ensures.same ∙ found.1.head) c.count_submitted.ensures in
    step.keeps_next c.args.world.now c.args.history.now.items c.args.parts.now (g.D.VkDevice.view_of c.args.device.now) c.requires.keeps c.requires.queues c.args.queue.0 y c.count_submitted.new.held found.0 c.in_ok-batch.batch (g.D.VkDevice.view_of c.submit.new.self) c.requires.queue c.at_mut-held.ensures.value found.1 batch
    c.in_ok-submit.ensures.state c.submit.ensures.answered.plan (counted ∙ ap (submitted_one found.0) c.next_batch.ensures.same)

pub returns-clause-state : goal.returns-clause-state
returns-clause-state g c =
    let y : Held = c.at_mut-held.result.now in
    let found : (o : Operation) × _ = step.next_lent c.args.world.now c.args.history.now.items c.args.parts.now (g.D.VkDevice.view_of c.args.device.now) c.requires.keeps c.args.queue.0 y c.requires.queue c.requires.ready c.at_mut-held.ensures.value in
    let batch : c.in_ok-batch.batch ≡ batch_by c.args.world.now c.args.queue.0 (y.submitted + 1) y.last_signal found.0 =
    at_some (slice_get y.operations.items 0) found.0 (λ o. c.in_ok-batch.batch ≡ batch_by c.args.world.now c.args.queue.0 (y.submitted + 1) y.last_signal o) found.1.head c.in_ok-batch.ensures.batch in
    step.state_next c.args.world.now c.args.history.now.items c.args.parts.now (g.D.VkDevice.view_of c.args.device.now) c.requires.keeps c.requires.queues c.args.queue.0 y found.0 c.in_ok-batch.batch (g.D.VkDevice.view_of c.submit.new.self).state c.requires.queue found.1 batch c.in_ok-submit.ensures.state
