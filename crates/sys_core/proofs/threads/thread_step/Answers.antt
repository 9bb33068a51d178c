use Rattle.std.proofs.Common.{ℕ, ◌≡◌, ◌<◌, ◌++◌, ◌∷◌, [], ◌∙◌, sym, ap, subst, refl, arith, Some, None, List, Option, length}
use Rattle.std.specs.List.{slice_get}
use Rattle.d3d_machine.specs.State.{script_of}
use Rattle.d3d_machine.specs.declared.calls.Call.{Call}
use Rattle.d3d_machine.specs.declared.world.World.{World}
use Rattle.d3d_machine.specs.declared.events.Event.TheVariants as event
use Rattle.sys_core.specs.declared.parts.Parts.{Parts}
use Rattle.sys_core.specs.Serving.{Serves}
use Rattle.sys_core.specs.Keeps.{Keeps}
use Rattle.sys_core.proofs.Keeping.{keeps_call, keeps_awake}
use Rattle.sys_core.proofs.Threading as threading
use Rattle.sys_core.proofs.threads.thread_step.Goals as goal

script_is : (scripts : List (List Call)) (t : ℕ) (script : List Call) → slice_get scripts t ≡ Some script → elim (slice_get scripts t) [ None ↦ [] | Some cs ↦ cs ] ≡ script
script_is scripts t script at = ap (λ (o : Option (List Call)). elim o [ None ↦ [] | Some cs ↦ cs ]) at

pub at-seat-requires : goal.at-seat-requires
at-seat-requires g c =
    (threading.thread_there c.args.world.now c.args.history.now.items c.args.parts.now (g.D.VkDevice.view_of c.args.device.now) c.requires.keeps c.args.thread.0 c.requires.ready).0

pub wake-requires : goal.wake-requires
wake-requires g c =
    (threading.thread_there c.args.world.now c.args.history.now.items c.args.parts.now (g.D.VkDevice.view_of c.args.device.now) c.requires.keeps c.args.thread.0 c.requires.ready).0

pub at-script-requires : goal.at-script-requires
at-script-requires g c =
    (threading.thread_there c.args.world.now c.args.history.now.items c.args.parts.now (g.D.VkDevice.view_of c.args.device.now) c.requires.keeps c.args.thread.0 c.requires.ready).1

pub at-requires : goal.at-requires
at-requires g c =
    subst (λ xs. c.at-seat.result.now.made < length xs) (script_is c.args.world.now.scripts c.args.thread.0 c.at-script.result.now c.at-script.ensures)
    (threading.call_left c.args.world.now c.args.history.now.items c.args.parts.now (g.D.VkDevice.view_of c.args.device.now) c.requires.keeps
    c.args.thread.0 c.at-seat.result.now c.at-seat.ensures c.in-None.is c.requires.ready)

pub serve-requires-clause-buffers : goal.serve-requires-clause-buffers
serve-requires-clause-buffers g c =
    threading.buffers_are c.args.world.now c.args.history.now.items c.args.parts.now (g.D.VkDevice.view_of c.args.device.now) c.requires.keeps

pub serve-requires-clause-lists : goal.serve-requires-clause-lists
serve-requires-clause-lists g c =
    threading.lists_count c.args.world.now c.args.history.now.items c.args.parts.now (g.D.VkDevice.view_of c.args.device.now) c.requires.keeps

call_at : (w : World) (t : ℕ) (script : List Call) (m : ℕ) (x c : Call) → slice_get w.scripts t ≡ Some script → slice_get script m ≡ Some x → c ≡ x → slice_get (script_of w t) m ≡ Some c
call_at w t script m x c at there same = ap (λ cs. slice_get cs m) (script_is w.scripts t script at) ∙ there ∙ ap (λ y. Some y) (sym same)

pub serve-requires-clause-named : goal.serve-requires-clause-named
serve-requires-clause-named g c =
    threading.named_is c.args.world.now c.args.history.now.items c.args.parts.now (g.D.VkDevice.view_of c.args.device.now) c.requires.keeps c.args.thread.0 c.at-seat.result.now c.in_ok-call-in-None.call c.at-seat.ensures
    (call_at c.args.world.now c.args.thread.0 c.at-script.result.now c.at-seat.result.now.made c.at.result.now c.in_ok-call-in-None.call c.at-script.ensures c.at.ensures c.in_ok-call-in-None.ensures)

pub seat_call-requires-clause-thread : goal.seat_call-requires-clause-thread
seat_call-requires-clause-thread g c =
    subst (λ xs. c.args.thread.0 < length xs) (sym c.in_ok-reply-in-None.ensures.parts.seats)
    (threading.thread_there c.args.world.now c.args.history.now.items c.args.parts.now (g.D.VkDevice.view_of c.args.device.now) c.requires.keeps c.args.thread.0 c.requires.ready).0

pub seat_call-requires-clause-small : goal.seat_call-requires-clause-small
seat_call-requires-clause-small g c =
    let left : c.at-seat.result.now.made < length c.at-script.result.now =
    subst (λ xs. c.at-seat.result.now.made < length xs) (script_is c.args.world.now.scripts c.args.thread.0 c.at-script.result.now c.at-script.ensures)
    (threading.call_left c.args.world.now c.args.history.now.items c.args.parts.now (g.D.VkDevice.view_of c.args.device.now) c.requires.keeps c.args.thread.0 c.at-seat.result.now c.at-seat.ensures c.in-None.is c.requires.ready) in
    omega (arith, left, c.len-count.ensures, c.len-count.type_inv)

pub returns-in-Some-clause-keeps : goal.returns-in-Some-clause-keeps
returns-in-Some-clause-keeps g c =
    subst (λ k. Keeps c.args.world.now k
    (record { lists = c.args.parts.now.lists; seats = c.wake.new.seats; fences = c.args.parts.now.fences; held = c.args.parts.now.held; numbers = c.args.parts.now.numbers }) (g.D.VkDevice.view_of c.args.device.now))
    (sym (c.push_reserved.ensures ∙ ap (λ xs. xs ++ event.Awake c.args.thread ∷ []) c.reserve.ensures.items))
    (keeps_awake c.args.world.now c.args.history.now.items c.args.parts.now
    (record { lists = c.args.parts.now.lists; seats = c.wake.new.seats; fences = c.args.parts.now.fences; held = c.args.parts.now.held; numbers = c.args.parts.now.numbers })
    (g.D.VkDevice.view_of c.args.device.now) c.args.thread c.at-seat.result.now c.in-Some.field-0 c.requires.keeps c.at-seat.ensures c.in-Some.is c.requires.ready refl refl refl refl c.wake.ensures)

pub returns-in-Some-clause-step : goal.returns-in-Some-clause-step
returns-in-Some-clause-step g c =
    threading.step_awake c.args.world.now c.args.history.now.items c.args.parts.now (g.D.VkDevice.view_of c.args.device.now) c.requires.keeps c.args.thread c.at-seat.result.now c.in-Some.field-0 c.push_reserved.new.self.items c.at-seat.ensures c.in-Some.is c.requires.ready
    (c.push_reserved.ensures ∙ ap (λ xs. xs ++ event.Awake c.args.thread ∷ []) c.reserve.ensures.items)

pub returns-in_ok-reply-in-None-clause-keeps : goal.returns-in_ok-reply-in-None-clause-keeps
returns-in_ok-reply-in-None-clause-keeps g c =
    let x : Parts = record { lists = c.serve.new.parts.lists; seats = c.seat_call.new.seats; fences = c.serve.new.parts.fences; held = c.serve.new.parts.held; numbers = c.serve.new.parts.numbers } in
    let call : Call = c.in_ok-call-in-None.call in
    let next : slice_get (script_of c.args.world.now c.args.thread.0) c.at-seat.result.now.made ≡ Some call =
    call_at c.args.world.now c.args.thread.0 c.at-script.result.now c.at-seat.result.now.made c.at.result.now call c.at-script.ensures c.at.ensures c.in_ok-call-in-None.ensures in
    let served : Serves c.args.world.now call c.args.parts.now c.serve.new.parts = c.in_ok-reply-in-None.ensures.parts in
    subst (λ k. Keeps c.args.world.now k x (g.D.VkDevice.view_of c.serve.new.device))
    (sym (c.push_reserved-in-None.ensures ∙ ap (λ xs. xs ++ event.Call c.args.thread call c.in_ok-reply-in-None.reply ∷ []) c.reserve.ensures.items))
    (keeps_call c.args.world.now c.args.history.now.items c.args.parts.now c.serve.new.parts x (g.D.VkDevice.view_of c.args.device.now) (g.D.VkDevice.view_of c.serve.new.device)
    c.args.thread call c.in_ok-reply-in-None.reply c.at-seat.result.now c.requires.keeps c.at-seat.ensures c.in-None.is next served c.in_ok-reply-in-None.ensures.reply c.in_ok-reply-in-None.ensures.state c.serve.ensures.answered.plan
    refl refl refl refl
    c.seat_call.ensures)

pub returns-in_ok-reply-in-None-clause-step : goal.returns-in_ok-reply-in-None-clause-step
returns-in_ok-reply-in-None-clause-step g c =
    let call : Call = c.in_ok-call-in-None.call in
    let next : slice_get (script_of c.args.world.now c.args.thread.0) c.at-seat.result.now.made ≡ Some call =
    call_at c.args.world.now c.args.thread.0 c.at-script.result.now c.at-seat.result.now.made c.at.result.now call c.at-script.ensures c.at.ensures c.in_ok-call-in-None.ensures in
    threading.step_call c.args.world.now c.args.history.now.items c.args.parts.now (g.D.VkDevice.view_of c.args.device.now) c.requires.keeps c.args.thread c.at-seat.result.now call c.in_ok-reply-in-None.reply c.push_reserved-in-None.new.self.items (g.D.VkDevice.view_of c.serve.new.device).state
    c.at-seat.ensures c.in-None.is next c.in_ok-reply-in-None.ensures.reply
    (c.push_reserved-in-None.ensures ∙ ap (λ xs. xs ++ event.Call c.args.thread call c.in_ok-reply-in-None.reply ∷ []) c.reserve.ensures.items)
    c.in_ok-reply-in-None.ensures.state
