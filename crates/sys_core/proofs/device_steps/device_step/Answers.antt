-- What a step of the device leaves.
use Rattle.std.proofs.Common.{◌∙◌, sym, ap, subst, refl, ◌∷◌, [], ◌++◌, slice_set}
use Rattle.d3d_machine.specs.declared.events.Event.TheVariants as event
use Rattle.vk_port.specs.declared.steps.Stepped.TheVariants.{Passed, Ran, Bumped}
use Rattle.vk_port.specs.Machine.{shown, after_stepped}
use Rattle.sys_core.specs.Parts.{updated_by, HasRoomFor}
use Rattle.sys_core.specs.Keeps.{Keeps}
use Rattle.sys_core.proofs.DeviceStep as step
use Rattle.sys_core.proofs.StepCount.{rest_is}
use Rattle.sys_core.proofs.device_steps.device_step.Goals as goal

pub returns-then-number-eq0-clause-keeps : goal.returns-then-number-eq0-clause-keeps
returns-then-number-eq0-clause-keeps g c =
    subst (λ h. Keeps c.args.world.now h (record { lists = c.args.parts.now.lists; seats = c.args.parts.now.seats; fences = c.reserve_updates.new.fences; held = c.args.parts.now.held; numbers = c.args.parts.now.numbers }) (g.D.VkDevice.view_of c.step.new.self)) (sym c.reserve.ensures.items)
    (step.keeps_start c.args.world.now c.args.history.now.items c.args.parts.now (g.D.VkDevice.view_of c.args.device.now) c.requires.keeps (record { lists = c.args.parts.now.lists; seats = c.args.parts.now.seats; fences = c.reserve_updates.new.fences; held = c.args.parts.now.held; numbers = c.args.parts.now.numbers }) (g.D.VkDevice.view_of c.step.new.self) c.in-Bumped.queue c.in-Bumped.number (record { lists = refl; seats = refl; fences = c.reserve_updates.ensures.same; held = refl; numbers = refl }) (step.means_of (shown (g.D.VkDevice.view_of c.args.device.now).state) c.args.k c.in_ok-step.field-0 (Bumped c.in-Bumped.queue c.in-Bumped.number) c.in-Bumped.is c.in_ok-step.ensures.named c.in_ok-step.ensures.free) c.if-number-eq0.true (c.in_ok-step.ensures.state ∙ ap (λ x. after_stepped (g.D.VkDevice.view_of c.args.device.now).state x []) c.in-Bumped.is) c.step.ensures.answered.plan)

pub returns-in-Passed-clause-keeps : goal.returns-in-Passed-clause-keeps
returns-in-Passed-clause-keeps g c =
    subst (λ h. Keeps c.args.world.now h (record { lists = c.args.parts.now.lists; seats = c.args.parts.now.seats; fences = c.reserve_updates.new.fences; held = c.args.parts.now.held; numbers = c.args.parts.now.numbers }) (g.D.VkDevice.view_of c.step.new.self)) (sym c.reserve.ensures.items)
    (step.keeps_pass c.args.world.now c.args.history.now.items c.args.parts.now (g.D.VkDevice.view_of c.args.device.now) c.requires.keeps (record { lists = c.args.parts.now.lists; seats = c.args.parts.now.seats; fences = c.reserve_updates.new.fences; held = c.args.parts.now.held; numbers = c.args.parts.now.numbers }) (g.D.VkDevice.view_of c.step.new.self) c.in-Passed.field-0 c.in-Passed.field-1 (record { lists = refl; seats = refl; fences = c.reserve_updates.ensures.same; held = refl; numbers = refl }) (step.means_of (shown (g.D.VkDevice.view_of c.args.device.now).state) c.args.k c.in_ok-step.field-0 (Passed c.in-Passed.field-0 c.in-Passed.field-1) c.in-Passed.is c.in_ok-step.ensures.named c.in_ok-step.ensures.free) (c.in_ok-step.ensures.state ∙ ap (λ x. after_stepped (g.D.VkDevice.view_of c.args.device.now).state x []) c.in-Passed.is) c.step.ensures.answered.plan)

pub returns-in-Ran-clause-keeps : goal.returns-in-Ran-clause-keeps
returns-in-Ran-clause-keeps g c =
    subst (λ h. Keeps c.args.world.now h (record { lists = c.args.parts.now.lists; seats = c.args.parts.now.seats; fences = c.reserve_updates.new.fences; held = c.args.parts.now.held; numbers = c.args.parts.now.numbers }) (g.D.VkDevice.view_of c.step.new.self)) (sym c.reserve.ensures.items)
    (step.keeps_ran c.args.world.now c.args.history.now.items c.args.parts.now (g.D.VkDevice.view_of c.args.device.now) c.requires.keeps (record { lists = c.args.parts.now.lists; seats = c.args.parts.now.seats; fences = c.reserve_updates.new.fences; held = c.args.parts.now.held; numbers = c.args.parts.now.numbers }) (g.D.VkDevice.view_of c.step.new.self) c.in-Ran.field-0 c.in-Ran.field-1 c.in-Ran.field-2 (record { lists = refl; seats = refl; fences = c.reserve_updates.ensures.same; held = refl; numbers = refl }) (step.means_of (shown (g.D.VkDevice.view_of c.args.device.now).state) c.args.k c.in_ok-step.field-0 (Ran c.in-Ran.field-0 c.in-Ran.field-1 c.in-Ran.field-2) c.in-Ran.is c.in_ok-step.ensures.named c.in_ok-step.ensures.free) (c.in_ok-step.ensures.state ∙ ap (λ x. after_stepped (g.D.VkDevice.view_of c.args.device.now).state x []) c.in-Ran.is) c.step.ensures.answered.plan)

pub at_mut-requires : goal.at_mut-requires
at_mut-requires g c =
    step.held_some c.args.world.now c.args.history.now.items c.args.parts.now (g.D.VkDevice.view_of c.args.device.now) c.requires.keeps c.in-Bumped.queue c.in-Bumped.number (step.means_of (shown (g.D.VkDevice.view_of c.args.device.now).state) c.args.k c.in_ok-step.field-0 (Bumped c.in-Bumped.queue c.in-Bumped.number) c.in-Bumped.is c.in_ok-step.ensures.named c.in_ok-step.ensures.free)

pub update_by-requires : goal.update_by-requires
update_by-requires g c =
    subst (λ o. HasRoomFor o c.reserve_updates.new.fences) (sym c.take_signal-signal.ensures.signal)
    (step.room_end c.args.world.now c.args.history.now.items c.args.parts.now (g.D.VkDevice.view_of c.args.device.now) c.requires.keeps c.in-Bumped.queue c.in-Bumped.number c.at_mut.result.now c.reserve_updates.new.fences (step.means_of (shown (g.D.VkDevice.view_of c.args.device.now).state) c.args.k c.in_ok-step.field-0 (Bumped c.in-Bumped.queue c.in-Bumped.number) c.in-Bumped.is c.in_ok-step.ensures.named c.in_ok-step.ensures.free) c.at_mut.ensures.value c.in_ok-reserve_updates.ensures.room)

pub returns-else-number-eq0-clause-keeps : goal.returns-else-number-eq0-clause-keeps
returns-else-number-eq0-clause-keeps g c =
    subst (λ h. Keeps c.args.world.now h (record { lists = c.args.parts.now.lists; seats = c.args.parts.now.seats; fences = c.update_by.new.fences; held = slice_set c.args.parts.now.held c.in-Bumped.queue c.take_signal-signal.new.held; numbers = c.args.parts.now.numbers }) (g.D.VkDevice.view_of c.step.new.self))
    (sym (c.push_reserved.ensures ∙ ap (λ h. h ++ event.Queue (record { 0 = c.in-Bumped.queue }) ∷ []) c.reserve.ensures.items))
    (step.keeps_end_by c.args.world.now c.args.history.now.items c.args.parts.now (g.D.VkDevice.view_of c.args.device.now) c.requires.keeps c.update_by.new.fences (g.D.VkDevice.view_of c.step.new.self) c.in-Bumped.queue c.in-Bumped.number c.at_mut.result.now c.take_signal-signal.new.held c.take_signal-signal.result (step.means_of (shown (g.D.VkDevice.view_of c.args.device.now).state) c.args.k c.in_ok-step.field-0 (Bumped c.in-Bumped.queue c.in-Bumped.number) c.in-Bumped.is c.in_ok-step.ensures.named c.in_ok-step.ensures.free) c.if-number-eq0.false c.at_mut.ensures.value
    c.take_signal-signal.ensures.signal c.take_signal-signal.ensures.rest
    (c.update_by.ensures ∙ ap (updated_by c.take_signal-signal.result) c.reserve_updates.ensures.same)
    (c.in_ok-step.ensures.state ∙ ap (λ x. after_stepped (g.D.VkDevice.view_of c.args.device.now).state x []) c.in-Bumped.is) c.step.ensures.answered.plan)

pub returns-in-Passed-clause-rest : goal.returns-in-Passed-clause-rest
returns-in-Passed-clause-rest g c =
    rest_is (shown (g.D.VkDevice.view_of c.args.device.now).state) c.args.k c.in_ok-step.field-0 (g.D.VkDevice.view_of c.args.device.now).rest (g.D.VkDevice.view_of c.step.new.self).rest c.in_ok-step.ensures.named c.in_ok-step.ensures.free c.in_ok-step.ensures.rest

pub returns-in-Ran-clause-rest : goal.returns-in-Ran-clause-rest
returns-in-Ran-clause-rest g c =
    rest_is (shown (g.D.VkDevice.view_of c.args.device.now).state) c.args.k c.in_ok-step.field-0 (g.D.VkDevice.view_of c.args.device.now).rest (g.D.VkDevice.view_of c.step.new.self).rest c.in_ok-step.ensures.named c.in_ok-step.ensures.free c.in_ok-step.ensures.rest

pub returns-then-number-eq0-clause-rest : goal.returns-then-number-eq0-clause-rest
returns-then-number-eq0-clause-rest g c =
    rest_is (shown (g.D.VkDevice.view_of c.args.device.now).state) c.args.k c.in_ok-step.field-0 (g.D.VkDevice.view_of c.args.device.now).rest (g.D.VkDevice.view_of c.step.new.self).rest c.in_ok-step.ensures.named c.in_ok-step.ensures.free c.in_ok-step.ensures.rest

pub returns-else-number-eq0-clause-rest : goal.returns-else-number-eq0-clause-rest
returns-else-number-eq0-clause-rest g c =
    rest_is (shown (g.D.VkDevice.view_of c.args.device.now).state) c.args.k c.in_ok-step.field-0 (g.D.VkDevice.view_of c.args.device.now).rest (g.D.VkDevice.view_of c.step.new.self).rest c.in_ok-step.ensures.named c.in_ok-step.ensures.free c.in_ok-step.ensures.rest

pub returns-in-Free-clause-rest : goal.returns-in-Free-clause-rest
returns-in-Free-clause-rest g c =
    rest_is (shown (g.D.VkDevice.view_of c.args.device.now).state) c.args.k c.in_ok-step.field-0 (g.D.VkDevice.view_of c.args.device.now).rest (g.D.VkDevice.view_of c.step.new.self).rest c.in_ok-step.ensures.named c.in_ok-step.ensures.free c.in_ok-step.ensures.rest
