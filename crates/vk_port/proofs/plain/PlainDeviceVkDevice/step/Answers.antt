-- The step that is found can be taken.
use Rattle.std.proofs.Common.{◌≡◌, ◌+◌, ◌<◌, length, arith, refl, sym, subst, Some, slice_get}
use Rattle.vk_port.specs.Enabled.{enabled_steps}
use Rattle.vk_port.specs.Stored.{state_of}
use Rattle.vk_port.specs.VkState.{VkState}
use Rattle.vk_port.proofs.Enabled.{enabled_means, no_rest}
use Rattle.vk_port.proofs.Finding.{found_at, found_left}
use Rattle.vk_port.proofs.Tying.{stored_is, tied_step}
use Rattle.vk_port.proofs.plain.PlainDeviceVkDevice.step.Goals as goal

pub unreachable-requires : goal.unreachable-requires
unreachable-requires g c =
    let v = state_of c.args.self.now.store in
    let past : c.args.k ≡ length (enabled_steps v) + c.in-Left.field-0 = found_left (enabled_steps v) c.args.k c.in-Left.field-0 c.in-Left.ensures in
    let offered : c.args.k < length (enabled_steps v) + 0 = subst (λ (u : VkState). c.args.k < length (enabled_steps u) + 0) (sym (stored_is c.args.self.now.store c.args.self.now.kept c.args.self.now.tied)) c.requires.offered in
    omega (arith, past, offered)

pub take-requires : goal.take-requires
take-requires g c =
    let v = state_of c.args.self.now.store in
    enabled_means v c.args.k c.in-At.step (found_at (enabled_steps v) c.args.k c.in-At.step c.in-At.ensures)

pub invariant_of-self-in-At : goal.invariant_of-self-in-At
invariant_of-self-in-At g c =
    let v = state_of c.args.self.now.store in
    let enabled = enabled_means v c.args.k c.in-At.step (found_at (enabled_steps v) c.args.k c.in-At.step c.in-At.ensures) in
    record {
      tied = tied_step c.args.self.now.store c.args.self.now.kept c.args.self.now.tied c.take.new.self c.then-self.result c.in_ok-take-in-At.ensures.queues c.in-At.step c.then-self.ensures enabled
          c.in_ok-take-in-At.ensures.ok c.in_ok-take-in-At.ensures.words;
    }

pub returns-clause-named : goal.returns-clause-named
returns-clause-named g c =
    let v = state_of c.args.self.now.store in
    λ _. subst (λ (u : VkState). slice_get (enabled_steps u) c.args.k ≡ Some c.in-At.step) (stored_is c.args.self.now.store c.args.self.now.kept c.args.self.now.tied) (found_at (enabled_steps v) c.args.k c.in-At.step c.in-At.ensures)

pub returns-clause-rest : goal.returns-clause-rest
returns-clause-rest g c =
    let v = state_of c.args.self.now.store in
    let none = no_rest v c.in-At.step (enabled_means v c.args.k c.in-At.step (found_at (enabled_steps v) c.args.k c.in-At.step c.in-At.ensures)) in
    rw none refl
