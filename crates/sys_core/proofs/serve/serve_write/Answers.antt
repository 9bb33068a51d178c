-- A write that is refused leaves the device.
use Rattle.std.proofs.Common.{◌≡◌, ◌∙◌, ◌/◌, sym, ap, length, Some}
use Rattle.dx_base.specs.Effects.{at, unless}
use Rattle.d3d_machine.specs.Checks.{write_refusal}
use Rattle.sys_core.specs.Host.{after_store}
use Rattle.sys_core.proofs.serve.serve_write.Goals as goal

pub returns-in-Some-clause-state : goal.returns-in-Some-clause-state
returns-in-Some-clause-state g c =
    let refused : write_refusal c.args.world.now c.args.buffer.0 c.args.offset (length c.args.words.now) ≡ Some c.in-Some.error =
    ap (write_refusal c.args.world.now c.args.buffer.0 c.args.offset) (sym c.len.ensures) ∙ sym c.write_refusal.ensures ∙ c.in-Some.is in
    ap (λ r. after_store c.args.world.now (g.D.VkDevice.view_of c.args.device.now).state (unless (at c.args.buffer.0 (c.args.offset / 4, c.args.words.now)) r)) (sym refused)
