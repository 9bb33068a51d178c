-- The buffers are those of the plan.
use Rattle.std.proofs.Common.{◌∙◌, ap, sym}
use Rattle.vk_types.specs.declared.plan.DevicePlan.{DevicePlan}
use Rattle.vk_sync_rules.specs.VkState.{first_state}
use Rattle.vk_port.specs.Plain.{view_of}
use Rattle.vk_port.proofs.Examples.{all_inside, ok_of, sizes_of}
use Rattle.vk_port.proofs.MachineSizes.{write_sized}
use Rattle.port_rows.proofs.device_rows.first_lost.Goals as goal

pub take-requires-clause-sizes : goal.take-requires-clause-sizes
take-requires-clause-sizes c =
    let created = ok_of c.create.result (sym c.is_err.ensures.value ∙ c.if-is_err.false) c.create.ensures.state in
    let written = ok_of c.host_write.result (sym c.is_err-2.ensures.value ∙ c.if-is_err-2.false) c.host_write.ensures.state in
    let submitted = ok_of c.submit.result (sym c.is_err-3.ensures.value ∙ c.if-is_err-3.false) c.submit.ensures.state in
    ap sizes_of submitted ∙ (ap sizes_of written ∙ (write_sized (view_of c.create.new.self).state 0 0 c.as_slice.result.now ∙ (ap sizes_of created ∙ ap (λ (p : DevicePlan). sizes_of (first_state p)) c.requires.plan)))

pub host_read-requires-clause-inside : goal.host_read-requires-clause-inside
host_read-requires-clause-inside c = all_inside (view_of c.take.new.device).state c.take.ensures.sizes
