-- The lane is one of those that are numbered.
use Rattle.std.proofs.Common.{◌∙◌, sym, ap}
use Rattle.std.proofs.lemmas.Option.{get_or_from_slice_get}
use Rattle.vk_port.specs.After.{command_at}
use Rattle.vk_port.specs.declared.lanes.Lane.{Lane}
use Rattle.vk_port.specs.Fronts.{is_numbered}
use Rattle.vk_port.specs.VkState.{no_lane}
use Rattle.vk_port.proofs.DeviceStages.{all_at}
use Rattle.vk_port.proofs.queues.command_of.Goals as goal

pub command_at-requires : goal.command_at-requires
command_at-requires c = all_at is_numbered c.args.lanes.now c.args.queue c.at.result.now c.requires.numbered c.at.ensures

pub returns : goal.returns
returns c =
    c.command_at.ensures ∙ sym (ap (λ (l : Lane). command_at c.args.number c.args.place l.batches) (get_or_from_slice_get c.args.lanes.now c.args.queue c.at.result.now no_lane c.at.ensures))
