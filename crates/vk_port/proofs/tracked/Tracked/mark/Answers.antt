-- The block of the command is counted again.
use Rattle.std.proofs.Common.{◌≤◌, ◌-◌, ◌/◌, length, arith}
use Rattle.vk_port.proofs.Blocks.{blocks_marked, blocks_past}
use Rattle.vk_port.proofs.LanePlaces.{set_all}
use Rattle.vk_port.proofs.tracked.Tracked.mark.Goals as goal

pub invariant_of-self : goal.invariant_of-self
invariant_of-self c =
    (c.done_to-self-inside.ensures, rw (c.counted.ensures, c.mark.ensures, c.saturating_sub-at.ensures) (blocks_marked c.self.inside.running c.self.inside.blocks c.args.place c.at.result.now.stage c.self.invariant.1))

pub invariant_of-self-else-number-len : goal.invariant_of-self-else-number-len
invariant_of-self-else-number-len c =
    let past : length c.self.inside.blocks ≤ (c.args.place - 1) / 32 = grind (arith, c.if-number-len.false, c.saturating_sub-at.ensures, c.len.ensures) in
    (c.done_to-self-inside.ensures, rw c.mark.ensures (blocks_past c.self.inside.running c.self.inside.blocks c.args.place past c.self.invariant.1))

pub done_to-self-inside-requires : goal.done_to-self-inside-requires
done_to-self-inside-requires c = rw c.mark.ensures (set_all c.self.inside.running.done (c.args.place - 1) c.self.inside.front c.self.invariant.0)
