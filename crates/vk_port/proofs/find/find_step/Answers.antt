-- The passes stand first.
use Rattle.std.proofs.Common.{◌++◌, ◌∙◌, refl, sym}
use Rattle.vk_port.specs.Enabled.{passes, commands, bumps}
use Rattle.vk_port.proofs.Finding.{found_first, found_second}
use Rattle.vk_port.proofs.find.find_step.Goals as goal

pub returns-in-At : goal.returns-in-At
returns-in-At c =
    found_first (passes c.args.timelines.now 0 c.args.lanes.now) (commands 0 c.args.lanes.now ++ bumps 0 c.args.lanes.now) c.args.k _ c.in-At.step refl c.in-At.ensures

pub returns-in-Left : goal.returns-in-Left
returns-in-Left c =
    c.find_behind_passes.ensures
    ∙ sym (found_second (passes c.args.timelines.now 0 c.args.lanes.now) (commands 0 c.args.lanes.now ++ bumps 0 c.args.lanes.now) c.args.k _ c.in-Left.left refl c.in-Left.ensures)
