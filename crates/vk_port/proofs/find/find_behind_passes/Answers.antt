-- The commands stand before the ends.
use Rattle.std.proofs.Common.{◌∙◌, refl, sym}
use Rattle.vk_port.specs.Enabled.{commands, bumps}
use Rattle.vk_port.proofs.Finding.{found_first, found_second}
use Rattle.vk_port.proofs.find.find_behind_passes.Goals as goal

pub returns-in-At : goal.returns-in-At
returns-in-At c = found_first (commands 0 c.args.lanes.now) (bumps 0 c.args.lanes.now) c.args.k _ c.in-At.step refl c.in-At.ensures

pub returns-in-Left : goal.returns-in-Left
returns-in-Left c =
    c.find_bumps.ensures ∙ sym (found_second (commands 0 c.args.lanes.now) (bumps 0 c.args.lanes.now) c.args.k _ c.in-Left.left refl c.in-Left.ensures)
